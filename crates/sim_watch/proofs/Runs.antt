-- What a run has written, or was cut within, as the journal of the whole run.
use Rattle.std.specs.Prelude.{◌≡◌, ◌≤◌, ◌++◌, ℕ, List, [], ◌∷◌, Option, Some, None, unwrap_or, Result, Ok, Err}
use Rattle.std.proofs.Common.{sym, ap, ◌∙◌, subst, inr}
use Rattle.event_trace.specs.declared.trace.Trace.{Trace}
use Rattle.journal.specs.declared.fault.Fault.{Fault}
use Rattle.journal.specs.declared.fault.Fault.TheVariants as fault
use Rattle.journal.specs.Write.{Journal}
use Rattle.journal.specs.View.{View, Wrote, Cut, Writes}
use Rattle.journal.specs.Laws.{wrote_more, cut_more, cut_within, cut_none, gave_up_cut}
use Rattle.sim_safe.specs.State.{State}
use Rattle.sim_safe.specs.Record.{Item}
use Rattle.sim_safe.specs.Commit.{onto}
use Rattle.sim_safe.specs.Run.{items_of, items_front}
use Rattle.sim_watch.specs.Watch.{writes_of, written_of, last_piece, run_journal, CutBehind, CutAtNewest, CutByKept, WritesOrCut}
use Rattle.sim_watch.specs.Run.{CutInRun}
use Rattle.sim_watch.proofs.Items.{written_grow, onto_append}

-- a write that was given up was cut
pub written_or_cut : {O T : Type 0} (v : View O) (a b : O) (h : Journal) (r : Result T Fault) → Writes v a h b r → WritesOrCut v a h b r
written_or_cut v a b h (Ok x) q = q
written_or_cut v a b h (Err f) q = gave_up_cut v a b h f q

-- ---- cuts

-- the fault that a watch kept is the one that is told
pub kept_cut : {O : Type 0} (v : View O) (file : Option (List ℕ)) (was : List ℕ) (a b : O) (h : List Item) (kept : Option Fault) (f r : Fault) → was ≡ [] → r ≡ unwrap_or kept f → CutByKept v file was a h kept b → CutAtNewest v file [] a h r b
kept_cut v file was a b h None f r w e q = absurd q
kept_cut v file was a b h (Some k) f r w e q = subst (λ x. CutAtNewest v file [] a h x b) (sym e) (subst (λ x. CutAtNewest v file x a h k b) w q)

-- what was cut at the newest item was cut within what all items write
pub newest_cut : {O : Type 0} (v : View O) (file : Option (List ℕ)) (was : List ℕ) (a b : O) (h : List Item) (f : Fault) → CutAtNewest v file was a h f b → Cut v a (written_of file was h).journal f b
unfolding written_of
newest_cut v file was a b [] f q = absurd q
newest_cut v file was a b (i ∷ h) f q = let w = written_of file was h in cut_more v a q.between b w.journal (writes_of file w.pending i) f q.wrote q.cut

-- what was cut within the first items was cut within the whole run
pub cut_in_whole : {O : Type 0} (v : View O) (file : Option (List ℕ)) (a b : O) (first more whole : List Item) (f : Fault) → whole ≡ first ++ more
    → Cut v a (written_of file [] (onto first [])).journal f b → Cut v a (run_journal file whole) f b
cut_in_whole v file a b first more whole f e q =
    let h = onto first [] in
    let all = written_of file [] (onto whole []) in
    let later = written_grow file [] more h in
    let grown : later.0 ++ (written_of file [] h).journal ≡ all.journal = sym later.1 ∙ ap (λ l. (written_of file [] l).journal) (sym (onto_append first more [])) ∙ ap (λ l. (written_of file [] (onto l [])).journal) (sym e) in
    cut_within v a b all.journal (last_piece file all.pending) f (subst (λ l. Cut v a l f b) grown (cut_within v a b (written_of file [] h).journal later.0 f q))

-- so it is of the first steps
pub cut_in_steps : {O : Type 0} (v : View O) (file : Option (List ℕ)) (a b : O) (trace : Trace) (done n : ℕ) (s : State) (f : Fault) → done ≤ n
    → Cut v a (written_of file [] (onto (items_of trace done s) [])).journal f b → Cut v a (run_journal file (items_of trace n s)) f b
cut_in_steps v file a b trace done n s f most q =
    let front : (more : List Item) × (items_of trace n s ≡ items_of trace done s ++ more) = items_front trace done n s most in
    cut_in_whole v file a b (items_of trace done s) front.0 (items_of trace n s) f front.1 q

-- all of some items was written, and then memory ran out
pub memory_cut : {O : Type 0} (v : View O) (a b : O) (h : Journal) → Wrote v a h b → Cut v a h fault.OutOfMemory b
memory_cut v a b h wrote = cut_more v a b b h [] fault.OutOfMemory wrote (cut_none v b [])

pub memory_behind : {O : Type 0} (v : View O) (a b : O) (h next : Journal) → Wrote v a h b → CutBehind v a h next fault.OutOfMemory b
memory_behind v a b h next wrote = record { between = b; wrote = wrote; cut = cut_none v b next }

-- ---- whole runs

pub from_nothing : {O : Type 0} (v : View O) (file : Option (List ℕ)) (was : List ℕ) (a b : O) (h : List Item) → was ≡ [] → Wrote v a (written_of file was h).journal b → Wrote v a (written_of file [] h).journal b
from_nothing v file was a b h e wrote = subst (λ x. Wrote v a (written_of file x h).journal b) e wrote

-- the last piece that is written is what is pending
pub last_is : (file other : Option (List ℕ)) (was pending bytes : List ℕ) (h : List Item) → was ≡ [] → other ≡ file → pending ≡ (written_of file was h).pending → bytes ≡ pending → last_piece other bytes ≡ last_piece file (written_of file [] h).pending
last_is file other was pending bytes h e f p b = ap (λ x. last_piece x bytes) f ∙ ap (last_piece file) (b ∙ p ∙ ap (λ x. (written_of file x h).pending) e)

pub run_written : {O : Type 0} (v : View O) (a b c : O) (file : Option (List ℕ)) (items : List Item) (last : Journal) → last ≡ last_piece file (written_of file [] (onto items [])).pending
    → Wrote v a (written_of file [] (onto items [])).journal b → Wrote v b last c → Wrote v a (run_journal file items) c
run_written v a b c file items last e wrote rest =
    let w = written_of file [] (onto items []) in
    wrote_more v a b c w.journal (last_piece file w.pending) wrote (subst (λ l. Wrote v b l c) e rest)

pub last_cut : {O : Type 0} (v : View O) (a b c : O) (file : Option (List ℕ)) (h : List Item) (last : Journal) (f : Fault) → last ≡ last_piece file (written_of file [] h).pending
    → Wrote v a (written_of file [] h).journal b → Cut v b last f c → CutBehind v a (written_of file [] h).journal (last_piece file (written_of file [] h).pending) f c
last_cut v a b c file h last f e wrote rest = record { between = b; wrote = wrote; cut = subst (λ l. Cut v b l f c) e rest }

pub run_cut : {O : Type 0} (v : View O) (a c : O) (file : Option (List ℕ)) (items : List Item) (f : Fault)
    → CutBehind v a (written_of file [] (onto items [])).journal (last_piece file (written_of file [] (onto items [])).pending) f c → Cut v a (run_journal file items) f c
run_cut v a c file items f q = let w = written_of file [] (onto items []) in cut_more v a q.between c w.journal (last_piece file w.pending) f q.wrote q.cut

-- at the end of a run the last step is the last of its items
pub at_end : {O : Type 0} (v : View O) (file : Option (List ℕ)) (a b : O) (items first : List Item) (f : Fault) → first ≡ items
    → CutBehind v a (written_of file [] (onto items [])).journal (last_piece file (written_of file [] (onto items [])).pending) f b → CutInRun v file a (onto first []) f b
at_end v file a b items first f e q = inr (subst (λ x. CutBehind v a (written_of file [] (onto x [])).journal (last_piece file (written_of file [] (onto x [])).pending) f b) (sym e) q)

-- ---- where no file is named

pub unnamed_wrote : {O : Type 0} (v : View O) (file : Option (List ℕ)) (a b : O) (h : List Item) → file ≡ None → Wrote v a (written_of file [] h).journal b → Wrote v a (written_of None [] h).journal b
unnamed_wrote v file a b h e q = subst (λ x. Wrote v a (written_of x [] h).journal b) e q

pub unnamed_cut : {O : Type 0} (v : View O) (file : Option (List ℕ)) (a b : O) (h : List Item) (f : Fault) → file ≡ None → CutAtNewest v file [] a h f b → CutAtNewest v None [] a h f b
unnamed_cut v file a b h f e q = subst (λ x. CutAtNewest v x [] a h f b) e q
