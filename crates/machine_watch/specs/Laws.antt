-- Laws of watches: what they write, thing by thing and in the end, is the journal of the run.
use Rattle.std.specs.Prelude.{◌≡◌, ◌++◌, ℕ, List, [], ◌∷◌, Option, Some, None, Result, Ok, Err, unwrap_or}
use Rattle.std.proofs.Common.{inl, inr, refl, sym, ap, ◌∙◌, subst, append_assoc}
use Rattle.journal.specs.declared.fault.Fault.{Fault}
use Rattle.journal.specs.Write.{Journal}
use Rattle.journal.specs.View.{View, Wrote, Cut}
use Rattle.journal.specs.Laws.{wrote_none, wrote_more, cut_more, cut_within}
use Rattle.sim_watch.specs.Watch.{WritesOrCut}
use Rattle.ooo_table.specs.declared.event.EndWord.{EndWord}
use Rattle.core_watch.specs.Shown.{Shown, behind, CutWithin}
use Rattle.core_watch.specs.ShownLaws.{behind_append}
use Rattle.machine_watch.specs.Watch.{Names, Pending, nothing_pending, writes_of, left_of, written_of, last_writes, finished, run_journal, Taken, CutAtNewest, CutByKept}

-- ---- one by one

pub taken_none : {O : Type 0} (v : View O) (names : Names) (a : O) (was : Pending) → Taken v names a was [] a was
unfolding written_of
taken_none v names a was = record { pending = refl; wrote = wrote_none v a }

-- one thing more was shown, and all of its writes were done
pub taken_next : {O : Type 0} (v : View O) (a b c : O) (names other : Names) (was p q : Pending) (h : List Shown) (x : Shown) → other ≡ names → Taken v names a was h b p
    → Wrote v b (writes_of other p x) c → q ≡ left_of other p x → Taken v names a was (x ∷ h) c q
unfolding written_of
taken_next v a b c names other was p q h x e t w l =
    let so_far = written_of names was h in
    let w2 = subst (λ n. Wrote v b (writes_of n p x) c) e w in
    let w3 = subst (λ r. Wrote v b (writes_of names r x) c) t.pending w2 in
    record {
      pending = l ∙ ap (λ n. left_of n p x) e ∙ ap (λ r. left_of names r x) t.pending;
      wrote = wrote_more v a b c so_far.journal (writes_of names so_far.pending x) t.wrote w3;
    }

-- or they were cut
pub cut_next : {O : Type 0} (v : View O) (a b c : O) (names other : Names) (was p : Pending) (h : List Shown) (x : Shown) (f : Fault) → other ≡ names → Taken v names a was h b p
    → Cut v b (writes_of other p x) f c → CutAtNewest v names a was (x ∷ h) f c
cut_next v a b c names other was p h x f e t k =
    let k2 = subst (λ n. Cut v b (writes_of n p x) f c) e k in
    record { between = b; wrote = t.wrote; cut = subst (λ r. Cut v b (writes_of names r x) f c) t.pending k2 }

-- ---- the end of a run

-- what is written of a history comes before what is written of more
pub written_grow : (names : Names) (was : Pending) (xs h : List Shown) → (later : Journal) × ((written_of names was (behind xs h)).journal ≡ later ++ (written_of names was h).journal)
unfolding written_of
written_grow names was [] h = ([], refl)
written_grow names was (x ∷ xs) h =
    let more = written_grow names was xs (x ∷ h) in
    let so_far = written_of names was h in
    let next = writes_of names so_far.pending x in
    (more.0 ++ next, more.1 ∙ sym (append_assoc more.0 next so_far.journal))

-- a watch that was finished has written all of its run, or was cut within that
pub run_finished : {O T : Type 0} (v : View O) (a b c : O) (names : Names) (was now : Pending) (h : List Shown) (cycles : ℕ) (end : EndWord) (r : Result T Fault) → Taken v names a was h b now
    → WritesOrCut v b (last_writes names now cycles end) c r → WritesOrCut v a (finished names (written_of names was h) cycles end) c r
run_finished v a b c names was now h cycles end (Ok x) t w =
    let so_far = written_of names was h in
    wrote_more v a b c so_far.journal (last_writes names so_far.pending cycles end) t.wrote (subst (λ p. Wrote v b (last_writes names p cycles end) c) t.pending w)
run_finished v a b c names was now h cycles end (Err f) t w =
    let so_far = written_of names was h in
    cut_more v a b c so_far.journal (last_writes names so_far.pending cycles end) f t.wrote (subst (λ p. Cut v b (last_writes names p cycles end) f c) t.pending w)

-- ---- a watch that was cut

-- it was cut within the writes of a history
cut_at : {O : Type 0} (v : View O) (a b : O) (names : Names) (was : Pending) (h : List Shown) (f : Fault) → CutAtNewest v names a was h f b → Cut v a (written_of names was h).journal f b
unfolding written_of
cut_at v a b names was [] f k = absurd k
cut_at v a b names was (x ∷ h) f k =
    let so_far = written_of names was h in
    cut_more v a k.between b so_far.journal (writes_of names so_far.pending x) f k.wrote k.cut

-- and so within those of all that was to be shown behind it
pub cut_in_run : {O : Type 0} (v : View O) (a b : O) (names : Names) (was : Pending) (xs h : List Shown) (cycles : ℕ) (end : EndWord) (f : Fault) → CutAtNewest v names a was h f b
    → Cut v a (finished names (written_of names was (behind xs h)) cycles end) f b
cut_in_run v a b names was xs h cycles end f k =
    let whole = written_of names was (behind xs h) in
    let done = (written_of names was h).journal in
    let more = written_grow names was xs h in
    let all = cut_within v a b done more.0 f (cut_at v a b names was h f k) in
    cut_within v a b whole.journal (last_writes names whole.pending cycles end) f (subst (λ (l : Journal). Cut v a l f b) (sym more.1) all)

-- within which of a list a watch was cut
pub cut_among : {S : Type 0} (cut : S → List Shown → S → Type 0) (start now : S) (xs h : List Shown) → CutWithin cut start h xs now
    → (front : List Shown) × (rest : List Shown) × (behind rest front ≡ behind xs h) × cut start front now
cut_among cut start now [] h k = absurd k
cut_among cut start now (x ∷ xs) h (inl k) = (x ∷ h, xs, refl, k)
cut_among cut start now (x ∷ xs) h (inr k) = cut_among cut start now xs (x ∷ h) k

-- a cut that says another thing
pub cut_as : {S T : Type 0} (cut : S → List Shown → S → Type 0) (other : T → List Shown → T → Type 0) (start now : S) (a b : T) (xs h : List Shown)
    → ((front : List Shown) → cut start front now → other a front b) → CutWithin cut start h xs now → CutWithin other a h xs b
cut_as cut other start now a b [] h f k = k
cut_as cut other start now a b (x ∷ xs) h f (inl k) = inl (f (x ∷ h) k)
cut_as cut other start now a b (x ∷ xs) h f (inr k) = inr (cut_as cut other start now a b xs (x ∷ h) f k)

-- a run that was cut within one of these is cut within its journal, whatever was to be shown behind them
pub run_cut : {O : Type 0} (v : View O) (a b : O) (names : Names) (xs ys : List Shown) (cycles : ℕ) (end : EndWord) (f : Fault)
    → CutWithin (λ start h now. CutAtNewest v names start nothing_pending h f now) a [] xs b → Cut v a (run_journal names (xs ++ ys) cycles end) f b
run_cut v a b names xs ys cycles end f k =
    let q = cut_among (λ start h now. CutAtNewest v names start nothing_pending h f now) a b xs [] k in
    let same : behind (q.1 ++ ys) q.0 ≡ behind (xs ++ ys) [] = behind_append q.1 ys q.0 ∙ ap (behind ys) q.2 ∙ sym (behind_append xs ys []) in
    subst (λ (h : List Shown). Cut v a (finished names (written_of names nothing_pending h) cycles end) f b) same (cut_in_run v a b names nothing_pending (q.1 ++ ys) q.0 cycles end f q.3)

-- so it is by the fault that a watch kept
pub kept_cut : {O : Type 0} (v : View O) (names : Names) (a : O) (was : Pending) (h : List Shown) (kept : Option Fault) (other : Fault) (b : O) → CutByKept v names a was h kept b
    → CutAtNewest v names a was h (unwrap_or kept other) b
kept_cut v names a was h None other b k = absurd k
kept_cut v names a was h (Some f) other b k = k

pub run_cut_by_kept : {O : Type 0} (v : View O) (a b : O) (names : Names) (xs ys : List Shown) (cycles : ℕ) (end : EndWord) (kept : Option Fault) (other : Fault)
    → CutWithin (λ start h now. CutByKept v names start nothing_pending h kept now) a [] xs b → Cut v a (run_journal names (xs ++ ys) cycles end) (unwrap_or kept other) b
run_cut_by_kept v a b names xs ys cycles end kept other k =
    run_cut v a b names xs ys cycles end (unwrap_or kept other)
    (cut_as (λ start h now. CutByKept v names start nothing_pending h kept now) (λ start h now. CutAtNewest v names start nothing_pending h (unwrap_or kept other) now) a b a b xs []
    (λ front q. kept_cut v names a nothing_pending front kept other b q) k)
