-- Journals behind which a run may write: its files were made empty, and nothing was reported.
use Rattle.std.specs.Prelude.{◌++◌, ℕ, Bool, true, false, List, [], ◌∷◌, Option, Some, None, IsSome, if◌then◌else◌, unwrap_or, bytes_eq}
use Rattle.std.proofs.Common.{refl, sym, subst, ◌∙◌, append_assoc}
use Rattle.event_trace.specs.declared.trace.Block.{Block}
use Rattle.journal.specs.declared.fault.Fault.TheVariants as fault
use Rattle.journal.specs.Write.{Journal, Append, Output, Lacks}
use Rattle.journal.specs.Texts.{text_in, StartsFiles}
use Rattle.sim_safe.specs.Commit.{line_of, blocks_of}
use Rattle.sim_watch.specs.Watch.{is_short, last_piece, piece_with, puts_of}
use Rattle.ooo_table.specs.declared.event.EndWord.{EndWord}
use Rattle.pipetrace.specs.Text.{end_line, event_text}
use Rattle.core_watch.specs.Shown.{Shown, Happened, Committed, behind}
use Rattle.machine_watch.specs.Watch.{Names, Pending, nothing_pending, writes_of, written_of, run_journal}

-- a file that is named was made empty
abbrev pub IsStarted : Option (List ℕ) → Journal → Type 0
IsStarted None h = Unit {0}
IsStarted (Some file) h = IsSome (text_in h file)

pub record AreStarted (names : Names) (h : Journal) : Type 0 where
  pub starts : StartsFiles h
  pub commits : IsStarted names.commits h
  pub ptrace : IsStarted names.ptrace h
  pub lacks : Lacks fault.Stat h

-- ---- each write keeps it

some_of : (b : Bool) (t : Option (List ℕ)) (x : List ℕ) → IsSome t → IsSome (if b then Some x else t)
some_of true t x s = refl
some_of false t x s = s

append_starts : (file : Option (List ℕ)) (other bytes : List ℕ) (h : Journal) → IsStarted file h → IsStarted file (Append other bytes ∷ h)
append_starts None other bytes h s = s
append_starts (Some file) other bytes h s = some_of (bytes_eq file other) (text_in h file) (unwrap_or (text_in h file) [] ++ bytes) s

output_starts : (file : Option (List ℕ)) (bytes : List ℕ) (h : Journal) → IsStarted file h → IsStarted file (Output bytes ∷ h)
output_starts None bytes h s = s
output_starts (Some file) bytes h s = s

append_keeps : (names : Names) (file bytes : List ℕ) (h : Journal) → IsSome (text_in h file) → AreStarted names h → AreStarted names (Append file bytes ∷ h)
append_keeps names file bytes h t s = record {
  starts = (t, s.starts);
  commits = append_starts names.commits file bytes h s.commits;
  ptrace = append_starts names.ptrace file bytes h s.ptrace;
  lacks = (λ e. cc, s.lacks);
}

puts_keep : (names : Names) (blocks : List Block) (h : Journal) → AreStarted names h → AreStarted names (puts_of blocks ++ h)
puts_keep names [] h s = s
puts_keep names (b ∷ bs) h s =
    let one : AreStarted names (Output b.bytes ∷ h) = record { starts = (tt, s.starts); commits = output_starts names.commits b.bytes h s.commits; ptrace = output_starts names.ptrace b.bytes h s.ptrace; lacks = (λ e. cc, s.lacks) } in
    subst (AreStarted names) (sym (append_assoc (puts_of bs) (Output b.bytes ∷ []) h)) (puts_keep names bs (Output b.bytes ∷ h) one)

if_keeps : (names : Names) (short : Bool) (file text : List ℕ) (h : Journal) → IsSome (text_in h file) → AreStarted names h → AreStarted names ((if short then [] else Append file text ∷ []) ++ h)
if_keeps names true file text h t s = s
if_keeps names false file text h t s = append_keeps names file text h t s

piece_keeps : (names : Names) (file : Option (List ℕ)) (was line : List ℕ) (h : Journal) → IsStarted file h → AreStarted names h → AreStarted names (piece_with file was line ++ h)
piece_keeps names None was line h t s = s
piece_keeps names (Some file) was line h t s = if_keeps names (is_short (was ++ line)) file (was ++ line) h t s

last_keeps : (names : Names) (file : Option (List ℕ)) (text : List ℕ) (h : Journal) → IsStarted file h → AreStarted names h → AreStarted names (last_piece file text ++ h)
last_keeps names None text h t s = s
last_keeps names (Some file) text h t s = append_keeps names file text h t s

shown_keeps : (names : Names) (p : Pending) (x : Shown) (h : Journal) → AreStarted names h → AreStarted names (writes_of names p x ++ h)
shown_keeps names p (Happened e) h s = piece_keeps names names.ptrace p.text (event_text p.last e) h s.ptrace s
shown_keeps names p (Committed did) h s =
    let puts = puts_of (blocks_of did) in
    let q = puts_keep names (blocks_of did) h s in
    subst (AreStarted names) (sym (append_assoc (piece_with names.commits p.lines (line_of did)) puts h)) (piece_keeps names names.commits p.lines (line_of did) (puts ++ h) q.commits q)

history_keeps : (names : Names) (was : Pending) (xs : List Shown) (h : Journal) → AreStarted names h → AreStarted names ((written_of names was xs).journal ++ h)
unfolding written_of
history_keeps names was [] h s = s
history_keeps names was (x ∷ xs) h s =
    let so_far = written_of names was xs in
    subst (AreStarted names) (sym (append_assoc (writes_of names so_far.pending x) so_far.journal h)) (shown_keeps names so_far.pending x (so_far.journal ++ h) (history_keeps names was xs h s))

-- ---- so does a run

pub run_keeps : (names : Names) (xs : List Shown) (cycles : ℕ) (end : EndWord) (h : Journal) → AreStarted names h → AreStarted names (run_journal names xs cycles end ++ h)
run_keeps names xs cycles end h s =
    let w = written_of names nothing_pending (behind xs []) in
    let first = last_piece names.commits w.pending.lines in
    let last = last_piece names.ptrace (w.pending.text ++ end_line cycles end) in
    let q = history_keeps names nothing_pending (behind xs []) h s in
    let q2 = last_keeps names names.commits w.pending.lines (w.journal ++ h) q.commits q in
    let q3 = last_keeps names names.ptrace (w.pending.text ++ end_line cycles end) (first ++ (w.journal ++ h)) q2.ptrace q2 in
    subst (AreStarted names) (sym (append_assoc (last ++ first) w.journal h ∙ append_assoc last first (w.journal ++ h))) q3
