-- What a watch of the out-of-order machine writes, one thing after another that it is shown; histories have the newest first.
use Rattle.std.specs.Prelude.{◌≡◌, ◌++◌, ℕ, List, [], ◌∷◌, Option, Some, None, Result, Ok, Err}
use Rattle.std.specs.Option.{option_copied}
use Rattle.journal.specs.declared.fault.Fault.{Fault}
use Rattle.journal.specs.Write.{Journal}
use Rattle.journal.specs.View.{View, Wrote}
use Rattle.sim_safe.specs.Commit.{line_of}
use Rattle.sim_watch.specs.Watch.{CutBehind, last_piece, left_with, piece_with, writes_of as writes_of_item}
use Rattle.ooo_table.specs.declared.event.EndWord.{EndWord}
use Rattle.pipetrace.specs.Text.{end_line, event_text}
use Rattle.core_watch.specs.Shown.{Shown, Happened, Committed, behind}
use Rattle.machine_watch.specs.declared.watch.MachineWatch.{MachineWatch}

-- ---- what is shown, one by one

-- the files of commit text and of the pipetrace, where they are named
pub record Names : Type 0 where
  pub commits : Option (List ℕ)
  pub ptrace : Option (List ℕ)

-- the commit lines and the pipetrace text that aren't written yet, and the cycle of the last event
pub record Pending : Type 0 where
  pub lines : List ℕ
  pub text : List ℕ
  pub last : Option ℕ

abbrev pub nothing_pending : Pending
nothing_pending = record { lines = []; text = []; last = None }

-- an event adds its text to the pipetrace; a commit puts out the blocks of its call, and adds its line to the commit text
abbrev pub writes_of : Names → Pending → Shown → Journal
writes_of names p (Happened e) = piece_with names.ptrace p.text (event_text p.last e)
writes_of names p (Committed did) = writes_of_item names.commits p.lines did

abbrev pub left_of : Names → Pending → Shown → Pending
left_of names p (Happened e) = record { lines = p.lines; text = left_with names.ptrace p.text (event_text p.last e); last = Some e.cycle }
left_of names p (Committed did) = record { lines = left_with names.commits p.lines (line_of did); text = p.text; last = p.last }

-- ---- histories

-- what was written, and what is pending
pub record Written : Type 0 where
  pub journal : Journal
  pub pending : Pending

abbrev pub with_shown : Names → Shown → Written → Written
with_shown names x w = record { journal = writes_of names w.pending x ++ w.journal; pending = left_of names w.pending x }

-- after a history, before which this was pending
unfoldable pub written_of : Names → Pending → List Shown → Written
written_of names was [] = record { journal = []; pending = was }
written_of names was (x ∷ h) = with_shown names x (written_of names was h)

-- at the end the lines that are pending are written, and then the rest of the pipetrace with the line of its end
abbrev pub last_writes : Names → Pending → ℕ → EndWord → Journal
last_writes names p cycles end = last_piece names.ptrace (p.text ++ end_line cycles end) ++ last_piece names.commits p.lines

abbrev pub finished : Names → Written → ℕ → EndWord → Journal
finished names w cycles end = last_writes names w.pending cycles end ++ w.journal

-- all writes of a run, of which this was shown, the oldest first, and which ended so after so many cycles
abbrev pub run_journal : Names → List Shown → ℕ → EndWord → Journal
run_journal names shown cycles end = finished names (written_of names nothing_pending (behind shown [])) cycles end

-- ---- watches

abbrev pub names_of : {O : Type 0} → MachineWatch O → Names
names_of w = record { commits = option_copied w.commits.now; ptrace = option_copied w.ptrace.now }

abbrev pub pending_of : {O : Type 0} → MachineWatch O → Pending
pending_of w = record { lines = w.lines.now.items; text = w.text.now.items; last = w.last }

-- all that is to be written of a history was written, and the rest is pending
pub record Taken {O : Type 0} (v : View O) (names : Names) (a : O) (was : Pending) (h : List Shown) (b : O) (now : Pending) : Type 0 where
  pub pending : now ≡ (written_of names was h).pending
  pub wrote : Wrote v a (written_of names was h).journal b

-- writing was given up within what is written of the newest of a history, behind all that is older
abbrev pub CutAtNewest : {O : Type 0} → View O → Names → O → Pending → List Shown → Fault → O → Type 0
CutAtNewest v names a was [] f b = ⊥
CutAtNewest v names a was (x ∷ h) f b = CutBehind v a (written_of names was h).journal (writes_of names (written_of names was h).pending x) f b

-- so it was by the fault that a watch kept
abbrev pub CutByKept : {O : Type 0} → View O → Names → O → Pending → List Shown → Option Fault → O → Type 0
CutByKept v names a was h None b = ⊥
CutByKept v names a was h (Some f) b = CutAtNewest v names a was h f b

-- what a watch that was finished holds: nothing is pending, and after a fault all that was
abbrev pub Rests : {T : Type 0} → Names → Pending → Names → Pending → Result T Fault → Type 0
Rests names was new now (Ok x) = (new ≡ names) × (now ≡ record { lines = []; text = []; last = was.last })
Rests names was new now (Err f) = (new ≡ names) × (now ≡ was)
