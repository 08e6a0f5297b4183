-- What is written of one thing that is shown, and at the end.
use Rattle.std.specs.Prelude.{◌≡◌, ◌++◌, ℕ, List, Option, Some}
use Rattle.std.proofs.Common.{ap, subst}
use Rattle.event_trace.specs.declared.trace.Block.{Block}
use Rattle.journal.specs.declared.fault.Fault.{Fault}
use Rattle.journal.specs.View.{View, Wrote, Cut}
use Rattle.journal.specs.Laws.{wrote_more, cut_more, cut_within}
use Rattle.sim_safe.specs.Record.{Item}
use Rattle.sim_safe.specs.Commit.{line_of, blocks_of}
use Rattle.sim_watch.specs.Watch.{puts_of, piece_with, left_with, last_piece, writes_of}
use Rattle.ooo_table.specs.declared.event.EndWord.{EndWord}
use Rattle.ooo_table.specs.declared.event.Event.{Event}
use Rattle.pipetrace.specs.Text.{end_line, event_text}
use Rattle.core_watch.specs.Shown.{Happened, Committed}
use Rattle.machine_watch.specs.Watch.{Names, Pending, left_of, last_writes}

-- ---- what is pending

abbrev pub with_text : Pending → Event → List ℕ → Pending
with_text p e text = record { lines = p.lines; text = text; last = Some e.cycle }

pub event_left : (names : Names) (p : Pending) (e : Event) (text : List ℕ) → text ≡ left_with names.ptrace p.text (event_text p.last e) → with_text p e text ≡ left_of names p (Happened e)
event_left names p e text q = ap (with_text p e) q

abbrev pub with_lines : Pending → List ℕ → Pending
with_lines p lines = record { lines = lines; text = p.text; last = p.last }

pub commit_left : (names : Names) (p : Pending) (did : Item) (lines : List ℕ) → lines ≡ left_with names.commits p.lines (line_of did) → with_lines p lines ≡ left_of names p (Committed did)
commit_left names p did lines q = ap (with_lines p) q

-- ---- a commit

-- its blocks were put out, and its line was added
pub commit_written : {O : Type 0} (v : View O) (a b c : O) (file : Option (List ℕ)) (pending : List ℕ) (did : Item) (blocks : List Block) → blocks ≡ blocks_of did
    → Wrote v a (puts_of blocks) b → Wrote v b (piece_with file pending (line_of did)) c → Wrote v a (writes_of file pending did) c
commit_written v a b c file pending did blocks e output text =
    wrote_more v a b c (puts_of (blocks_of did)) (piece_with file pending (line_of did)) (subst (λ x. Wrote v a (puts_of x) b) e output) text

-- a fault at its output
pub cut_at_output : {O : Type 0} (v : View O) (a b : O) (file : Option (List ℕ)) (pending : List ℕ) (did : Item) (blocks : List Block) (f : Fault) → blocks ≡ blocks_of did
    → Cut v a (puts_of blocks) f b → Cut v a (writes_of file pending did) f b
cut_at_output v a b file pending did blocks f e output =
    cut_within v a b (puts_of (blocks_of did)) (piece_with file pending (line_of did)) f (subst (λ x. Cut v a (puts_of x) f b) e output)

-- a fault at its line
pub cut_at_line : {O : Type 0} (v : View O) (a b c : O) (file : Option (List ℕ)) (pending : List ℕ) (did : Item) (blocks : List Block) (f : Fault) → blocks ≡ blocks_of did
    → Wrote v a (puts_of blocks) b → Cut v b (piece_with file pending (line_of did)) f c → Cut v a (writes_of file pending did) f c
cut_at_line v a b c file pending did blocks f e output text =
    cut_more v a b c (puts_of (blocks_of did)) (piece_with file pending (line_of did)) f (subst (λ x. Wrote v a (puts_of x) b) e output) text

-- ---- the end

-- both files get the rest of their text
pub end_written : {O : Type 0} (v : View O) (a b c : O) (names : Names) (p : Pending) (cycles : ℕ) (end : EndWord) (lines : List ℕ) → lines ≡ p.lines
    → Wrote v a (last_piece names.commits lines) b → Wrote v b (last_piece names.ptrace (p.text ++ end_line cycles end)) c → Wrote v a (last_writes names p cycles end) c
end_written v a b c names p cycles end lines e first last =
    wrote_more v a b c (last_piece names.commits p.lines) (last_piece names.ptrace (p.text ++ end_line cycles end)) (subst (λ x. Wrote v a (last_piece names.commits x) b) e first) last

-- a fault at the commit lines
pub end_cut_first : {O : Type 0} (v : View O) (a b : O) (names : Names) (p : Pending) (cycles : ℕ) (end : EndWord) (lines : List ℕ) (f : Fault) → lines ≡ p.lines
    → Cut v a (last_piece names.commits lines) f b → Cut v a (last_writes names p cycles end) f b
end_cut_first v a b names p cycles end lines f e first =
    cut_within v a b (last_piece names.commits p.lines) (last_piece names.ptrace (p.text ++ end_line cycles end)) f (subst (λ x. Cut v a (last_piece names.commits x) f b) e first)

-- a fault at the pipetrace
pub end_cut_last : {O : Type 0} (v : View O) (a b c : O) (names : Names) (p : Pending) (cycles : ℕ) (end : EndWord) (lines : List ℕ) (f : Fault) → lines ≡ p.lines
    → Wrote v a (last_piece names.commits lines) b → Cut v b (last_piece names.ptrace (p.text ++ end_line cycles end)) f c → Cut v a (last_writes names p cycles end) f c
end_cut_last v a b c names p cycles end lines f e first last =
    cut_more v a b c (last_piece names.commits p.lines) (last_piece names.ptrace (p.text ++ end_line cycles end)) f (subst (λ x. Wrote v a (last_piece names.commits x) b) e first) last
