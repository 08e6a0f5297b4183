-- What a watched run writes, item by item, newest first.
use Rattle.std.specs.Prelude.{◌≡◌, ◌++◌, ℕ, Bool, List, [], ◌∷◌, length, Option, Some, None, nat_lt, if◌then◌else◌, Result, Ok, Err}
use Rattle.std.proofs.Common.{refl}
use Rattle.event_trace.specs.declared.trace.Block.{Block}
use Rattle.journal.specs.declared.fault.Fault.{Fault}
use Rattle.journal.specs.declared.fault.Fault.TheVariants as fault
use Rattle.journal.specs.Write.{Journal, Append, Output}
use Rattle.journal.specs.Texts.{text_in}
use Rattle.journal.specs.View.{View, Wrote, Cut}
use Rattle.journal.specs.Laws.{wrote_none}
use Rattle.sim_safe.specs.declared.observer.Meaning.{Meaning}
use Rattle.sim_safe.specs.declared.observer.Meaning.TheVariants as meaning
use Rattle.sim_safe.specs.Record.{Item}
use Rattle.sim_safe.specs.Commit.{line_of, blocks_of, onto}

-- ---- one item

-- blocks are put out one by one, in their order
abbrev pub puts_of : List Block → Journal
puts_of [] = []
puts_of (b ∷ bs) = puts_of bs ++ Output b.bytes ∷ []

-- commit text is pending while it has fewer than 65,536 bytes
abbrev pub is_short : List ℕ → Bool
is_short text = nat_lt (length text) 65536

-- a longer one is written as one piece
abbrev pub piece_of : List ℕ → List ℕ → Journal
piece_of file text = if is_short text then [] else Append file text ∷ []

abbrev pub left_of : List ℕ → List ℕ
left_of text = if is_short text then text else []

-- what is written where a line is added to what is pending, and what is pending then; where no file is named
-- there is no commit text
abbrev pub piece_with : Option (List ℕ) → (pending line : List ℕ) → Journal
piece_with None pending line = []
piece_with (Some file) pending line = piece_of file (pending ++ line)

abbrev pub left_with : Option (List ℕ) → (pending line : List ℕ) → List ℕ
left_with None pending line = pending
left_with (Some file) pending line = left_of (pending ++ line)

-- an item puts out its blocks, and then its line is added to what is pending
abbrev pub writes_of : Option (List ℕ) → (pending : List ℕ) → Item → Journal
writes_of file pending i = piece_with file pending (line_of i) ++ puts_of (blocks_of i)

-- ---- items

-- what was written, and what is pending
pub record Written : Type 0 where
  pub journal : Journal
  pub pending : List ℕ

abbrev pub with_item : Option (List ℕ) → Item → Written → Written
with_item file i w = record { journal = writes_of file w.pending i ++ w.journal; pending = left_with file w.pending (line_of i) }

-- after items, newest first, from a text on that was pending before them
unfoldable pub written_of : Option (List ℕ) → List ℕ → List Item → Written
written_of file was [] = record { journal = []; pending = was }
written_of file was (i ∷ h) = with_item file i (written_of file was h)

-- what is pending after a run is its last piece, of whatever length
abbrev pub last_piece : Option (List ℕ) → List ℕ → Journal
last_piece None pending = []
last_piece (Some file) pending = Append file pending ∷ []

abbrev pub finished : Option (List ℕ) → Written → Journal
finished file w = last_piece file w.pending ++ w.journal

-- the items of a run, oldest first, of which nothing is pending before them
abbrev pub run_journal : Option (List ℕ) → List Item → Journal
run_journal file items = finished file (written_of file [] (onto items []))

-- ---- texts of files

-- what a file got from a journal, and what is pending for it, are this text
pub record TextAt (file : List ℕ) (h : Journal) (pending whole : List ℕ) : Type 0 where
  pub text : List ℕ
  pub is : text_in h file ≡ Some text
  pub all : text ++ pending ≡ whole

-- ---- faults

-- what a fault of a watch comes from
abbrev pub meaning_of : Fault → Meaning
meaning_of fault.Shelf = meaning.Shelf
meaning_of fault.Prog = meaning.Sink
meaning_of fault.Stat = meaning.Sink
meaning_of fault.OutOfMemory = meaning.Memory

-- the counts of faults of what a watch writes to: the shelf's, and the first stream's
abbrev pub faults_of : {O : Type 0} → View O → O → ℕ × ℕ
faults_of v o = (v.faults o, v.prog.faults o)

-- one journal was written, and then writing was given up within another one
pub record CutBehind {O : Type 0} (v : View O) (a : O) (done next : Journal) (f : Fault) (b : O) : Type 0 where
  pub between : O
  pub wrote : Wrote v a done between
  pub cut : Cut v between next f b

-- writing was given up within what is written of the newest item, behind all of the items before it
abbrev pub CutAtNewest : {O : Type 0} → View O → Option (List ℕ) → List ℕ → O → List Item → Fault → O → Type 0
CutAtNewest v file was a [] f b = ⊥
CutAtNewest v file was a (i ∷ h) f b = CutBehind v a (written_of file was h).journal (writes_of file (written_of file was h).pending i) f b

-- so it was by the fault that a watch kept
abbrev pub CutByKept : {O : Type 0} → View O → Option (List ℕ) → List ℕ → O → List Item → Option Fault → O → Type 0
CutByKept v file was a h None b = ⊥
CutByKept v file was a h (Some f) b = CutAtNewest v file was a h f b

-- ---- answers of the parts of a watch

-- a journal, which may be empty, is written
abbrev pub WritesOrCut : {O T : Type 0} → View O → O → Journal → O → Result T Fault → Type 0
WritesOrCut v a h b (Ok x) = Wrote v a h b
WritesOrCut v a h b (Err f) = Cut v a h f b

-- what is pending is written where it is long
abbrev pub WritesLong : {O T : Type 0} → View O → O → (file text : List ℕ) → O → List ℕ → Result T Fault → Type 0
WritesLong v a file text b pending (Ok x) = Wrote v a (piece_of file text) b × (pending ≡ left_of text)
WritesLong v a file text b pending (Err f) = Cut v a (piece_of file text) f b

-- a line is added to what is pending
abbrev pub WritesLine : {O T : Type 0} → View O → O → Option (List ℕ) → (was line : List ℕ) → O → List ℕ → Result T Fault → Type 0
WritesLine v a file was line b pending (Ok x) = Wrote v a (piece_with file was line) b × (pending ≡ left_with file was line)
WritesLine v a file was line b pending (Err f) = Cut v a (piece_with file was line) f b

-- ---- a watch that has taken nothing

pub nothing_written : {O : Type 0} (v : View O) (a : O) (file : Option (List ℕ)) (was : List ℕ) → Wrote v a (written_of file was []).journal a
unfolding written_of
nothing_written v a file was = wrote_none v a

pub nothing_pending : (file : Option (List ℕ)) (was : List ℕ) → was ≡ (written_of file was []).pending
unfolding written_of
nothing_pending file was = refl
