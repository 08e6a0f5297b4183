-- What a watch has pending, and what it writes of it.
use Rattle.std.specs.Prelude.{◌≡◌, ◌≢◌, ℕ, Bool, true, false, List, [], length, nat_lt, Option, Result, Ok, Err, if◌then◌else◌}
use Rattle.ss_base.specs.declared.fault.PutFault.{PutFault}
use Rattle.ss_base.specs.declared.fault.PutFault.TheVariants as put
use Rattle.ss_base.specs.Outside.{Files, Appends, OthersStay, PutCounts}
use Rattle.pipetrace.specs.declared.watch.TextWatch.{TextWatch}

-- the file that is written, the text that isn't written yet, and the cycle whose line was the last
abbrev pub file_of : TextWatch → List ℕ
file_of w = w.name

abbrev pub pending_of : TextWatch → List ℕ
pending_of w = w.pending.items

abbrev pub last_of : TextWatch → Option ℕ
last_of w = w.last

-- text is pending while it has fewer than 65,536 bytes; a longer one is written as one piece
abbrev pub is_short : List ℕ → Bool
is_short text = nat_lt (length text) 65536

abbrev pub left_of : List ℕ → List ℕ
left_of text = if is_short text then text else []

-- a call that may write tells what it told, leaves what is calm so, and fails only where the count rose
pub record AnswersAsShelf {T : Type 0} (tells_old tells_new calm_old calm_new : Type 0) (faults_old faults_new : ℕ) (r : Result T PutFault) : Type 0 where
  pub tells : tells_old → tells_new
  pub calm : calm_old → calm_new
  pub sure : calm_old → r ≢ Err put.Failed
  pub count : PutCounts faults_old faults_new r

-- it changes one file, which gets this text at its end, or a front of it after a fault
pub record WritesText {T : Type 0} (old : Files) (name text : List ℕ) (new : Files) (r : Result T PutFault) : Type 0 where
  pub file : Appends old name text new r
  pub others : OthersStay old name new

-- where text is short it is not written
abbrev pub WritesPiece : {T : Type 0} → Bool → Files → (name text : List ℕ) → Files → Result T PutFault → Type 0
WritesPiece true old name text new r = new ≡ old
WritesPiece false old name text new r = WritesText old name text new r

-- what is pending after a call that may write it: what is left, and after a fault all of it
abbrev pub Leaves : {T : Type 0} → (pending left new : List ℕ) → Result T PutFault → Type 0
Leaves pending left new (Ok x) = new ≡ left
Leaves pending left new (Err f) = new ≡ pending

-- what a watch has pending after text was added: after a fault what it had before
abbrev pub Pends : {T : Type 0} → TextWatch → (text : List ℕ) → Option ℕ → TextWatch → Result T PutFault → Type 0
Pends old text last new (Ok x) = (file_of new ≡ file_of old) × (pending_of new ≡ text) × (last_of new ≡ last)
Pends old text last new (Err f) = (file_of new ≡ file_of old) × (pending_of new ≡ pending_of old) × (last_of new ≡ last_of old)
