-- What is shown of the out-of-order machine as it runs, and what a watch has taken of it.
use Rattle.std.specs.Prelude.{◌⊎◌, ℕ, List, [], ◌∷◌, map, Result, Ok, Err}
use Rattle.sim_safe.specs.Record.{Item}
use Rattle.ooo_table.specs.declared.event.Event.{Event}
use Rattle.ooo_table.specs.declared.event.Mark.TheVariants as mark

-- an event, or an instruction that was committed
pub data Shown : Type 0 where
  Happened : (e : Event) → Shown
  Committed : (did : Item) → Shown

-- a history, which has the newest first, and then these, the oldest of them first
abbrev pub behind : List Shown → List Shown → List Shown
behind [] h = h
behind (x ∷ xs) h = behind xs (x ∷ h)

-- a watch that had taken a history takes one more, or is cut within it
abbrev pub Takes : {S T F : Type 0} → (S → List Shown → S → Type 0) → (S → List Shown → S → Type 0) → S → List Shown → S → Result T F → Type 0
Takes took cut start h now (Ok _) = took start h now
Takes took cut start h now (Err f) = cut start h now

-- a watch that had taken a history was cut within one of these, and has taken those before it
abbrev pub CutWithin : {S : Type 0} → (S → List Shown → S → Type 0) → S → List Shown → List Shown → S → Type 0
CutWithin cut start h [] now = ⊥
CutWithin cut start h (x ∷ xs) now = cut start (x ∷ h) now ⊎ CutWithin cut start (x ∷ h) xs now

-- a watch that had taken a history is shown these one after another: it takes them all, or is cut within one
abbrev pub TakesAll : {S T F : Type 0} → (S → List Shown → S → Type 0) → (S → List Shown → S → Type 0) → S → List Shown → List Shown → S → Result T F → Type 0
TakesAll took cut start h xs now (Ok _) = took start (behind xs h) now
TakesAll took cut start h xs now (Err f) = CutWithin cut start h xs now

abbrev pub events : List Event → List Shown
events es = map Happened es

-- the commit of a row, and what the row did
abbrev pub commit_of : ℕ → ℕ → Item → List Shown
commit_of cycle row did = Happened (record { cycle = cycle; row = row; mark = mark.Committed }) ∷ Committed did ∷ []
