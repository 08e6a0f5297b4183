-- What is true of the rows that wait in every front end.
use Rattle.std.specs.Prelude.{◌≡◌, ℕ, ◌+◌, ◌^◌, ◌<◌, ◌≤◌, List, [], ◌∷◌, length, AllPairs}
use Rattle.ooo_front.specs.declared.row.FetchRow.{FetchRow}
use Rattle.ooo_front.specs.Fetching.{FrontEnd, earliest_after}

-- the row behind this one has this number and address, and is fetched in this cycle or later
pub record LeadsTo (r : FetchRow) (number address at : ℕ) : Type 0 where
  pub row : number ≡ r.row + 1
  pub pc : address ≡ r.next
  pub cycle : earliest_after r ≤ at
  pub queued : r.fetched ≤ r.queued

-- each row goes on where the one before it leads
abbrev pub IsPath : List FetchRow → ℕ → ℕ → ℕ → Type 0
IsPath [] number address at = Unit {0}
IsPath (r ∷ older) number address at = LeadsTo r number address at × IsPath older r.row r.pc r.fetched

-- the rows that wait are one predicted path up to the next row, and no more than may wait
pub record IsSound (f : FrontEnd) : Type 0 where
  pub path : IsPath f.rows f.row f.pc f.earliest
  pub room : length f.rows ≤ f.size
  pub small : f.size < 2 ^ 32
  pub width : f.width ≤ 32

-- an older row has a smaller number, and is queued no later
pub record IsBefore (newer older : FetchRow) : Type 0 where
  pub row : older.row < newer.row
  pub queued : older.queued ≤ newer.queued

abbrev pub AreInOrder : List FetchRow → Type 0
AreInOrder rows = AllPairs IsBefore rows
