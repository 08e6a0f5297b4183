-- Words for what is said of all rows, and of the marks that come with time.
use Rattle.std.specs.Prelude.{◌≡◌, ℕ, ◌<◌, ◌≤◌, List, [], ◌∷◌, ◌++◌, Option, Some, None}
use Rattle.std.specs.List.{AllZip}
use Rattle.ooo_table.specs.Row.{Row}

-- each row has a fact, with the rows before it
abbrev pub Each : (List Row → Row → Type 0) → List Row → Type 0
Each P [] = Unit {0}
Each P (r ∷ older) = P older r × Each P older

-- where a mark is set, P of it
abbrev pub Where : {A : Type 0} → Option A → (A → Type 0) → Type 0
Where None P = Unit {0}
Where (Some c) P = P c

-- a mark is set, at c or before
abbrev pub By : ℕ → Option ℕ → Type 0
By c None = ⊥
By c (Some t) = t ≤ c

-- ---- time

-- a mark that is set is the same later
abbrev pub Stays : {A : Type 0} → Option A → Option A → Type 0
Stays None m = Unit {0}
Stays (Some c) m = m ≡ Some c

-- s is the row r, perhaps with more marks
pub record Later (r s : Row) : Type 0 where
  pub fetched : s.fetched ≡ r.fetched
  pub dispatched : Stays r.dispatched s.dispatched
  pub issued : Stays r.issued s.issued
  pub access : Stays r.access s.access
  pub committed : Stays r.committed s.committed
  pub squashed : Stays r.squashed s.squashed

-- the new rows are the old ones, perhaps with more marks, and before them those that were fetched since
abbrev pub Grew : List Row → List Row → Type 0
Grew olds news = (fresh : List Row) × (kept : List Row) × (news ≡ fresh ++ kept) × AllZip Later olds kept

-- all marks of the row are of cycles below c
pub record Past (c : ℕ) (r : Row) : Type 0 where
  pub fetched : r.fetched.at < c
  pub dispatched : Where r.dispatched (λ d. d < c)
  pub issued : Where r.issued (λ d. d < c)
  pub access : Where r.access (λ a. a.at < c)
  pub committed : Where r.committed (λ d. d < c)
  pub squashed : Where r.squashed (λ d. d < c)
