-- What the target buffer answers, as a function of all its updates.
use Rattle.std.specs.Prelude.{◌≡◌, ℕ, ◌<◌, not, List, [], ◌∷◌, Option, length, slice_index_or, ◌==◌, take, filter, find, option_map}
use Rattle.bpred_tables.specs.Updates.{place_in}

-- a transfer of control: its pc and where it led. An update tells one, and a set holds some as its entries.
-- In a list of updates the newest is first
pub record Entry : Type 0 where
  pub pc : ℕ
  pub target : ℕ

-- of each pc its newest update, the newest first
abbrev pub latest : List Entry → List Entry
latest [] = []
latest (u ∷ older) = u ∷ filter (λ e. not (e.pc == u.pc)) (latest older)

-- the updates of a set
abbrev pub of_set : ℕ → ℕ → List Entry → List Entry
of_set sets k updates = filter (λ u. place_in sets u.pc == k) updates

-- the entries of a set: its newest updates of different pcs, as many as there are ways
abbrev pub entries : ℕ → ℕ → ℕ → List Entry → List Entry
entries sets ways k updates = take ways (latest (of_set sets k updates))

-- the target that is held for pc, if there is an entry of it
abbrev pub target_of : ℕ → ℕ → List Entry → ℕ → Option ℕ
target_of sets ways updates pc =
    option_map (λ e. e.target) (find (λ e. e.pc == pc) (entries sets ways (place_in sets pc) updates))

-- what a buffer holds: the entries of each set, the newest first
pub record Buffer : Type 0 where
  pub sets : List (List Entry)
  pub ways : ℕ

-- the buffer is what these updates, the newest first, leave of an empty one
pub record BufferStands (b : Buffer) (updates : List Entry) : Type 0 where
  pub each : (k : ℕ) → k < length b.sets
      → slice_index_or b.sets k [] ≡ entries (length b.sets) b.ways k updates
