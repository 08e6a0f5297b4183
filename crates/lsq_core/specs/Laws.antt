-- Laws of the order of memory.
use Rattle.std.specs.Prelude.{◌≡◌, ◌≢◌, ℕ, ◌≤◌, Bool, true, false, List, ◌∷◌, ◌++◌, Ok, Err, filter, nat_le, All}
use Rattle.lsq_core.specs.Queue.{Entry, Queue, forbids, answer_after, load_answer, at_row, with_address, with_data, rises_to}

-- of these entries, the store of that row forbids the load, and none before it does
abbrev pub IsOldestForbidding : ℕ → ℕ → List Entry → ℕ → Type 0
IsOldestForbidding c block older row =
    (newer : List Entry) × (e : Entry) × (before : List Entry)
    × (older ≡ newer ++ (e ∷ before)) × (e.row ≡ row) × (forbids c block e ≡ true) × All (λ o. forbids c block o ≡ false) before

-- a store that some store forbids is named, and else none of them forbids
pub record NamesTheOldest (c block : ℕ) (older : List Entry) : Type 0 where
  pub named : (row : ℕ) → answer_after c block older ≡ Err row → IsOldestForbidding c block older row
  pub free : (forwarded : Bool) → answer_after c block older ≡ Ok forwarded → All (λ e. forbids c block e ≡ false) older

-- later than it may issue, and whatever else is learned of any store, a load may issue with the same answer
pub record StaysAllowed (c row : ℕ) (q : Queue) (forwarded : Bool) : Type 0 where
  pub later : (d : ℕ) → c ≤ d → load_answer d row q.entries ≡ Ok forwarded
  pub address : (store at : ℕ) → load_answer c row (with_address store at q).entries ≡ Ok forwarded
  pub data_done : (store at : ℕ) → load_answer c row (with_data store at q).entries ≡ Ok forwarded

-- the answer of a load is that of the entries up to it: a younger entry doesn't change it, and neither does a squash
-- after it or after a younger row
pub record IgnoresYounger (c row : ℕ) (q : Queue) : Type 0 where
  pub entry : (e : Entry) → e.row ≢ row → load_answer c row (e ∷ q.entries) ≡ load_answer c row q.entries
  pub squash : (last : ℕ) → rises_to q.last q.entries ≡ true → row ≤ last
      → load_answer c row (filter (λ e. nat_le e.row last) q.entries) ≡ load_answer c row q.entries

-- what a load may do is asked of the entries before it, with its own block, and marks are set where the row stands
pub record StandsAt (younger older : List Entry) (e : Entry) (q : Queue) : Type 0 where
  pub answer : (c : ℕ) → load_answer c e.row q.entries ≡ answer_after c e.block older
  pub change : (f : Entry → Entry) → at_row e.row f q.entries ≡ younger ++ f e ∷ older
