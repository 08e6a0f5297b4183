-- A row of the table: one fetched instruction, with the cycles of what was done to it. Lists of rows have the newest
-- first, so a row's number, which is how many rows were fetched before it, is the length of the list behind it.
use Rattle.std.specs.Prelude.{ℕ, Bool, true, false, not, List, [], ◌∷◌, Option, Some, None, nat_lt, ◌==◌, ◌&&◌, option_map}
use Rattle.sim_safe.specs.State.{State}

-- what is settled when a row is fetched
pub record Fetched : Type 0 where
  pub pc : ℕ
  -- the address that was predicted to come next
  pub predicted : ℕ
  -- the top of the return stack right after the row's look-up
  pub top : ℕ
  -- it is on the right path
  pub right : Bool
  -- the state on which it acts
  pub state : State
  -- F, the cycle of its fetch
  pub at : ℕ
  -- Q, the cycle at which its words are there
  pub queued : ℕ

-- the access of a load
pub record MemoryAccess : Type 0 where
  -- MI, the cycle at which it issued
  pub at : ℕ
  -- MW, the cycle at which it is back
  pub back : ℕ
  -- an older store gave the value, and no reference was made
  pub forwarded : Bool

-- D, I, C and X are kept, each where it is set. W follows from I
pub record Row : Type 0 where
  pub fetched : Fetched
  pub dispatched : Option ℕ
  pub issued : Option ℕ
  pub access : Option MemoryAccess
  pub committed : Option ℕ
  pub squashed : Option ℕ

-- ---- marks

abbrev pub is_at : ℕ → Option ℕ → Bool
is_at c None = false
is_at c (Some t) = t == c

abbrev pub is_before : ℕ → Option ℕ → Bool
is_before n None = false
is_before n (Some t) = nat_lt t n

-- MI and MW
abbrev pub accessed : Row → Option ℕ
accessed r = option_map (λ a. a.at) r.access

abbrev pub returned : Row → Option ℕ
returned r = option_map (λ a. a.back) r.access

abbrev pub not_forwarded : Option MemoryAccess → Bool
not_forwarded None = true
not_forwarded (Some a) = not a.forwarded

-- ---- lists of rows

-- every row passes, each with the rows before it
abbrev pub every : (List Row → Row → Bool) → List Row → Bool
every p [] = true
every p (r ∷ older) = p older r && every p older

-- the rows changed one after another in row order, each in view of the rows before it as they are by then
abbrev pub sweep : (List Row → Row → Row) → List Row → List Row
sweep f [] = []
sweep f (r ∷ older) = let before = sweep f older in f before r ∷ before
