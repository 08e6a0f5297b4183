-- The loads and stores that are in flight, and what a load asks of the stores before it.
use Rattle.std.specs.Prelude.{ℕ, ◌+◌, ◌-◌, ◌<◌, Bool, true, false, not, List, [], ◌∷◌, length, take, filter, map, Option, Some, None, Result, Ok, Err, slice_get, option_map, nat_lt, nat_le, ◌==◌, ◌&&◌, ◌||◌, if◌then◌else◌}
use Rattle.std.specs.List.{list_any}

-- a load or store, by the number of its row and of its block of 8 bytes. Of a store: the cycle from which its address
-- is known, and the one from which its data are done
pub record Entry : Type 0 where
  pub row : ℕ
  pub store : Bool
  pub block : ℕ
  pub address : Option ℕ
  pub data_done : Option ℕ

-- the entries that are held, the newest first; how many there may be; and the last row that was added
pub record Queue : Type 0 where
  pub entries : List Entry
  pub size : ℕ
  pub last : Option ℕ

-- a mark is set at the cycle or before
abbrev pub is_by : ℕ → Option ℕ → Bool
is_by c None = false
is_by c (Some t) = nat_le t c

-- ---- the order of memory

-- a store is done where its address is known and its data are done
abbrev pub is_done : ℕ → Entry → Bool
is_done c e = is_by c e.address && is_by c e.data_done

-- a store forbids a load of the block at the cycle where its address isn't known by then, or where it has the block and
-- isn't done by then
abbrev pub forbids : ℕ → ℕ → Entry → Bool
forbids c block e = e.store && (not (is_by c e.address) || ((e.block == block) && not (is_done c e)))

-- a store has the block
abbrev pub forwards : ℕ → Entry → Bool
forwards block e = e.store && (e.block == block)

abbrev pub or_else : Option ℕ → Option ℕ → Option ℕ
or_else (Some a) b = Some a
or_else None b = b

-- the row of the oldest entry that passes
abbrev pub oldest : (Entry → Bool) → List Entry → Option ℕ
oldest p [] = None
oldest p (e ∷ older) = or_else (oldest p older) (if p e then Some e.row else None)

abbrev pub answer : Option ℕ → Bool → Result Bool ℕ
answer (Some row) forwarded = Err row
answer None forwarded = Ok forwarded

-- what a load of the block may do after these entries: Err with the oldest store that forbids it, else whether a store
-- has its block
abbrev pub answer_after : ℕ → ℕ → List Entry → Result Bool ℕ
answer_after c block older = answer (oldest (forbids c block) older) (list_any (forwards block) older)

-- what the load of that row may do
abbrev pub load_answer : ℕ → ℕ → List Entry → Result Bool ℕ
load_answer c row [] = Ok false
load_answer c row (e ∷ older) = if e.row == row then answer_after c e.block older else load_answer c row older

-- ---- conditions of calls

-- the number is above the other one, where there is one
abbrev pub is_above : Option ℕ → ℕ → Bool
is_above None n = true
is_above (Some m) n = nat_lt m n

abbrev pub HasRoom : Queue → Type 0
HasRoom q = length q.entries < q.size

-- a load of that row is held; a store of that row is held
abbrev pub holds_load : ℕ → List Entry → Bool
holds_load row entries = list_any (λ e. (e.row == row) && not e.store) entries

abbrev pub holds_store : ℕ → List Entry → Bool
holds_store row entries = list_any (λ e. (e.row == row) && e.store) entries

-- the row of the oldest entry
abbrev pub first_row : List Entry → Option ℕ
first_row entries = option_map (λ e. e.row) (slice_get entries (length entries - 1))

-- ---- what the calls leave

-- a new queue
abbrev pub empty : ℕ → Queue
empty size = record { entries = []; size = size; last = None }

-- a load or store enters, of which nothing is known yet
abbrev pub added : ℕ → Bool → ℕ → Queue → Queue
added row store block q =
    record q {
      entries = record { row = row; store = store; block = block; address = None; data_done = None } ∷ q.entries;
      last = Some row;
    }

-- a mark that isn't set is set to the cycle
abbrev pub set_once : ℕ → Option ℕ → Option ℕ
set_once c None = Some c
set_once c (Some t) = Some t

-- the entries of that row are changed
abbrev pub at_row : ℕ → (Entry → Entry) → List Entry → List Entry
at_row row change entries = map (λ e. if e.row == row then change e else e) entries

abbrev pub with_address : ℕ → ℕ → Queue → Queue
with_address row c q =
    record q { entries = at_row row (λ e. record e { address = set_once c e.address }) q.entries }

abbrev pub with_data : ℕ → ℕ → Queue → Queue
with_data row c q =
    record q { entries = at_row row (λ e. record e { data_done = set_once c e.data_done }) q.entries }

-- every entry above the row is dropped
abbrev pub squashed : ℕ → Queue → Queue
squashed row q = record q { entries = filter (λ e. nat_le e.row row) q.entries }

-- the oldest entry leaves
abbrev pub retired : Queue → Queue
retired q = record q { entries = take (length q.entries - 1) q.entries }

-- the rows rise up to the last one that was added
abbrev pub falls_below : ℕ → List Entry → Bool
falls_below n [] = true
falls_below n (e ∷ older) = nat_lt e.row n && falls_below e.row older

abbrev pub rises_to : Option ℕ → List Entry → Bool
rises_to None [] = true
rises_to None (e ∷ older) = false
rises_to (Some last) entries = falls_below (last + 1) entries
