-- How the slots of the ring, the oldest first, show as entries. Nothing here has to be believed.
use Rattle.std.specs.Prelude.{ℕ, suc, Bool, true, false, not, ◌&&◌, List, [], ◌∷◌, map, reverse, Option, Result, Ok, ◌==◌, nat_le, nat_lt, if◌then◌else◌}
use Rattle.circular_buffer.specs.Buffer.{Buffer}
use Rattle.lsq_core.specs.declared.slots.Slot.{Slot}
use Rattle.lsq_core.specs.declared.slots.Part.{Part}
use Rattle.lsq_core.specs.declared.slots.Part.TheVariants.{Address, Data}
use Rattle.lsq_core.specs.Queue.{Entry, Queue, answer_after, set_once, holds_load, holds_store}

abbrev pub entry_of : Slot → Entry
entry_of s = record { row = s.row; store = s.store; block = s.block; address = s.address; data_done = s.data_done }

abbrev pub entries_of : List Slot → List Entry
entries_of slots = map entry_of (reverse slots)

-- the queue of a ring
abbrev pub queue_of : Buffer Slot → Option ℕ → Queue
queue_of slots last = record { entries = entries_of slots.items; size = slots.capacity; last = last }

-- the block of a row
abbrev pub block_of : ℕ → List Entry → ℕ
block_of row [] = 0
block_of row (e ∷ older) = if e.row == row then e.block else block_of row older

-- what a load of that row and block may do
abbrev pub answer_for : ℕ → ℕ → ℕ → List Entry → Result Bool ℕ
answer_for c block row [] = Ok false
answer_for c block row (e ∷ older) = if e.row == row then answer_after c block older else answer_for c block row older

abbrev pub with_part : Part → ℕ → Slot → Slot
with_part Address c s = record s { address = set_once c s.address }
with_part Data c s = record s { data_done = set_once c s.data_done }

-- a slot of that row with a part noted
abbrev pub learned : ℕ → ℕ → Part → Slot → Slot
learned row c part s = if s.row == row then with_part part c s else s

-- without the newest entries that are above the row
abbrev pub up_to : ℕ → List Entry → List Entry
up_to row [] = []
up_to row (e ∷ older) = if nat_le e.row row then e ∷ older else up_to row older

-- a store of that row, or a load
abbrev pub is_of : Bool → ℕ → Entry → Bool
is_of true row e = (e.row == row) && e.store
is_of false row e = (e.row == row) && not e.store

abbrev pub holds_of : Bool → ℕ → List Entry → Bool
holds_of true row entries = holds_store row entries
holds_of false row entries = holds_load row entries

-- the rows of these slots, the oldest first, rise from the number on
abbrev pub rises_from : ℕ → List Slot → Bool
rises_from n [] = true
rises_from n (s ∷ newer) = nat_le n s.row && rises_from (suc s.row) newer

-- how many of the oldest slots are below the row
abbrev pub place_of : ℕ → List Slot → ℕ
place_of n [] = 0
place_of n (s ∷ newer) = if nat_lt s.row n then suc (place_of n newer) else 0
