-- The loads and stores in flight with their effective addresses.
use Rattle.std.specs.Prelude.{ℕ, ◌-◌, List, [], ◌∷◌, length, take, reverse, nat_le, ◌==◌, if◌then◌else◌}
use Rattle.circular_buffer.specs.Buffer.{Buffer}
use Rattle.core_parts.specs.declared.addresses.MemoryRow.{MemoryRow}

-- the rows that are held, the newest first, and how many there may be
pub record AddressList : Type 0 where
  pub rows : List MemoryRow
  pub size : ℕ

-- the ring has the oldest row first
abbrev pub shown : Buffer MemoryRow → AddressList
shown b = record { rows = reverse b.items; size = b.capacity }

-- the address of a row, 0 where it isn't held
abbrev pub address_of : ℕ → List MemoryRow → ℕ
address_of row [] = 0
address_of row (x ∷ older) = if x.row == row then x.addr else address_of row older

-- without the newest rows that are above this one
abbrev pub up_to : ℕ → List MemoryRow → List MemoryRow
up_to row [] = []
up_to row (x ∷ older) = if nat_le x.row row then x ∷ older else up_to row older

-- ---- what the calls leave

abbrev pub pushed : MemoryRow → AddressList → AddressList
pushed x a = record a { rows = x ∷ a.rows }

abbrev pub retired : AddressList → AddressList
retired a = record a { rows = take (length a.rows - 1) a.rows }

abbrev pub squashed : ℕ → AddressList → AddressList
squashed row a = record a { rows = up_to row a.rows }
