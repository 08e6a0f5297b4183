-- Words and halves in memory, addresses, and the parts of words that part loads and stores concern.
use Rattle.std.specs.Prelude.{ℕ, ◌+◌, ◌-◌, ◌*◌, ◌/◌, ◌%◌, ◌^◌, Bool, true, false, List, [], ◌∷◌, ◌++◌, take, drop, replicate, min, max, nat_lt}
use Rattle.std.specs.Int.{w16, w32, to_le_bytes, to_be_bytes, from_le_bytes, from_be_bytes}
use Rattle.pisa_isa.specs.declared.instr.Instr.{Instr}
use Rattle.pisa_step.specs.declared.action.Address.{Address}
use Rattle.pisa_step.specs.declared.action.Address.TheVariants as address
use Rattle.pisa_step.specs.declared.action.Loaded.{Loaded}
use Rattle.pisa_step.specs.declared.action.Loaded.TheVariants as loaded
use Rattle.pisa_step.specs.declared.action.Stored.{Stored}
use Rattle.pisa_step.specs.declared.action.Stored.TheVariants as stored
use Rattle.pisa_step.specs.declared.action.Side.{Side}
use Rattle.pisa_step.specs.declared.action.Side.TheVariants as side
use Rattle.pisa_step.specs.declared.changes.TextRange.{TextRange}
use Rattle.pisa_step.specs.Reader.{Reader}
use Rattle.pisa_step.specs.Words.{word_sum, word_product, byte_extended, half_extended}

-- the effective address of an access
abbrev pub address_of : Address → Reader → Instr → ℕ
address_of address.Offset s i = word_sum (s.regs i.rs) (half_extended i.imm)
address_of address.Indexed s i = word_sum (s.regs i.rs) (s.regs i.rd)

-- the half and the word at an address, in the machine's byte order
abbrev pub half_in : Bool → ℕ → ℕ → ℕ
half_in false b0 b1 = from_le_bytes w16 (b0 ∷ b1 ∷ [])
half_in true b0 b1 = from_be_bytes w16 (b0 ∷ b1 ∷ [])

abbrev pub word_in : Bool → ℕ → ℕ → ℕ → ℕ → ℕ
word_in false b0 b1 b2 b3 = from_le_bytes w32 (b0 ∷ b1 ∷ b2 ∷ b3 ∷ [])
word_in true b0 b1 b2 b3 = from_be_bytes w32 (b0 ∷ b1 ∷ b2 ∷ b3 ∷ [])

abbrev pub half_at : Reader → ℕ → ℕ
half_at s a = half_in s.big (s.bytes a) (s.bytes (a + 1))

abbrev pub word_at : Reader → ℕ → ℕ
word_at s a = word_in s.big (s.bytes a) (s.bytes (a + 1)) (s.bytes (a + 2)) (s.bytes (a + 3))

-- the bytes of a half and of a word, in the machine's byte order
abbrev pub half_bytes : Bool → ℕ → List ℕ
half_bytes false half = to_le_bytes w16 half
half_bytes true half = to_be_bytes w16 half

abbrev pub word_bytes : Bool → ℕ → List ℕ
word_bytes false word = to_le_bytes w32 word
word_bytes true word = to_be_bytes w32 word

-- what a load gives
abbrev pub loaded_of : Loaded → Reader → ℕ → ℕ
loaded_of loaded.Byte s a = byte_extended (s.bytes a)
loaded_of loaded.ByteUnsigned s a = s.bytes a
loaded_of loaded.Half s a = half_extended (half_at s a)
loaded_of loaded.HalfUnsigned s a = half_at s a
loaded_of loaded.Word s a = word_at s a

-- of how many bytes an address must be a multiple
abbrev pub loaded_size : Loaded → ℕ
loaded_size loaded.Byte = 1
loaded_size loaded.ByteUnsigned = 1
loaded_size loaded.Half = 2
loaded_size loaded.HalfUnsigned = 2
loaded_size loaded.Word = 4

-- what a store writes, and of how many bytes its address must be a multiple
abbrev pub stored_of : Stored → Reader → ℕ → List ℕ
stored_of stored.Byte s rt = s.regs rt % 2 ^ 8 ∷ []
stored_of stored.Half s rt = half_bytes s.big (s.regs rt % 2 ^ 16)
stored_of stored.Word s rt = word_bytes s.big (s.regs rt)
stored_of stored.Pair s rt = word_bytes s.big (s.regs rt) ++ word_bytes s.big (s.regs (rt + 1))
stored_of stored.Zero s rt = replicate 8 0

abbrev pub stored_size : Stored → ℕ
stored_size stored.Byte = 1
stored_size stored.Half = 2
stored_size stored.Word = 4
stored_size stored.Pair = 8
stored_size stored.Zero = 8

-- a word moved up by so many bytes, joined with as many low bytes of the old value
abbrev pub over_low : ℕ → ℕ → ℕ → ℕ
over_low count word old = word_product word (256 ^ count) + old % 256 ^ count

-- a word moved down by so many bytes, joined with as many high bytes of the old value
abbrev pub over_high : ℕ → ℕ → ℕ → ℕ
over_high count word old = word / 256 ^ count + old / 256 ^ (4 - count) * 256 ^ (4 - count)

-- what a part load gives: the side, big-endian or not, the place of the address in its word, the
-- word there, the old value
abbrev pub part_loaded : Side → Bool → ℕ → ℕ → ℕ → ℕ
part_loaded side.Left false place word old = over_low (3 - place) word old
part_loaded side.Right false place word old = over_high place word old
part_loaded side.Left true place word old = over_low place word old
part_loaded side.Right true place word old = over_high (3 - place) word old

-- what a part load at an address gives, of the word that the address lies in
abbrev pub part_loaded_at : Side → Reader → ℕ → ℕ → ℕ
part_loaded_at side s a old = part_loaded side s.big (a % 4) (word_at s (a - a % 4)) old

-- what a part store writes: one end of the register's bytes, in the machine's byte order
abbrev pub part_stored : Side → Bool → ℕ → ℕ → List ℕ
part_stored side.Left false place value = drop (3 - place) (to_le_bytes w32 value)
part_stored side.Right false place value = take (4 - place) (to_le_bytes w32 value)
part_stored side.Left true place value = take (4 - place) (to_be_bytes w32 value)
part_stored side.Right true place value = drop (3 - place) (to_be_bytes w32 value)

-- where a part store writes: from the word's first address up to its own, or from its own on
abbrev pub part_start : Side → Bool → ℕ → ℕ
part_start side.Left false a = a - a % 4
part_start side.Right false a = a
part_start side.Left true a = a
part_start side.Right true a = a - a % 4

-- one of so many bytes from an address on lies in text
abbrev pub meets : TextRange → ℕ → ℕ → Bool
meets text addr count = nat_lt (max addr text.start) (min (addr + count) text.end)
