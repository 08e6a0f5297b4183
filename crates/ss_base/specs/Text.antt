-- Numbers as text, and little-endian fields of bytes.
use Rattle.std.specs.Prelude.{◌+◌, ◌*◌, ◌/◌, ◌%◌, ℕ, List, [], ◌∷◌, slice_index, nat_lt, if◌then◌else◌}

-- the digit of a number below 16, with lower-case letters
abbrev pub hex_digit : ℕ → ℕ
hex_digit n = if nat_lt n 10 then 48 + n else 87 + n

-- the eight digits of a number below 2^32
abbrev pub hex8 : ℕ → List ℕ
hex8 n = hex_digit (n / 268435456 % 16) ∷ hex_digit (n / 16777216 % 16) ∷ hex_digit (n / 1048576 % 16) ∷ hex_digit (n / 65536 % 16)
    ∷ hex_digit (n / 4096 % 16) ∷ hex_digit (n / 256 % 16) ∷ hex_digit (n / 16 % 16) ∷ hex_digit (n % 16) ∷ []

-- two digits for each byte
abbrev pub hex_bytes : List ℕ → List ℕ
hex_bytes [] = []
hex_bytes (b ∷ bs) = hex_digit (b / 16) ∷ hex_digit (b % 16) ∷ hex_bytes bs

-- the little-endian number in the two bytes at a place
abbrev pub half_at : List ℕ → ℕ → ℕ
half_at bytes at = slice_index bytes at + 256 * slice_index bytes (at + 1)

-- the little-endian number in the four bytes at a place
abbrev pub word_at : List ℕ → ℕ → ℕ
word_at bytes at = slice_index bytes at + 256 * slice_index bytes (at + 1) + 65536 * slice_index bytes (at + 2) + 16777216 * slice_index bytes (at + 3)

-- the little-endian number in the eight bytes at a place
abbrev pub double_at : List ℕ → ℕ → ℕ
double_at bytes at = word_at bytes at + 4294967296 * word_at bytes (at + 4)
