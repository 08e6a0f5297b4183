-- Halves and words in either byte order.
use Rattle.std.specs.Prelude.{◌+◌, ◌*◌, ℕ, List, Bool, true, false, slice_index}
use Rattle.std.specs.Int.{w16, w32, to_le_bytes, to_be_bytes}
use Rattle.ss_base.specs.Text.{half_at, word_at}

-- the number in the two bytes at a place, with the highest byte first where it is big-endian
abbrev pub half_in : Bool → List ℕ → ℕ → ℕ
half_in false bytes at = half_at bytes at
half_in true bytes at = slice_index bytes (at + 1) + 256 * slice_index bytes at

-- the number in the four bytes at a place, with the highest byte first where it is big-endian
abbrev pub word_in : Bool → List ℕ → ℕ → ℕ
word_in false bytes at = word_at bytes at
word_in true bytes at = slice_index bytes (at + 3) + 256 * slice_index bytes (at + 2) + 65536 * slice_index bytes (at + 1) + 16777216 * slice_index bytes at

-- the two bytes of a number, in the byte order
abbrev pub half_bytes : Bool → ℕ → List ℕ
half_bytes false half = to_le_bytes w16 half
half_bytes true half = to_be_bytes w16 half

-- the four bytes of a number, in the byte order
abbrev pub word_bytes : Bool → ℕ → List ℕ
word_bytes false word = to_le_bytes w32 word
word_bytes true word = to_be_bytes w32 word
