-- Words of 32 bits as numbers below 2^32, and as two's complement values.
use Rattle.std.specs.Prelude.{ℕ, ◌+◌, ◌-◌, ◌*◌, ◌%◌, ◌^◌, Bool, ℤ, pos, negsuc, nat_lt}
use Rattle.std.specs.Int.{cast_signed, cast_unsigned, w8, w16, w32}

-- sum, difference and product, modulo 2^32
abbrev pub word_sum : ℕ → ℕ → ℕ
word_sum a b = (a + b) % 2 ^ 32

abbrev pub word_difference : ℕ → ℕ → ℕ
word_difference a b = (a + (2 ^ 32 - b)) % 2 ^ 32

abbrev pub word_product : ℕ → ℕ → ℕ
word_product a b = (a * b) % 2 ^ 32

-- the two's complement value of a word
abbrev pub signed : ℕ → ℤ
signed word = cast_signed w32 word

-- the word of a value from -2^31 to 2^31 - 1
abbrev pub word_of : ℤ → ℕ
word_of z = cast_unsigned w32 z

-- a value lies from -2^31 to 2^31 - 1; `negsuc n` is -(n + 1)
abbrev pub is_in_word : ℤ → Bool
is_in_word (pos n) = nat_lt n (2 ^ 31)
is_in_word (negsuc n) = nat_lt n (2 ^ 31)

-- a byte or a half as a word, with its sign
abbrev pub byte_extended : ℕ → ℕ
byte_extended byte = cast_unsigned w32 (cast_signed w8 byte)

abbrev pub half_extended : ℕ → ℕ
half_extended half = cast_unsigned w32 (cast_signed w16 half)
