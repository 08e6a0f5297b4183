-- The start block: the arguments as a program finds them on its stack.
use Rattle.std.specs.Prelude.{◌≡◌, ◌+◌, ◌-◌, ◌*◌, ◌^◌, ◌<◌, ◌≤◌, ℕ, Bool, List, [], ◌∷◌, ◌++◌, length, take, map, min}
use Rattle.std.specs.List.{flat_map, range_with_len}
use Rattle.ecoff_load.specs.Words.{word_bytes}
use Rattle.ecoff_load.specs.declared.start.StartFault.{StartFault}
use Rattle.ecoff_load.specs.declared.start.StartFault.TheVariants as faults

-- strings behind one another, each ended by a zero byte
abbrev pub ended_strings : List (List ℕ) → List ℕ
ended_strings args = flat_map (λ s. s ++ 0 ∷ []) args

-- how far the strings are from the block's start: argc, the pointers and two zeros stand before them
abbrev pub words_length : List (List ℕ) → ℕ
words_length args = 4 * (length args + 3)

-- the address of a string, in a block that stands at 0x7fff8000
abbrev pub pointer_to : List (List ℕ) → ℕ → ℕ
pointer_to args k = 0x7fff8000 + words_length args + length (ended_strings (take k args))

-- argc, the argv pointers, and two zeros
abbrev pub block_words : List (List ℕ) → List ℕ
block_words args = length args ∷ map (pointer_to args) (range_with_len 0 (length args)) ++ 0 ∷ 0 ∷ []

-- the block: its words in the byte order, and the strings
unfoldable pub block : Bool → List (List ℕ) → List ℕ
block big args = flat_map (word_bytes big) (block_words args) ++ ended_strings args

-- why there is no block: it has more than 16,384 bytes, this many or more than a count can say; memory
-- is wanted for a block that is short enough alone
abbrev pub RefusesStart : List ℕ → StartFault → Type 0
RefusesStart bytes (faults.TooLong count) = (16384 < length bytes) × (count ≡ min (length bytes) (2 ^ 64 - 1))
RefusesStart bytes faults.OutOfMemory = length bytes ≤ 16384
