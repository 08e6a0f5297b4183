-- What one word can stand for, and what a program can be started with.
use Rattle.std.specs.Prelude.{◌+◌, ℕ, Bool, false, List, [], ◌∷◌, length, Option, Some, None, slice_index, nat_lt, nat_le, nat_eq, if◌then◌else◌}
use Rattle.std.specs.Char.{is_ascii_digit}
use Rattle.std.specs.List.{list_all}
use Rattle.std.specs.Str.Parse.{digits_value}
use Rattle.ecoff_load.specs.Start.{words_length, ended_strings}

-- a file's name is any word but the empty one
abbrev pub is_file : List ℕ → Bool
is_file name = nat_lt 0 (length name)

abbrev pub has_leading_zero : List ℕ → Bool
has_leading_zero text = if nat_lt 1 (length text) then nat_eq (slice_index text 0) 48 else false

-- one to 13 digits, of which the first is 0 only where it stands alone
abbrev pub is_number : List ℕ → Bool
is_number text =
    if nat_lt 0 (length text) then
    if nat_le (length text) 13 then
    if has_leading_zero text then false else list_all is_ascii_digit text
    else false
    else false

-- the number that a word writes
abbrev pub digits_of : List ℕ → Option ℕ
digits_of text = if is_number text then Some (digits_value 10 text) else None

-- whether a word begins with '-'
abbrev pub begins_with_dash : List ℕ → Bool
begins_with_dash [] = false
begins_with_dash (b ∷ bs) = nat_eq b 45

-- how many bytes the start block of the arguments has
abbrev pub start_block_length : List (List ℕ) → ℕ
start_block_length args = words_length args + length (ended_strings args)

-- a start block has at most 16,384 bytes
abbrev pub fits_start_block : List (List ℕ) → Bool
fits_start_block args = nat_le (start_block_length args) 16384
