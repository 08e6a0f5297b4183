-- The lines of a text, and the words of a line.
use Rattle.std.specs.Prelude.{◌+◌, ◌&&◌, ◌||◌, ℕ, List, [], ◌∷◌, Bool, length, take, drop, filter, nat_eq, nat_le, nat_lt, if◌then◌else◌, Option, Some, None}
use Rattle.std.specs.List.{slice_split, position, before_first}

-- lines without one behind the last newline that has no bytes
abbrev pub whole_lines : List (List ℕ) → List (List ℕ)
whole_lines [] = []
whole_lines (line ∷ []) = if nat_eq (length line) 0 then [] else line ∷ []
whole_lines (line ∷ next ∷ others) = line ∷ whole_lines (next ∷ others)

-- the lines of a text, without their newlines; the last one may lack its newline
abbrev pub lines_of : List ℕ → List (List ℕ)
lines_of text = whole_lines (slice_split (λ b. nat_eq b 10) text)

-- space, tab and carriage return
abbrev pub is_blank : ℕ → Bool
is_blank b = nat_eq b 32 || nat_eq b 9 || nat_eq b 13

-- a blank, or printable ASCII
abbrev pub is_allowed : ℕ → Bool
is_allowed b = is_blank b || (nat_le 33 b && nat_le b 126)

-- the bytes from the first one on that is no blank
abbrev pub trim_start : List ℕ → List ℕ
trim_start [] = []
trim_start (b ∷ bs) = if is_blank b then trim_start bs else b ∷ bs

-- what stands before and after the first `c`; None where there is none
abbrev pub parted_at : Option ℕ → List ℕ → Option (List ℕ × List ℕ)
parted_at None bytes = None
parted_at (Some place) bytes = Some (take place bytes, drop (place + 1) bytes)

abbrev pub parted : ℕ → List ℕ → Option (List ℕ × List ℕ)
parted c bytes = parted_at (position (λ b. nat_eq b c) bytes) bytes

-- what stands before the first `#`, wherever it stands
abbrev pub before_comment : List ℕ → List ℕ
before_comment line = before_first (λ b. nat_eq b 35) line

-- whether bytes are some
abbrev pub is_word : List ℕ → Bool
is_word bytes = nat_lt 0 (length bytes)

-- the words of bytes: what stands between blanks, where that has bytes
abbrev pub words_in : List ℕ → List (List ℕ)
words_in bytes = filter is_word (slice_split is_blank bytes)

-- the words of a line before its comment
abbrev pub words_of : List ℕ → List (List ℕ)
words_of line = words_in (before_comment line)
