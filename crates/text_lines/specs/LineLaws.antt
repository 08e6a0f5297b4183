-- Bytes that are split, one piece after the other: lines, and words.
use Rattle.std.proofs.Common.{◌≡◌, ◌+◌, ◌<◌, ◌≤◌, ◌∙◌, ℕ, suc, List, [], ◌∷◌, Bool, true, false, not, cond, nat_eq, nat_lt, Some, None, length, take, drop, refl, ap, arith}
use Rattle.std.proofs.lemmas.List.Splits.{slice_split_first, slice_split-cons_no, length-slice_split}
use Rattle.std.proofs.lemmas.Bool.Decides.{nat_tests}
use Rattle.std.specs.List.{slice_split, position_or_len, onto_first}
use Rattle.text_lines.specs.Lines.{lines_of, parted, parted_at, whole_lines}

abbrev is : ℕ → ℕ → Bool
is c b = nat_eq b c

last_step : (p : ℕ → Bool) (x : ℕ) (xs : List ℕ) (passes : Bool) → p x ≡ passes → suc (length xs) ≤ cond (not passes) (1 + position_or_len p xs) 0
    → (length xs ≤ position_or_len p xs → slice_split p xs ≡ xs ∷ []) → slice_split p (x ∷ xs) ≡ (x ∷ xs) ∷ []
last_step p x xs true e h so_far = absurd (omega arith)
last_step p x xs false e h so_far = slice_split-cons_no p x xs e ∙ ap (onto_first x) (so_far (omega arith))

-- bytes in which nothing passes are one piece
pub one_piece : (p : ℕ → Bool) (xs : List ℕ) → length xs ≤ position_or_len p xs → slice_split p xs ≡ xs ∷ []
one_piece p [] h = refl
one_piece p (x ∷ xs) h = last_step p x xs (p x) refl h (one_piece p xs)

more_step : (c : ℕ) (bytes : List ℕ) (parts : List ℕ × List ℕ) (inside : Bool) → nat_lt (position_or_len (is c) bytes) (length bytes) ≡ inside
    → parted_at (cond inside (Some (position_or_len (is c) bytes)) None) bytes ≡ Some parts → slice_split (is c) bytes ≡ parts.0 ∷ slice_split (is c) parts.1
more_step c bytes parts false e h = absurd (cc)
more_step c bytes parts true e h =
    let below : position_or_len (is c) bytes < length bytes = grind (arith, nat_tests) in
    let same : (take (position_or_len (is c) bytes) bytes, drop (position_or_len (is c) bytes + 1) bytes) ≡ parts = cc in
    slice_split_first (is c) bytes 0 below ∙ ap (λ (p : List ℕ × List ℕ). p.0 ∷ slice_split (is c) p.1) same

-- where bytes are parted, what stands before is their first piece
pub more_pieces : (c : ℕ) (bytes : List ℕ) (parts : List ℕ × List ℕ) → parted c bytes ≡ Some parts → slice_split (is c) bytes ≡ parts.0 ∷ slice_split (is c) parts.1
more_pieces c bytes parts h = more_step c bytes parts (nat_lt (position_or_len (is c) bytes) (length bytes)) refl h

none_step : (c : ℕ) (bytes : List ℕ) (inside : Bool) → nat_lt (position_or_len (is c) bytes) (length bytes) ≡ inside
    → parted_at (cond inside (Some (position_or_len (is c) bytes)) None) bytes ≡ None → slice_split (is c) bytes ≡ bytes ∷ []
none_step c bytes true e h = absurd (cc)
none_step c bytes false e h = one_piece (is c) bytes (grind (arith, nat_tests))

-- where they aren't, they are one piece
pub no_more_pieces : (c : ℕ) (bytes : List ℕ) → parted c bytes ≡ None → slice_split (is c) bytes ≡ bytes ∷ []
no_more_pieces c bytes h = none_step c bytes (nat_lt (position_or_len (is c) bytes) (length bytes)) refl h

whole_cons : (x : List ℕ) (ys : List (List ℕ)) → 0 < length ys → whole_lines (x ∷ ys) ≡ x ∷ whole_lines ys
whole_cons x [] h = absurd (omega arith)
whole_cons x (y ∷ ys) h = refl

whole_one : (x : List ℕ) → 0 < length x → whole_lines (x ∷ []) ≡ x ∷ []
whole_one [] h = absurd (omega arith)
whole_one (b ∷ bs) h = grind (arith, nat_tests)

-- where a newline stands, a line ends
pub more_lines : (text : List ℕ) (parts : List ℕ × List ℕ) → parted 10 text ≡ Some parts → lines_of text ≡ parts.0 ∷ lines_of parts.1
more_lines text parts h =
    ap whole_lines (more_pieces 10 text parts h)
    ∙ whole_cons parts.0 (slice_split (is 10) parts.1) (omega (arith, length-slice_split (is 10) parts.1))

-- and where none does, the text is the last line
pub last_line : (text : List ℕ) → 0 < length text → parted 10 text ≡ None → lines_of text ≡ text ∷ []
last_line text h none = ap whole_lines (no_more_pieces 10 text none) ∙ whole_one text h
