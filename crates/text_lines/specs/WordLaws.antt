-- Words that are taken off a line, one after the other.
use Rattle.std.proofs.Common.{◌≡◌, ◌+◌, ◌<◌, ◌≤◌, ◌∙◌, ◌&&◌, ℕ, zero, suc, List, [], ◌∷◌, Bool, true, false, cond, nat_eq, nat_lt, Option, Some, None, length, take, drop, filter, get_or, refl, sym, ap, subst, arith, length-drop, length-take, drop-cons}
use Rattle.std.specs.List.{position, position_or_len, list_all}
use Rattle.std.proofs.lemmas.List.{take_all, drop_all}
use Rattle.std.proofs.lemmas.List.Splits.{slice_split_first, slice_split-cons_yes}
use Rattle.std.proofs.lemmas.List.Sums.{passes_at_first}
use Rattle.std.proofs.lemmas.Bool.Decides.{nat_tests}
use Rattle.text_lines.specs.Lines.{is_blank, is_word, words_in, trim_start, parted, parted_at, before_comment}
use Rattle.text_lines.specs.Taking.{AreOf, Takes}
use Rattle.text_lines.specs.LineLaws.{one_piece}

-- ---- what passes for a line passes for a part of it

and_first : (a b : Bool) → (a && b) ≡ true → a ≡ true
and_first true b h = refl
and_first false b h = cc

and_second : (a b : Bool) → (a && b) ≡ true → b ≡ true
and_second true b h = h
and_second false b h = cc

and_both : (a b : Bool) → a ≡ true → b ≡ true → (a && b) ≡ true
and_both true b h k = k
and_both false b h k = cc

pub all_taken : (p : ℕ → Bool) (n : ℕ) (xs : List ℕ) → list_all p xs ≡ true → list_all p (take n xs) ≡ true
all_taken p zero xs h = refl
all_taken p (suc n) [] h = refl
all_taken p (suc n) (x ∷ xs) h = and_both (p x) (list_all p (take n xs)) (and_first (p x) (list_all p xs) h) (all_taken p n xs (and_second (p x) (list_all p xs) h))

pub all_dropped : (p : ℕ → Bool) (n : ℕ) (xs : List ℕ) → list_all p xs ≡ true → list_all p (drop n xs) ≡ true
all_dropped p zero xs h = h
all_dropped p (suc n) [] h = refl
all_dropped p (suc n) (x ∷ xs) h = all_dropped p n xs (and_second (p x) (list_all p xs) h)

all_trimmed_by : (p : ℕ → Bool) (b : ℕ) (bs : List ℕ) (blank : Bool) → is_blank b ≡ blank → list_all p (b ∷ bs) ≡ true → list_all p (trim_start bs) ≡ true → list_all p (cond blank (trim_start bs) (b ∷ bs)) ≡ true
all_trimmed_by p b bs true e h k = k
all_trimmed_by p b bs false e h k = h

pub all_trimmed : (p : ℕ → Bool) (xs : List ℕ) → list_all p xs ≡ true → list_all p (trim_start xs) ≡ true
all_trimmed p [] h = refl
all_trimmed p (b ∷ bs) h = all_trimmed_by p b bs (is_blank b) refl h (all_trimmed p bs (and_second (p b) (list_all p bs) h))

-- ---- the comment

comment_by : (line : List ℕ) (inside : Bool) → nat_lt (position_or_len (λ b. nat_eq b 35) line) (length line) ≡ inside
    → parted_at (cond inside (Some (position_or_len (λ b. nat_eq b 35) line)) None) line ≡ None → line ≡ before_comment line
comment_by line true e h = cc
comment_by line false e h = sym (take_all (position_or_len (λ b. nat_eq b 35) line) line (grind (arith, nat_tests)))

-- a line without `#` has no comment
pub no_comment : (line : List ℕ) → parted 35 line ≡ None → line ≡ before_comment line
no_comment line h = comment_by line (nat_lt (position_or_len (λ b. nat_eq b 35) line) (length line)) refl h

front_by : (line : List ℕ) (parts : List ℕ × List ℕ) (inside : Bool) → parted_at (cond inside (Some (position_or_len (λ b. nat_eq b 35) line)) None) line ≡ Some parts → parts.0 ≡ before_comment line
front_by line parts false h = cc
front_by line parts true h = sym (ap (first_or line) h)
  where
    first_or : List ℕ → Option (List ℕ × List ℕ) → List ℕ
    first_or d None = d
    first_or d (Some p) = p.0

-- and one with it begins it there
pub some_comment : (line : List ℕ) (parts : List ℕ × List ℕ) → parted 35 line ≡ Some parts → parts.0 ≡ before_comment line
some_comment line parts h = front_by line parts (nat_lt (position_or_len (λ b. nat_eq b 35) line) (length line)) h

-- the bytes before the comment are the line's
pub front_bytes : (line : List ℕ) (parts : List ℕ × List ℕ) → parted 35 line ≡ Some parts → AreOf parts.0 line
front_bytes line parts h = λ p all. ap (list_all p) (some_comment line parts h) ∙ all_taken p (position_or_len (λ b. nat_eq b 35) line) line all

-- ---- words

place_by : (p : ℕ → Bool) (xs : List ℕ) (at : ℕ) (inside : Bool) → cond inside (Some (position_or_len p xs)) None ≡ Some at → at ≡ position_or_len p xs
place_by p xs at false h = cc
place_by p xs at true h = sym (ap (unwrap_or_zero) h)
  where
    unwrap_or_zero : Option ℕ → ℕ
    unwrap_or_zero None = 0
    unwrap_or_zero (Some n) = n

pub place_some : (p : ℕ → Bool) (xs : List ℕ) (at : ℕ) → position p xs ≡ Some at → at ≡ position_or_len p xs
place_some p xs at h = place_by p xs at (nat_lt (position_or_len p xs) (length xs)) h

length_by : (p : ℕ → Bool) (xs : List ℕ) (inside : Bool) → nat_lt (position_or_len p xs) (length xs) ≡ inside → position_or_len p xs ≤ length xs → cond inside (Some (position_or_len p xs)) None ≡ None → length xs ≡ position_or_len p xs
length_by p xs true e few h = cc
length_by p xs false e few h =
    let past : length xs ≤ position_or_len p xs = grind (arith, nat_tests) in
    omega arith

few_step : (p : ℕ → Bool) (x : ℕ) (xs : List ℕ) (b : Bool) → p x ≡ b → position_or_len p xs ≤ length xs → position_or_len p (x ∷ xs) ≤ length (x ∷ xs)
few_step p x xs true e h = grind (arith, e)
few_step p x xs false e h = grind (arith, e, h)

pub place_few : (p : ℕ → Bool) (xs : List ℕ) → position_or_len p xs ≤ length xs
place_few p [] = omega arith
place_few p (x ∷ xs) = few_step p x xs (p x) refl (place_few p xs)

pub place_none : (p : ℕ → Bool) (xs : List ℕ) → position p xs ≡ None → length xs ≡ position_or_len p xs
place_none p xs h = length_by p xs (nat_lt (position_or_len p xs) (length xs)) refl (place_few p xs) h

-- a blank in front says nothing
pub words_blank : (b : ℕ) (bs : List ℕ) → is_blank b ≡ true → words_in (b ∷ bs) ≡ words_in bs
words_blank b bs e = ap (filter is_word) (slice_split-cons_yes is_blank b bs e)

trimmed_by : (b : ℕ) (bs : List ℕ) (blank : Bool) → is_blank b ≡ blank → words_in bs ≡ words_in (trim_start bs) → words_in (b ∷ bs) ≡ words_in (cond blank (trim_start bs) (b ∷ bs))
trimmed_by b bs true e so_far = words_blank b bs e ∙ so_far
trimmed_by b bs false e so_far = refl

pub words_trimmed : (bs : List ℕ) → words_in bs ≡ words_in (trim_start bs)
words_trimmed [] = refl
words_trimmed (b ∷ bs) = trimmed_by b bs (is_blank b) refl (words_trimmed bs)

shorter_by : (b : ℕ) (bs : List ℕ) (blank : Bool) → length (trim_start bs) ≤ length bs → length (cond blank (trim_start bs) (b ∷ bs)) ≤ length (b ∷ bs)
shorter_by b bs true h = omega arith
shorter_by b bs false h = omega arith

pub trimmed_shorter : (bs : List ℕ) → length (trim_start bs) ≤ length bs
trimmed_shorter [] = omega arith
trimmed_shorter (b ∷ bs) = shorter_by b bs (is_blank b) (trimmed_shorter bs)

-- bytes begin with no blank, or there are none
abbrev HasFront : List ℕ → Type 0
HasFront [] = Unit {0}
HasFront (b ∷ bs) = is_blank b ≡ false

front_trimmed_by : (b : ℕ) (bs : List ℕ) (blank : Bool) → is_blank b ≡ blank → HasFront (trim_start bs) → HasFront (cond blank (trim_start bs) (b ∷ bs))
front_trimmed_by b bs true e h = h
front_trimmed_by b bs false e h = e

trimmed_front : (bs : List ℕ) → HasFront (trim_start bs)
trimmed_front [] = tt
trimmed_front (b ∷ bs) = front_trimmed_by b bs (is_blank b) refl (trimmed_front bs)

begins_with_word : (bs : List ℕ) → HasFront bs → 0 < length bs → 1 ≤ position_or_len is_blank bs
begins_with_word [] h l = absurd (omega arith)
begins_with_word (b ∷ bs) h l = grind (arith, h)

drop_step : (xs : List ℕ) (k : ℕ) → k < length xs → drop k xs ≡ get_or xs k 0 ∷ drop (k + 1) xs
drop_step xs k h =
    let next : suc k ≡ k + 1 = omega arith in
    drop-cons xs k 0 h ∙ ap (λ n. get_or xs k 0 ∷ drop n xs) next

word_by : (bs : List ℕ) (inside : Bool) → nat_lt (position_or_len is_blank bs) (length bs) ≡ inside → 1 ≤ position_or_len is_blank bs → 0 < length bs
    → words_in bs ≡ take (position_or_len is_blank bs) bs ∷ words_in (drop (position_or_len is_blank bs) bs)
word_by bs true e far some =
    let k = position_or_len is_blank bs in
    let below : k < length bs = grind (arith, nat_tests) in
    let long : length (take k bs) ≡ k = omega (arith, length-take k bs) in
    let kept : is_word (take k bs) ≡ true = grind (arith, nat_tests, long) in
    ap (filter is_word) (slice_split_first is_blank bs 0 below)
    ∙ ap (λ w. cond w (take k bs ∷ words_in (drop (k + 1) bs)) (words_in (drop (k + 1) bs))) kept
    ∙ ap (λ l. take k bs ∷ l) (sym (ap words_in (drop_step bs k below) ∙ words_blank (get_or bs k 0) (drop (k + 1) bs) (passes_at_first is_blank bs 0 below)))
word_by bs false e far some =
    let k = position_or_len is_blank bs in
    let past : length bs ≤ k = grind (arith, nat_tests) in
    let kept : is_word bs ≡ true = grind (arith, nat_tests) in
    ap (filter is_word) (one_piece is_blank bs past)
    ∙ ap (λ w. cond w (bs ∷ []) []) kept
    ∙ sym (ap (λ w. w ∷ words_in (drop k bs)) (take_all k bs past) ∙ ap (λ r. bs ∷ words_in r) (drop_all k bs past))

-- the first word of bytes that begin with no blank
pub word_first : (bs : List ℕ) → HasFront bs → 0 < length bs → words_in bs ≡ take (position_or_len is_blank bs) bs ∷ words_in (drop (position_or_len is_blank bs) bs)
word_first bs h l = word_by bs (nat_lt (position_or_len is_blank bs) (length bs)) refl (begins_with_word bs h l) l

-- the first word of a line
pub takes_word : (line rest word others : List ℕ) (at : ℕ) → rest ≡ trim_start line → 0 < length rest → at ≡ position_or_len is_blank rest → word ≡ take at rest → others ≡ drop at rest → Takes line word others
takes_word line rest word others at trimmed some there first behind =
    let far : 1 ≤ position_or_len is_blank rest = begins_with_word rest (subst HasFront (sym trimmed) (trimmed_front line)) some in
    record {
      words = words_trimmed line ∙ ap words_in (sym trimmed) ∙ word_first rest (subst HasFront (sym trimmed) (trimmed_front line)) some
          ∙ ap (λ k. take k rest ∷ words_in (drop k rest)) (sym there) ∙ ap (λ w. w ∷ words_in (drop at rest)) (sym first) ∙ ap (λ r. word ∷ words_in r) (sym behind);
      shorter = omega (arith, far, there, some, ap (λ (x : List ℕ). length x) behind, length-drop at rest, ap (λ (x : List ℕ). length x) trimmed, trimmed_shorter line);
      word_bytes = λ p h. ap (list_all p) first ∙ all_taken p at rest (ap (list_all p) trimmed ∙ all_trimmed p line h);
      rest_bytes = λ p h. ap (list_all p) behind ∙ all_dropped p at rest (ap (list_all p) trimmed ∙ all_trimmed p line h);
    }

-- a line of blanks has no word
pub takes_none : (line rest : List ℕ) → rest ≡ trim_start line → length rest ≡ 0 → words_in line ≡ []
takes_none line [] trimmed h = words_trimmed line ∙ ap words_in (sym trimmed)
takes_none line (b ∷ bs) trimmed h = absurd (omega (arith, h))
