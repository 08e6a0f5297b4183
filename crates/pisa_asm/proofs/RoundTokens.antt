-- Tokens that are put together and taken apart again.
use Rattle.std.proofs.Common.{◌≡◌, ◌+◌, ◌-◌, ◌<◌, ◌∙◌, ◌&&◌, ◌++◌, ℕ, suc, List, [], ◌∷◌, Bool, true, false, not, cond, nat_eq, nat_le, nat_lt, length, take, drop, get_or, Some, None, refl, ap, arith, add-one, length-append}
use Rattle.std.specs.List.{list_all, slice_split, onto_first, prefix_len}
use Rattle.std.proofs.lemmas.Bool.Decides.{nat_tests}
use Rattle.std.proofs.lemmas.List.Folds.{list_all-append}
use Rattle.std.proofs.lemmas.List.Splits.{slice_split-cons_no, slice_split-cons_yes}
use Rattle.std.proofs.Math.Seq.{take-append_seam}
use Rattle.text_lines.specs.Lines.{is_blank, parted, parted_at, trim_start}
use Rattle.pisa_asm.specs.Letters.{closed, trim, trim_end}
use Rattle.pisa_asm.specs.Tokens.{is_digit}
use Rattle.text_lines.specs.LineLaws.{no_more_pieces}

-- a byte of a token: printable, and no quote, comment, comma or colon
abbrev pub is_token_byte : ℕ → Bool
is_token_byte b = nat_le 36 b && nat_le b 126 && not (nat_eq b 44) && not (nat_eq b 58)

abbrev pub is_token : List ℕ → Bool
is_token xs = list_all is_token_byte xs

-- bytes without a `c`
abbrev pub lacks : ℕ → List ℕ → Bool
lacks c xs = list_all (λ b. not (nat_eq b c)) xs

both_true : (a b : Bool) → a ≡ true → b ≡ true → (a && b) ≡ true
both_true true b h k = k
both_true false b h k = absurd (cc)

pub joined : (p : ℕ → Bool) (xs ys : List ℕ) → list_all p xs ≡ true → list_all p ys ≡ true → list_all p (xs ++ ys) ≡ true
joined p xs ys h k = list_all-append p xs ys ∙ both_true (list_all p xs) (list_all p ys) h k

first_and : (a b : Bool) → (a && b) ≡ true → a ≡ true
first_and true b h = refl
first_and false b h = absurd (cc)

rest_and : (a b : Bool) → (a && b) ≡ true → b ≡ true
rest_and true b h = h
rest_and false b h = absurd (cc)

-- a test that follows from another, of all bytes
pub all_by : (p q : ℕ → Bool) (xs : List ℕ) → ((b : ℕ) → p b ≡ true → q b ≡ true) → list_all p xs ≡ true → list_all q xs ≡ true
all_by p q [] f h = refl
all_by p q (x ∷ xs) f h =
    both_true (q x) (list_all q xs) (f x (first_and (p x) (list_all p xs) h)) (all_by p q xs f (rest_and (p x) (list_all p xs) h))

digit_byte : (b : ℕ) → is_digit b ≡ true → is_token_byte b ≡ true
digit_byte b h = grind (arith, nat_tests)

pub digits_token : (ds : List ℕ) → list_all is_digit ds ≡ true → is_token ds ≡ true
digits_token ds h = all_by is_digit is_token_byte ds digit_byte h

digit_not : (c b : ℕ) → c < 48 → is_digit b ≡ true → not (nat_eq b c) ≡ true
digit_not c b small h = grind (arith, nat_tests)

pub digits_lack : (c : ℕ) (ds : List ℕ) → c < 48 → list_all is_digit ds ≡ true → lacks c ds ≡ true
digits_lack c ds small h = all_by is_digit (λ b. not (nat_eq b c)) ds (λ b k. digit_not c b small k) h

no_comma : (b : ℕ) → is_token_byte b ≡ true → not (nat_eq b 44) ≡ true
no_comma b h = grind (arith, nat_tests)

pub token_lacks_comma : (xs : List ℕ) → is_token xs ≡ true → lacks 44 xs ≡ true
token_lacks_comma xs h = all_by is_token_byte (λ b. not (nat_eq b 44)) xs no_comma h

same : (c : ℕ) → not (nat_eq c c) ≡ false
same c = grind (arith, nat_tests)

place : (c : ℕ) (xs ys : List ℕ) → lacks c xs ≡ true → prefix_len (λ b. not (nat_eq b c)) (xs ++ c ∷ ys) ≡ length xs
place c [] ys h = ap (λ b. cond b (1 + prefix_len (λ b. not (nat_eq b c)) ys) 0) (same c)
place c (x ∷ xs) ys h =
    let here = first_and (not (nat_eq x c)) (lacks c xs) h in
    ap (λ b. cond b (1 + prefix_len (λ b. not (nat_eq b c)) (xs ++ c ∷ ys)) 0) here ∙ grow (prefix_len (λ b. not (nat_eq b c)) (xs ++ c ∷ ys)) (length xs) (place c xs ys (rest_and (not (nat_eq x c)) (lacks c xs) h))
  where
    grow : (n m : ℕ) → n ≡ m → 1 + n ≡ suc m
    grow n m e = omega arith

drop_past : (c : ℕ) (xs ys : List ℕ) → drop (suc (length xs)) (xs ++ c ∷ ys) ≡ ys
drop_past c [] ys = refl
drop_past c (x ∷ xs) ys = drop_past c xs ys

-- bytes are parted at the first `c`
pub parted_here : (c : ℕ) (xs ys : List ℕ) → lacks c xs ≡ true → parted c (xs ++ c ∷ ys) ≡ Some (xs, ys)
parted_here c xs ys h =
    let bytes = xs ++ c ∷ ys in
    let at = place c xs ys h in
    let inside : nat_lt (length xs) (length bytes) ≡ true = grind (arith, nat_tests, length-append xs (c ∷ ys)) in
    ap (λ n. parted_at (cond (nat_lt n (length bytes)) (Some n) None) bytes) at
    ∙ ap (λ b. parted_at (cond b (Some (length xs)) None) bytes) inside
    ∙ ap (λ (front : List ℕ). Some (front, drop (length xs + 1) bytes)) (take-append_seam xs (c ∷ ys))
    ∙ ap (λ (back : List ℕ). Some (xs, back)) (rw add-one (drop_past c xs ys))

nowhere : (c : ℕ) (xs : List ℕ) → lacks c xs ≡ true → prefix_len (λ b. not (nat_eq b c)) xs ≡ length xs
nowhere c [] h = refl
nowhere c (x ∷ xs) h =
    ap (λ b. cond b (1 + prefix_len (λ b. not (nat_eq b c)) xs) 0) (first_and (not (nat_eq x c)) (lacks c xs) h)
    ∙ grow (prefix_len (λ b. not (nat_eq b c)) xs) (length xs) (nowhere c xs (rest_and (not (nat_eq x c)) (lacks c xs) h))
  where
    grow : (n m : ℕ) → n ≡ m → 1 + n ≡ suc m
    grow n m e = omega arith

-- and nowhere where there is none
pub parted_nowhere : (c : ℕ) (xs : List ℕ) → lacks c xs ≡ true → parted c xs ≡ None
parted_nowhere c xs h =
    let outside : nat_lt (length xs) (length xs) ≡ false = grind (arith, nat_tests) in
    ap (λ n. parted_at (cond (nat_lt n (length xs)) (Some n) None) xs) (nowhere c xs h)
    ∙ ap (λ b. parted_at (cond b (Some (length xs)) None) xs) outside

not_blank : (b : ℕ) → is_token_byte b ≡ true → is_blank b ≡ false
not_blank b h = grind (arith, nat_tests)

start_same : (t : List ℕ) → is_token t ≡ true → trim_start t ≡ t
start_same [] h = refl
start_same (b ∷ bs) h = ap (λ v. cond v (trim_start bs) (b ∷ bs)) (not_blank b (first_and (is_token_byte b) (is_token bs) h))

end_same : (t : List ℕ) → is_token t ≡ true → trim_end t ≡ t
end_same [] h = refl
end_same (b ∷ bs) h =
    ap (λ v. cond (v && list_all is_blank bs) [] (b ∷ trim_end bs)) (not_blank b (first_and (is_token_byte b) (is_token bs) h))
    ∙ ap (λ (xs : List ℕ). b ∷ xs) (end_same bs (rest_and (is_token_byte b) (is_token bs) h))

-- a token has no blanks round it
pub trim_same : (t : List ℕ) → is_token t ≡ true → trim t ≡ t
trim_same t h = ap trim_end (start_same t h) ∙ end_same t h

abbrev is_comma : ℕ → Bool
is_comma b = nat_eq b 44

comma_not : (b : ℕ) → not (nat_eq b 44) ≡ true → nat_eq b 44 ≡ false
comma_not b h = grind (arith, nat_tests)

-- a piece ends at a comma
pub piece_here : (xs ys : List ℕ) → lacks 44 xs ≡ true → slice_split is_comma (xs ++ 44 ∷ ys) ≡ xs ∷ slice_split is_comma ys
piece_here [] ys h = slice_split-cons_yes is_comma 44 ys refl
piece_here (x ∷ xs) ys h =
    slice_split-cons_no is_comma x (xs ++ 44 ∷ ys) (comma_not x (first_and (not (nat_eq x 44)) (lacks 44 xs) h))
    ∙ ap (onto_first x) (piece_here xs ys (rest_and (not (nat_eq x 44)) (lacks 44 xs) h))

pub piece_alone : (xs : List ℕ) → lacks 44 xs ≡ true → slice_split is_comma xs ≡ xs ∷ []
piece_alone xs h = no_more_pieces 44 xs (parted_nowhere 44 xs h)

last_is : (xs : List ℕ) (c : ℕ) → get_or (xs ++ c ∷ []) (length xs) 0 ≡ c
last_is [] c = refl
last_is (x ∷ xs) c = last_is xs c

-- a parenthesis at the end closes what stands before it
pub closed_here : (xs : List ℕ) → closed (xs ++ 41 ∷ []) ≡ Some xs
closed_here xs =
    let bytes = xs ++ 41 ∷ [] in
    let n : length bytes - 1 ≡ length xs = omega (arith, length-append xs (41 ∷ [])) in
    ap (λ k. cond (nat_eq (get_or bytes k 0) 41) (Some (take k bytes)) None) n
    ∙ ap (λ b. cond (nat_eq b 41) (Some (take (length xs) bytes)) None) (last_is xs 41)
    ∙ ap (λ (front : List ℕ). Some front) (take-append_seam xs (41 ∷ []))
