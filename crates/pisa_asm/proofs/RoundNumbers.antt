-- Numbers that are printed and read again.
use Rattle.std.proofs.Common.{◌≡◌, ◌+◌, ◌-◌, ◌*◌, ◌/◌, ◌%◌, ◌^◌, ◌<◌, ◌≤◌, ◌∙◌, ◌&&◌, ◌||◌, ℕ, List, [], ◌∷◌, Bool, true, false, not, cond, min, nat_eq, nat_le, nat_lt, length, get_or, decimal, Some, None, Ok, Err, refl, ap, arith, rules, tests}
use Rattle.std.specs.List.{list_all}
use Rattle.std.proofs.lemmas.Bool.Decides.{nat_tests}
use Rattle.std.proofs.lemmas.Str.Parse.{IsNumeralModel, numerals_by_fold}
use Rattle.std.proofs.lemmas.Fmt.{digits_decimal, digits_value-decimal, decimal_digit, decimal_nonempty, first_decimal}
use Rattle.ss_base.specs.Text.{hex8, hex_digit}
use Rattle.ss_base.specs.declared.text_fault.TextWhy.TheVariants as why
use Rattle.pisa_asm.specs.declared.tokens.Number.{Number}
use Rattle.pisa_asm.specs.Tokens.{decimal_on, hex_digit_value, hex_on, is_decimal, is_digit, is_hex_digit, limited, limited_in, number_in, number_of, register_in}
use Rattle.pisa_asm.specs.Printed.{register_text, target_text}

own : IsNumeralModel (λ ds. list_all is_digit ds ≡ true) (decimal_on 0)
own = numerals_by_fold _ (search (rules, tests)) decimal_on (search rules)

pub digits_all : (n : ℕ) → n < 2 ^ 64 → list_all is_digit (decimal n) ≡ true
digits_all n h = digits_decimal own n h

pub value_is : (n : ℕ) → n < 2 ^ 64 → decimal_on 0 (decimal n) ≡ n
value_is n h = digits_value-decimal own n h

three : (a b c : Bool) → a ≡ true → b ≡ true → c ≡ true → (a && b && c) ≡ true
three true true true h k l = refl
three _ _ _ h k l = cc

either : (a b : Bool) → a ≡ true → (a || b) ≡ true
either true b h = refl
either false b h = absurd (cc)

small : (n : ℕ) → n < 10 → is_decimal ((48 + n) ∷ []) ≡ true
small n h = grind (arith, nat_tests)

large : (ds : List ℕ) → 0 < length ds → list_all is_digit ds ≡ true → 48 < get_or ds 0 0 → is_decimal ds ≡ true
large ds h all first =
    let some : nat_le 1 (length ds) ≡ true = grind (arith, nat_tests) in
    let above : nat_le 49 (get_or ds 0 0) ≡ true = grind (arith, nat_tests) in
    three (nat_le 1 (length ds)) (list_all is_digit ds) (nat_le 49 (get_or ds 0 0) || nat_le (length ds) 1) some all (either (nat_le 49 (get_or ds 0 0)) (nat_le (length ds) 1) above)

decimal_by : (n : ℕ) (zero : Bool) → nat_lt 0 n ≡ zero → n < 2 ^ 64 → is_decimal (decimal n) ≡ true
decimal_by n true e h = large (decimal n) (decimal_nonempty n h) (digits_all n h) (first_decimal n (grind (arith, nat_tests)) h)
decimal_by n false e h =
    let none : n < 10 = grind (arith, nat_tests) in
    ap is_decimal (decimal_digit n none) ∙ small n none

-- what is printed is decimal
pub decimal_is : (n : ℕ) → n < 2 ^ 64 → is_decimal (decimal n) ≡ true
decimal_is n h = decimal_by n (nat_lt 0 n) refl h

-- of three choices the last
third : {A : Type 0} (a b c : Bool) (x y z w : A) → a ≡ false → b ≡ false → c ≡ true → cond a x (cond b y (cond c z w)) ≡ z
third a b c x y z w h k l = rw (h, k, l) refl

not_both : (a b : Bool) → b ≡ false → (a && b) ≡ false
not_both true b h = h
not_both false b h = refl

digit_ends : (d : ℕ) (ds : List ℕ) → list_all is_digit (d ∷ ds) ≡ true → (48 ≤ d) × (d ≤ 57) × (list_all is_digit ds ≡ true)
digit_ends d ds h = (grind (arith, nat_tests), grind (arith, nat_tests), grind (arith, nat_tests))

-- digits are the number that they stand for
pub number_plain : (ds : List ℕ) → is_decimal ds ≡ true → list_all is_digit ds ≡ true → number_in ds ≡ Some (number_of false (decimal_on 0 ds))
number_plain [] h all = absurd (cc)
number_plain (d ∷ []) h all =
    let e = digit_ends d [] all in
    let a : nat_eq d 45 ≡ false = grind (arith, nat_tests) in
    third (nat_eq d 45) (nat_eq d 48 && false) (is_decimal (d ∷ [])) _ _ _ None a (not_both (nat_eq d 48) false refl) h
number_plain (d ∷ b ∷ ds) h all =
    let e = digit_ends d (b ∷ ds) all in
    let f = digit_ends b ds e.2 in
    let a : nat_eq d 45 ≡ false = grind (arith, nat_tests) in
    let c : nat_eq b 120 ≡ false = grind (arith, nat_tests) in
    third (nat_eq d 45) (nat_eq d 48 && nat_eq b 120) (is_decimal (d ∷ b ∷ ds)) _ _ _ None a (not_both (nat_eq d 48) (nat_eq b 120) c) h

pub number_printed : (n : ℕ) → n < 2 ^ 64 → number_in (decimal n) ≡ Some (number_of false n)
number_printed n h = number_plain (decimal n) (decimal_is n h) (digits_all n h) ∙ ap (λ m. Some (number_of false m)) (value_is n h)

-- behind a `-` they are its opposite
pub number_negative : (n : ℕ) → n < 2 ^ 64 → number_in (45 ∷ decimal n) ≡ Some (number_of true n)
number_negative n h =
    ap (λ b. cond b (Some (number_of true (decimal_on 0 (decimal n)))) None) (decimal_is n h) ∙ ap (λ m. Some (number_of true m)) (value_is n h)

-- a hexadecimal digit is read as its value
digit_back : (d : ℕ) → d < 16 → hex_digit_value (hex_digit d) ≡ d
digit_back d h = grind (arith, nat_tests)

digit_is : (d : ℕ) → d < 16 → is_hex_digit (hex_digit d) ≡ true
digit_is d h = grind (arith, nat_tests)

eight : (a b c d e f g h : Bool) → a ≡ true → b ≡ true → c ≡ true → d ≡ true → e ≡ true → f ≡ true → g ≡ true → h ≡ true
    → (a && (b && (c && (d && (e && (f && (g && (h && true)))))))) ≡ true
eight a b c d e f g h i j k l m n o p = rw (i, j, k, l, m, n, o, p) refl

hex_all : (t : ℕ) → list_all is_hex_digit (hex8 t) ≡ true
hex_all t =
    eight _ _ _ _ _ _ _ _
    (digit_is (t / 268435456 % 16) (omega arith)) (digit_is (t / 16777216 % 16) (omega arith)) (digit_is (t / 1048576 % 16) (omega arith)) (digit_is (t / 65536 % 16) (omega arith))
    (digit_is (t / 4096 % 16) (omega arith)) (digit_is (t / 256 % 16) (omega arith)) (digit_is (t / 16 % 16) (omega arith)) (digit_is (t % 16) (omega arith))

byte_token : (d : ℕ) → d < 16 → (nat_le 36 (hex_digit d) && nat_le (hex_digit d) 126 && not (nat_eq (hex_digit d) 44) && not (nat_eq (hex_digit d) 58)) ≡ true
byte_token d h = grind (arith, nat_tests)

-- a printed target is a token
pub hex_token : (t : ℕ) → list_all (λ b. nat_le 36 b && nat_le b 126 && not (nat_eq b 44) && not (nat_eq b 58)) (target_text t) ≡ true
hex_token t =
    eight _ _ _ _ _ _ _ _
    (byte_token (t / 268435456 % 16) (omega arith)) (byte_token (t / 16777216 % 16) (omega arith)) (byte_token (t / 1048576 % 16) (omega arith)) (byte_token (t / 65536 % 16) (omega arith))
    (byte_token (t / 4096 % 16) (omega arith)) (byte_token (t / 256 % 16) (omega arith)) (byte_token (t / 16 % 16) (omega arith)) (byte_token (t % 16) (omega arith))

up : (t a b : ℕ) → a ≡ t / b / 16 → 16 * a + t / b % 16 ≡ t / b
up t a b h = omega (arith, h)

horner : (t : ℕ) → t < 2 ^ 32
    → 16 * (16 * (16 * (16 * (16 * (16 * (16 * (16 * 0 + t / 268435456 % 16) + t / 16777216 % 16) + t / 1048576 % 16) + t / 65536 % 16) + t / 4096 % 16) + t / 256 % 16) + t / 16 % 16) + t % 16 ≡ t
horner t h =
    let a : 16 * 0 + t / 268435456 % 16 ≡ t / 268435456 = omega arith in
    let b : 16 * (t / 268435456) + t / 16777216 % 16 ≡ t / 16777216 = omega arith in
    let c : 16 * (t / 16777216) + t / 1048576 % 16 ≡ t / 1048576 = omega arith in
    let d : 16 * (t / 1048576) + t / 65536 % 16 ≡ t / 65536 = omega arith in
    let e : 16 * (t / 65536) + t / 4096 % 16 ≡ t / 4096 = omega arith in
    let f : 16 * (t / 4096) + t / 256 % 16 ≡ t / 256 = omega arith in
    let g : 16 * (t / 256) + t / 16 % 16 ≡ t / 16 = omega arith in
    rw (a, b, c, d, e, f, g) (omega arith)

hex_value : (t : ℕ) → t < 2 ^ 32 → hex_on 0 (hex8 t) ≡ t
hex_value t h =
    rw (digit_back (t / 268435456 % 16) (omega arith), digit_back (t / 16777216 % 16) (omega arith), digit_back (t / 1048576 % 16) (omega arith), digit_back (t / 65536 % 16) (omega arith), digit_back (t / 4096 % 16) (omega arith), digit_back (t / 256 % 16) (omega arith), digit_back (t / 16 % 16) (omega arith), digit_back (t % 16) (omega arith))
    (horner t h)

-- a printed target is the number that it stands for
pub number_hex : (t : ℕ) → t < 2 ^ 32 → number_in (target_text t) ≡ Some (number_of false t)
number_hex t h =
    ap (λ b. cond b (Some (number_of false (hex_on 0 (hex8 t)))) None) (hex_all t) ∙ ap (λ m. Some (number_of false m)) (hex_value t h)

abbrev pub plain : ℕ → Number
plain n = record { negative = false; magnitude = n }

pub number_small : (sign : Bool) (n : ℕ) → n < 2 ^ 64 → number_of sign n ≡ record { negative = sign; magnitude = n }
number_small sign n h = let e : min n (2 ^ 64 - 1) ≡ n = omega arith in ap (λ m. record { negative = sign; magnitude = m }) e

-- a printed number within its limits
pub limited_printed : (low high n : ℕ) → n ≤ high → n < 2 ^ 64 → limited_in low high (decimal n) ≡ Ok (plain n)
limited_printed low high n within h =
    let fits : nat_le n high ≡ true = grind (arith, nat_tests) in
    ap (limited low high) (number_printed n h ∙ ap (λ (m : Number). Some m) (number_small false n h)) ∙ ap (λ b. cond b (Ok (plain n)) (Err why.Range)) fits

-- a printed register
pub register_printed : (last r : ℕ) → r ≤ last → last ≤ 31 → register_in last (register_text r) ≡ Ok r
register_printed last r h small =
    let big : r < 2 ^ 64 = omega arith in
    let fits : nat_le r last ≡ true = grind (arith, nat_tests) in
    rw (decimal_is r big, value_is r big, fits) refl
