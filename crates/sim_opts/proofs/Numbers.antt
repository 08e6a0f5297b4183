-- Numbers: what the test of a word says, and that words and numbers stand for each other.
use Rattle.std.proofs.Common.{◌≡◌, ◌^◌, ◌<◌, ◌≤◌, ℕ, zero, suc, true, List, length, get_or, Result, Ok, Some, ◌↔◌, sym, ◌∙◌, ap, decimal, rules, arith}
use Rattle.std.specs.Char.{is_ascii_digit}
use Rattle.std.specs.List.{list_all}
use Rattle.std.specs.Str.Parse.{digits_value, ParsesUnsigned}
use Rattle.std.proofs.lemmas.Str.Parse.{IsDigitsTest, IsNumeralModel, numerals_by_value, parse_gives, digits_value_short}
use Rattle.std.proofs.lemmas.Fmt.{decimal-digits_value, digits_value-decimal, decimal_nonempty, first_decimal, digits_decimal, decimal_digit, length-decimal-le}
use Rattle.sim_opts.specs.Word.{is_number, digits_of}

-- what the test of a number says
pub record IsNumber (text : List ℕ) : Type 0 where
  pub some : 0 < length text
  pub few : length text ≤ 13
  pub digits : list_all is_ascii_digit text ≡ true
  pub leading : get_or text 0 0 ≡ 48 → length text ≡ 1

pub number_parts : (text : List ℕ) → is_number text ≡ true → IsNumber text
number_parts text h = grind arith

tells : IsDigitsTest (λ ds. list_all is_ascii_digit ds ≡ true)
tells = search rules

pub own : IsNumeralModel (λ ds. list_all is_ascii_digit ds ≡ true) (digits_value 10)
own = numerals_by_value _ tells

pub parse_number : {E : Type 0} (bs : List ℕ) (r : Result ℕ E) → ParsesUnsigned 64 10 bs r → is_number bs ≡ true → r ≡ Ok (digits_value 10 bs)
parse_number bs r h p =
    let n = number_parts bs p in
    parse_gives own 64 bs r h n.digits n.some (omega (arith, digits_value_short own bs 13 n.digits n.few))

-- a number stands for its digits, and only for them
number_decimal : (text : List ℕ) (n : ℕ) → IsNumber text → digits_value 10 text ≡ n → text ≡ decimal n
number_decimal text n k e =
    sym (decimal-digits_value own text k.digits k.some k.leading (omega (arith, digits_value_short own text 13 k.digits k.few))) ∙ ap decimal e

decimal_leading : (n : ℕ) → n < 10 ^ 13 → get_or (decimal n) 0 0 ≡ 48 → length (decimal n) ≡ 1
decimal_leading zero h z = ap length (decimal_digit 0 (omega arith))
decimal_leading (suc n) h z = absurd (omega (arith, z, first_decimal (suc n) (omega arith) (omega arith)))

decimal_number : (n : ℕ) → n < 10 ^ 13 → IsNumber (decimal n)
decimal_number n h = record {
  some = decimal_nonempty n (omega arith);
  few = length-decimal-le 13 n (omega arith) (omega arith) (omega arith);
  digits = digits_decimal own n (omega arith);
  leading = λ z. decimal_leading n h z;
}

is_number-parts : (text : List ℕ) → IsNumber text → is_number text ≡ true
is_number-parts text k = grind (arith, k.some, k.few, k.digits, k.leading)

value_told : (text : List ℕ) (n : ℕ) → digits_of text ≡ Some n → (is_number text ≡ true) × (digits_value 10 text ≡ n)
value_told text n h = grind arith

-- 13 digits write less than 10^13
number_below : (text : List ℕ) (n : ℕ) → IsNumber text → digits_value 10 text ≡ n → n < 10 ^ 13
number_below text n k e = omega (arith, e, digits_value_short own text 13 k.digits k.few)

pub digits_of-some : (text : List ℕ) (n : ℕ) → digits_of text ≡ Some n → (text ≡ decimal n) × (n < 10 ^ 13)
digits_of-some text n h =
    let told = value_told text n h in
    let parts = number_parts text told.0 in
    (number_decimal text n parts told.1, number_below text n parts told.1)

number_from : (text : List ℕ) (n : ℕ) → is_number text ≡ true → digits_value 10 text ≡ n → digits_of text ≡ Some n
number_from text n k e = grind arith

pub digits_of-decimal : (n : ℕ) → n < 10 ^ 13 → digits_of (decimal n) ≡ Some n
digits_of-decimal n h = number_from (decimal n) n (is_number-parts (decimal n) (decimal_number n h)) (digits_value-decimal own n (omega arith))

pub number_iff_decimal : (word : List ℕ) (n : ℕ) → (digits_of word ≡ Some n) ↔ ((word ≡ decimal n) × (n < 10 ^ 13))
number_iff_decimal word n = (digits_of-some word n, λ h. ap digits_of h.0 ∙ digits_of-decimal n h.1)
