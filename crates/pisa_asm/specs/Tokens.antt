-- The tokens of a source: labels, numbers and registers.
use Rattle.std.specs.Prelude.{◌+◌, ◌-◌, ◌*◌, ◌%◌, ◌^◌, ◌&&◌, ◌||◌, ℕ, List, [], ◌∷◌, Bool, true, false, length, drop, min, slice_index, nat_eq, nat_le, if◌then◌else◌, Option, Some, None, Result, Ok, Err}
use Rattle.std.specs.List.{list_all}
use Rattle.ss_base.specs.declared.text_fault.TextWhy.{TextWhy}
use Rattle.ss_base.specs.declared.text_fault.TextWhy.TheVariants as why
use Rattle.pisa_asm.specs.declared.tokens.Number.{Number}

abbrev pub is_digit : ℕ → Bool
is_digit b = nat_le 48 b && nat_le b 57

abbrev pub is_letter : ℕ → Bool
is_letter b = (nat_le 65 b && nat_le b 90) || (nat_le 97 b && nat_le b 122) || nat_eq b 95

abbrev pub is_name_byte : ℕ → Bool
is_name_byte b = is_letter b || is_digit b

-- a label has 1 to 32 bytes, all of them letters, digits and `_`, and doesn't begin with a digit
abbrev pub is_label : List ℕ → Bool
is_label token = is_letter (slice_index token 0) && nat_le (length token) 32 && list_all is_name_byte token

-- the number that digits stand for, behind a number that stands before them
abbrev pub decimal_on : ℕ → List ℕ → ℕ
decimal_on n [] = n
decimal_on n (b ∷ bs) = decimal_on (10 * n + (b - 48)) bs

-- decimal digits without a leading zero: 0 alone may begin with it
abbrev pub is_decimal : List ℕ → Bool
is_decimal token = nat_le 1 (length token) && list_all is_digit token && (nat_le 49 (slice_index token 0) || nat_le (length token) 1)

-- a hexadecimal digit, of either case, and its value
abbrev pub is_hex_digit : ℕ → Bool
is_hex_digit b = is_digit b || (nat_le 65 b && nat_le b 70) || (nat_le 97 b && nat_le b 102)

abbrev pub hex_digit_value : ℕ → ℕ
hex_digit_value b = if nat_le b 57 then b - 48 else (if nat_le b 70 then b - 55 else b - 87)

abbrev pub hex_on : ℕ → List ℕ → ℕ
hex_on n [] = n
hex_on n (b ∷ bs) = hex_on (16 * n + hex_digit_value b) bs

-- one to eight hexadecimal digits
abbrev pub is_hex : List ℕ → Bool
is_hex digits = nat_le 1 (length digits) && nat_le (length digits) 8 && list_all is_hex_digit digits

-- a number: its sign and its magnitude; one of 2^64 or more is cut to 2^64 - 1, which is outside all
-- limits just as well
abbrev pub number_of : Bool → ℕ → Number
number_of sign size = record { negative = sign; magnitude = min size (2 ^ 64 - 1) }

abbrev pub decimal_in : Bool → List ℕ → Option Number
decimal_in sign digits = if is_decimal digits then Some (number_of sign (decimal_on 0 digits)) else None

abbrev pub hex_in : List ℕ → Option Number
hex_in digits = if is_hex digits then Some (number_of false (hex_on 0 digits)) else None

-- a number is decimal with an optional `-`, or `0x` and hexadecimal digits
abbrev pub number_in : List ℕ → Option Number
number_in token =
    if nat_eq (slice_index token 0) 45 then decimal_in true (drop 1 token) else
    (if nat_eq (slice_index token 0) 48 && nat_eq (slice_index token 1) 120 then hex_in (drop 2 token) else
    decimal_in false token)

-- a number that is at least -low and at most high
abbrev pub is_within : ℕ → ℕ → Number → Bool
is_within low high n = if n.negative then nat_le n.magnitude low else nat_le n.magnitude high

abbrev pub limited : ℕ → ℕ → Option Number → Result Number TextWhy
limited low high None = Err why.Number
limited low high (Some n) = if is_within low high n then Ok n else Err why.Range

-- a number from -low to high
abbrev pub limited_in : ℕ → ℕ → List ℕ → Result Number TextWhy
limited_in low high token = limited low high (number_in token)

-- a number modulo `modulus`
abbrev pub residue : ℕ → Number → ℕ
residue modulus n = if n.negative then (modulus - n.magnitude) % modulus else n.magnitude

-- a register is `$` and its number, up to the last one that may stand there
abbrev pub register_in : ℕ → List ℕ → Result ℕ TextWhy
register_in last token =
    if nat_eq (slice_index token 0) 36 && is_decimal (drop 1 token)
    then (if nat_le (decimal_on 0 (drop 1 token)) last then Ok (decimal_on 0 (drop 1 token)) else Err why.Range)
    else Err why.Form
