-- What the functions of words give are words, where they are given words and bytes.
use Rattle.std.proofs.Common.{◌≡◌, ℕ, zero, suc, ◌+◌, ◌-◌, ◌*◌, ◌/◌, ◌%◌, ◌^◌, ◌<◌, ◌≤◌, Bool, true, false, refl, arith, of_z}
use Rattle.std.specs.Prelude.{ℤ, pos, negsuc, nat_lt, int_div, int_rem, bit_and, unsigned_abs, ◌*ℤ◌}
use Rattle.std.specs.Int.{w32, w64, int_shr}
use Rattle.std.proofs.lemmas.Bool.{ltb-true, ltb-false}
use Rattle.std.proofs.lemmas.Int.{unsigned_abs-mul}
use Rattle.std.proofs.lemmas.Nat.{or_of_32, xor_of_32, and_le_l, mul-le}
use lib.Signed.{mag, mag_rem, mag_shr, nat_abs-le}
use mir.Val.{sel}
use native.Mathlib.Nat.{div-le_self, mod-le}
use Rattle.pisa_step.specs.declared.action.Alu.{Alu}
use Rattle.pisa_step.specs.declared.action.Alu.TheVariants as alu
use Rattle.pisa_step.specs.declared.action.Sign.{Sign}
use Rattle.pisa_step.specs.declared.action.Sign.TheVariants as sign
use Rattle.pisa_step.specs.declared.action.Loaded.{Loaded}
use Rattle.pisa_step.specs.declared.action.Loaded.TheVariants as loaded
use Rattle.pisa_step.specs.declared.action.Side.{Side}
use Rattle.pisa_step.specs.declared.action.Side.TheVariants as side
use Rattle.pisa_step.specs.Reader.{Reader}
use Rattle.pisa_step.specs.Words.{signed, word_of, byte_extended, half_extended, is_in_word}
use Rattle.pisa_step.specs.Arithmetic.{one_if, alu_of, product_of, quotient_of, remainder_of}
use Rattle.pisa_step.specs.Memory.{half_in, word_in, half_at, word_at, loaded_of, over_low, over_high, part_loaded, part_loaded_at}

-- ---- signed values

signed_if : (n : ℕ) (low : Bool) → nat_lt n (2 ^ 31) ≡ low → mag (sel low (pos n) (negsuc (2 ^ 32 - suc n))) < 2 ^ 31
signed_if n true is = ltb-true n (2 ^ 31) is
signed_if n false is = let high : 2 ^ 31 ≤ n = ltb-false n (2 ^ 31) is in omega (arith, high)

mag_signed : (n : ℕ) → mag (signed n) < 2 ^ 31
mag_signed n = signed_if n (nat_lt n (2 ^ 31)) refl

pub word_of_below : (z : ℤ) → mag z < 2 ^ 32 → word_of z < 2 ^ 32
word_of_below (pos n) h = h
word_of_below (negsuc n) h = omega arith

pub word_in_range : (z : ℤ) → is_in_word z ≡ true → word_of z < 2 ^ 32
word_in_range (pos n) is = let h : n < 2 ^ 31 = ltb-true n (2 ^ 31) is in omega (arith, h)
word_in_range (negsuc n) is = omega arith

byte_if : (n : ℕ) (low : Bool) → nat_lt n (2 ^ 7) ≡ low → of_z w32 (sel low (pos n) (negsuc (2 ^ 8 - suc n))) < 2 ^ 32
byte_if n true is = let h : n < 2 ^ 7 = ltb-true n (2 ^ 7) is in omega (arith, h)
byte_if n false is = omega arith

byte_extended_below : (n : ℕ) → byte_extended n < 2 ^ 32
byte_extended_below n = byte_if n (nat_lt n (2 ^ 7)) refl

half_if : (n : ℕ) (low : Bool) → nat_lt n (2 ^ 15) ≡ low → of_z w32 (sel low (pos n) (negsuc (2 ^ 16 - suc n))) < 2 ^ 32
half_if n true is = let h : n < 2 ^ 15 = ltb-true n (2 ^ 15) is in omega (arith, h)
half_if n false is = omega arith

pub half_extended_below : (n : ℕ) → half_extended n < 2 ^ 32
half_extended_below n = half_if n (nat_lt n (2 ^ 15)) refl

word_if : (n : ℕ) (low : Bool) → nat_lt n (2 ^ 31) ≡ low → of_z w32 (sel low (pos n) (negsuc (2 ^ 32 - suc n))) < 2 ^ 32
word_if n true is = let h : n < 2 ^ 31 = ltb-true n (2 ^ 31) is in omega (arith, h)
word_if n false is = omega arith

wrapped_below : (n : ℕ) → word_of (signed n) < 2 ^ 32
wrapped_below n = word_if n (nat_lt n (2 ^ 31)) refl

double_below : (z : ℤ) → unsigned_abs z < 2 ^ 64 → of_z w64 z < 2 ^ 64
double_below (pos n) h = h
double_below (negsuc n) h = omega arith

-- ---- arithmetic

one_below : (test : Bool) → one_if test < 2 ^ 32
one_below true = omega arith
one_below false = omega arith

shifted_below : (a n : ℕ) → word_of (int_shr (signed a) n) < 2 ^ 32
shifted_below a n = word_of_below (int_shr (signed a) n) (omega (arith, mag_shr (signed a) (2 ^ n), mag_signed a))

pub alu_below : (f : Alu) (a b : ℕ) → a < 2 ^ 32 → b < 2 ^ 32 → alu_of f a b < 2 ^ 32
alu_below alu.Add a b h g = omega arith
alu_below alu.Subtract a b h g = omega arith
alu_below alu.And a b h g = let le : bit_and a b ≤ a = and_le_l a b in omega (arith, le, h)
alu_below alu.Or a b h g = or_of_32 a b h g
alu_below alu.Xor a b h g = xor_of_32 a b h g
alu_below alu.Nor a b h g = omega arith
alu_below alu.ShiftLeft a b h g = omega arith
alu_below alu.ShiftRight a b h g = let le : a / 2 ^ (b % 32) ≤ a = div-le_self a (2 ^ (b % 32)) in omega (arith, le, h)
alu_below alu.ShiftRightSigned a b h g = shifted_below a (b % 32)
alu_below alu.Less a b h g = one_below _
alu_below alu.LessUnsigned a b h g = one_below _
alu_below alu.Upper a b h g = omega arith

signed_product : (a b : ℕ) → product_of sign.Signed a b < 2 ^ 64
signed_product a b =
    let x : unsigned_abs (signed a) ≤ 2 ^ 31 = nat_abs-le (signed a) (mag_signed a) in
    let y : unsigned_abs (signed b) ≤ 2 ^ 31 = nat_abs-le (signed b) (mag_signed b) in
    let both : unsigned_abs (signed a) * unsigned_abs (signed b) ≤ 2 ^ 31 * 2 ^ 31 = mul-le (unsigned_abs (signed a)) (unsigned_abs (signed b)) (2 ^ 31) (2 ^ 31) x y in
    double_below (signed a *ℤ signed b) (omega (arith, unsigned_abs-mul (signed a) (signed b), both))

pub product_below : (sort : Sign) (a b : ℕ) → a < 2 ^ 32 → b < 2 ^ 32 → product_of sort a b < 2 ^ 64
product_below sign.Signed a b h g = signed_product a b
product_below sign.Unsigned a b h g =
    let both : a * b ≤ (2 ^ 32 - 1) * (2 ^ 32 - 1) = mul-le a b (2 ^ 32 - 1) (2 ^ 32 - 1) (omega arith) (omega arith) in
    omega (arith, both)

pub quotient_below : (sort : Sign) (a b : ℕ) → a < 2 ^ 32 → quotient_of sort a b < 2 ^ 32
quotient_below sign.Signed a b h = wrapped_below (word_of (int_div (signed a) (signed b)))
quotient_below sign.Unsigned a b h = let le : a / b ≤ a = div-le_self a b in omega (arith, le, h)

pub remainder_below : (sort : Sign) (a b : ℕ) → a < 2 ^ 32 → remainder_of sort a b < 2 ^ 32
remainder_below sign.Signed a b h = word_of_below (int_rem (signed a) (signed b)) (omega (arith, mag_rem (signed a) (signed b), mag_signed a))
remainder_below sign.Unsigned a b h = let le : a % b ≤ a = mod-le a b in omega (arith, le, h)

-- ---- loads

half_in_below : (big : Bool) (x y : ℕ) → x < 2 ^ 8 → y < 2 ^ 8 → half_in big x y < 2 ^ 16
half_in_below false x y h g = omega arith
half_in_below true x y h g = omega arith

word_in_below : (big : Bool) (x y z w : ℕ) → x < 2 ^ 8 → y < 2 ^ 8 → z < 2 ^ 8 → w < 2 ^ 8 → word_in big x y z w < 2 ^ 32
word_in_below false x y z w a b c d = omega arith
word_in_below true x y z w a b c d = omega arith

pub word_below : (s : Reader) (a : ℕ) → ((k : ℕ) → s.bytes k < 2 ^ 8) → word_at s a < 2 ^ 32
word_below s a small = word_in_below s.big (s.bytes a) (s.bytes (a + 1)) (s.bytes (a + 2)) (s.bytes (a + 3)) (small a) (small (a + 1)) (small (a + 2)) (small (a + 3))

half_below : (s : Reader) (a : ℕ) → ((k : ℕ) → s.bytes k < 2 ^ 8) → half_at s a < 2 ^ 32
half_below s a small = let h : half_at s a < 2 ^ 16 = half_in_below s.big (s.bytes a) (s.bytes (a + 1)) (small a) (small (a + 1)) in omega (arith, h)

pub loaded_below : (sort : Loaded) (s : Reader) (a : ℕ) → ((k : ℕ) → s.bytes k < 2 ^ 8) → loaded_of sort s a < 2 ^ 32
loaded_below loaded.Byte s a small = byte_extended_below (s.bytes a)
loaded_below loaded.ByteUnsigned s a small = let h : s.bytes a < 2 ^ 8 = small a in omega (arith, h)
loaded_below loaded.Half s a small = half_extended_below (half_at s a)
loaded_below loaded.HalfUnsigned s a small = half_below s a small
loaded_below loaded.Word s a small = word_below s a small

low_below : (count word old : ℕ) → count < 4 → old < 2 ^ 32 → over_low count word old < 2 ^ 32
low_below zero word old h g = omega arith
low_below (suc zero) word old h g = omega arith
low_below (suc (suc zero)) word old h g = omega arith
low_below (suc (suc (suc zero))) word old h g = omega arith
low_below (suc (suc (suc (suc n)))) word old h g = absurd (omega (arith, h))

high_below : (count word old : ℕ) → count < 4 → word < 2 ^ 32 → old < 2 ^ 32 → over_high count word old < 2 ^ 32
high_below zero word old h f g = omega arith
high_below (suc zero) word old h f g = omega arith
high_below (suc (suc zero)) word old h f g = omega arith
high_below (suc (suc (suc zero))) word old h f g = omega arith
high_below (suc (suc (suc (suc n)))) word old h f g = absurd (omega (arith, h))

part_below : (end : Side) (big : Bool) (place word old : ℕ) → place < 4 → word < 2 ^ 32 → old < 2 ^ 32 → part_loaded end big place word old < 2 ^ 32
part_below side.Left false place word old h f g = low_below (3 - place) word old (omega arith) g
part_below side.Right false place word old h f g = high_below place word old h f g
part_below side.Left true place word old h f g = low_below place word old h g
part_below side.Right true place word old h f g = high_below (3 - place) word old (omega arith) f g

pub part_loaded_below : (end : Side) (s : Reader) (a old : ℕ) → ((k : ℕ) → s.bytes k < 2 ^ 8) → old < 2 ^ 32 → part_loaded_at end s a old < 2 ^ 32
part_loaded_below end s a old small below = part_below end s.big (a % 4) (word_at s (a - a % 4)) old (omega arith) (word_below s (a - a % 4) small) below
