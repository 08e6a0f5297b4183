-- What the functions of two words give, which operands they take, and when a branch is taken.
use Rattle.std.specs.Prelude.{ℕ, ◌*◌, ◌/◌, ◌%◌, ◌^◌, Bool, not, ◌==◌, ℤ, pos, ◌+ℤ◌, ◌-ℤ◌, ◌*ℤ◌, nat_lt, int_lt, int_le, int_rem, bit_and, bit_or, bit_xor, if◌then◌else◌}
use Rattle.std.specs.Int.{cast_unsigned, w32, w64, bit_not, int_shr, int_wrapping_div}
use Rattle.pisa_isa.specs.declared.instr.Instr.{Instr}
use Rattle.pisa_step.specs.declared.action.Alu.{Alu}
use Rattle.pisa_step.specs.declared.action.Alu.TheVariants as alu
use Rattle.pisa_step.specs.declared.action.Exact.{Exact}
use Rattle.pisa_step.specs.declared.action.Exact.TheVariants as exact
use Rattle.pisa_step.specs.declared.action.Sign.{Sign}
use Rattle.pisa_step.specs.declared.action.Sign.TheVariants as sign
use Rattle.pisa_step.specs.declared.action.Form.{Form}
use Rattle.pisa_step.specs.declared.action.Form.TheVariants as form
use Rattle.pisa_step.specs.declared.action.Condition.{Condition}
use Rattle.pisa_step.specs.declared.action.Condition.TheVariants as condition
use Rattle.pisa_step.specs.Reader.{Reader}
use Rattle.pisa_step.specs.Words.{word_sum, word_difference, word_product, signed, word_of, half_extended}

-- 1 for yes and 0 for no
abbrev pub one_if : Bool → ℕ
one_if test = if test then 1 else 0

abbrev pub alu_of : Alu → ℕ → ℕ → ℕ
alu_of alu.Add a b = word_sum a b
alu_of alu.Subtract a b = word_difference a b
alu_of alu.And a b = bit_and a b
alu_of alu.Or a b = bit_or a b
alu_of alu.Xor a b = bit_xor a b
alu_of alu.Nor a b = bit_not w32 (bit_or a b)
alu_of alu.ShiftLeft a b = word_product a (2 ^ (b % 32))
alu_of alu.ShiftRight a b = a / 2 ^ (b % 32)
alu_of alu.ShiftRightSigned a b = word_of (int_shr (signed a) (b % 32))
alu_of alu.Less a b = one_if (int_lt (signed a) (signed b))
alu_of alu.LessUnsigned a b = one_if (nat_lt a b)
alu_of alu.Upper a b = word_product b 65536

-- the signed sum or difference, which may leave the range of a word
abbrev pub exact_of : Exact → ℕ → ℕ → ℤ
exact_of exact.Add a b = signed a +ℤ signed b
exact_of exact.Subtract a b = signed a -ℤ signed b

-- the 64 bits of a product
abbrev pub product_of : Sign → ℕ → ℕ → ℕ
product_of sign.Signed a b = cast_unsigned w64 (signed a *ℤ signed b)
product_of sign.Unsigned a b = a * b

-- a quotient, toward zero; that of -2^31 by -1, which is no word, wraps to -2^31
abbrev pub quotient_of : Sign → ℕ → ℕ → ℕ
quotient_of sign.Signed a b = word_of (int_wrapping_div w32 (signed a) (signed b))
quotient_of sign.Unsigned a b = a / b

-- what a quotient leaves, with the dividend's sign
abbrev pub remainder_of : Sign → ℕ → ℕ → ℕ
remainder_of sign.Signed a b = word_of (int_rem (signed a) (signed b))
remainder_of sign.Unsigned a b = a % b

-- the first operand, the second, and the register that gets the value
abbrev pub first_of : Form → Reader → Instr → ℕ
first_of form.Registers s i = s.regs i.rs
first_of form.Signed s i = s.regs i.rs
first_of form.Unsigned s i = s.regs i.rs
first_of form.Shift s i = s.regs i.rt
first_of form.ShiftRegister s i = s.regs i.rt

abbrev pub second_of : Form → Reader → Instr → ℕ
second_of form.Registers s i = s.regs i.rt
second_of form.Signed s i = half_extended i.imm
second_of form.Unsigned s i = i.imm
second_of form.Shift s i = i.shamt
second_of form.ShiftRegister s i = s.regs i.rs

abbrev pub target_of : Form → Instr → ℕ
target_of form.Registers i = i.rd
target_of form.Signed i = i.rt
target_of form.Unsigned i = i.rt
target_of form.Shift i = i.rd
target_of form.ShiftRegister i = i.rd

-- a branch is taken, where a is R[rs] and b is R[rt]
abbrev pub is_taken : Condition → ℕ → ℕ → Bool
is_taken condition.Equal a b = a == b
is_taken condition.NotEqual a b = not (a == b)
is_taken condition.AtMostZero a b = int_le (signed a) (pos 0)
is_taken condition.AboveZero a b = int_lt (pos 0) (signed a)
is_taken condition.BelowZero a b = int_lt (signed a) (pos 0)
is_taken condition.AtLeastZero a b = int_le (pos 0) (signed a)
