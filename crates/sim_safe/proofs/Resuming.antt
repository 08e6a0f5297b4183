-- Registers that are handed in.
use Rattle.std.proofs.Common.{◌≡◌, ℕ, zero, suc, List, [], ◌∷◌, length, take, drop, refl, sym, ap, ◌∙◌, arith}
use Rattle.std.specs.Prelude.{slice_index}
use Rattle.std.proofs.Math.Path.{fun_ext}
use Rattle.std.proofs.lemmas.List.{take_all}

each_reg : (regs : List ℕ) → slice_index regs 0 ≡ 0 → (r : ℕ) → slice_index (0 ∷ drop 1 regs) r ≡ slice_index regs r
each_reg regs zero_first zero = sym zero_first
each_reg [] zero_first (suc r) = refl
each_reg (x ∷ xs) zero_first (suc r) = refl

all_behind : (regs : List ℕ) → length regs ≡ 32 → take 31 (drop 1 regs) ≡ drop 1 regs
all_behind [] h = refl
all_behind (x ∷ xs) h = take_all 31 xs (omega (arith, h))

-- register 0 and the 31 behind it are all registers
pub behind_zero : (regs kept : List ℕ) → length regs ≡ 32 → slice_index regs 0 ≡ 0 → kept ≡ take 31 (drop 1 regs) → slice_index (0 ∷ kept) ≡ slice_index regs
behind_zero regs kept count zero_first is = ap (λ rs. slice_index (0 ∷ rs)) (is ∙ all_behind regs count) ∙ fun_ext (each_reg regs zero_first)
