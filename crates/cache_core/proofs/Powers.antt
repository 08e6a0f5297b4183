-- Powers of two: division by a shift, and what is left by a mask.
use Rattle.std.proofs.Common.{◌≡◌, ℕ, zero, suc, ◌+◌, ◌-◌, ◌*◌, ◌%◌, ◌^◌, ◌<◌, ◌≤◌, false, refl, sym, ◌∙◌, ap, arith}
use Rattle.std.specs.Prelude.{IsTrue, bit_and}
use Rattle.std.specs.Int.{is_power_of_two}
use Rattle.std.specs.Int.Count.{ones}
use Rattle.std.proofs.lemmas.Bool.{eqb-true}
use Rattle.std.proofs.lemmas.Nat.{ones_cat, zero_from_ones, leading_top, and_mask}
use Rattle.std.proofs.Math.Nat.{pow-succ'}

ones-one : ones 1 ≡ 1
unfolding ones
ones-one = refl

-- a number between two neighbouring powers of two is one exactly where it is the lower of them
pub power_is : (n k : ℕ) → IsTrue (is_power_of_two n) → 2 ^ k ≤ n → n < 2 * 2 ^ k → n ≡ 2 ^ k
power_is n k power low high =
    let rest = n - 2 ^ k in
    let split : n ≡ 1 * 2 ^ k + rest = omega arith in
    let one : ones n ≡ 1 = eqb-true (ones n) 1 power in
    let parts : ones n ≡ ones 1 + ones rest = ap ones split ∙ ones_cat k 1 rest (omega arith) in
    let none : rest ≡ 0 = zero_from_ones rest (omega (arith, ones-one)) in
    omega arith

pub positive : (n : ℕ) → IsTrue (is_power_of_two n) → 0 < n
unfolding ones
positive zero h = let e : is_power_of_two 0 ≡ false = refl in absurd cc
positive (suc n) h = omega arith

pub masked : (n b : ℕ) → IsTrue (is_power_of_two n) → n < 2 ^ 32 → bit_and b (n - 1) ≡ b % n
masked n b power small =
    let top = leading_top 32 n (positive n power) small in
    let is : n ≡ 2 ^ top.0 = power_is n top.0 power top.2 (omega (arith, pow-succ' top.0 2)) in
    ap (λ m. bit_and b (m - 1)) is ∙ (and_mask b top.0 ∙ ap (λ m. b % m) (sym is))
