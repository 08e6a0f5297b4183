-- The targets of branches and jumps in terms of words.
use Rattle.std.proofs.Common.{◌≡◌, ◌+◌, ◌*◌, ◌/◌, ◌%◌, ◌^◌, ◌<◌, ◌∙◌, ℕ, sym, ap, arith, bit_and, bit_or}
use Rattle.std.specs.Int.{cast_signed, cast_unsigned, w16, w32}
use Rattle.std.proofs.lemmas.Int.{ints}
use Rattle.std.proofs.lemmas.Nat.{or_shifted}
use Rattle.std.proofs.lemmas.Nat.Bits.{and_high_mask}
use Rattle.pisa_isa.specs.Targets.{branch_target, jump_target}

pub branch_words : (pc imm : ℕ) → pc < 2 ^ 32 → imm < 2 ^ 16 → branch_target pc imm ≡ (pc + 8 + 4 * cast_unsigned w32 (cast_signed w16 imm)) % 2 ^ 32
branch_words pc imm h k = grind (arith, ints)

pub jump_words : (pc target : ℕ) → pc < 2 ^ 32 → target < 2 ^ 26 → jump_target pc target ≡ bit_or (bit_and pc 0xf0000000) (4 * target)
jump_words pc target h k =
    sym (or_shifted (pc / 2 ^ 28) 28 (4 * target) (omega arith))
    ∙ ap (λ a. bit_or a (4 * target)) (sym (and_high_mask 32 28 (omega arith) pc h))
