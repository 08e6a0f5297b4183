-- Operands that are judged one after the other.
use Rattle.std.proofs.Common.{◌≡◌, ◌<◌, ℕ, List, [], ◌∷◌, Option, Err, length, refl, arith}
use Rattle.ss_base.specs.declared.text_fault.TextWhy.TheVariants as why
use Rattle.pisa_asm.specs.declared.slots.Slot.{Slot}
use Rattle.pisa_asm.specs.Operands.{Said, say}

-- where a place is left, an operand is missing
pub none_left : (pc : Option ℕ) (slots : List Slot) (said : Said) → 0 < length slots → say pc slots [] said ≡ Err why.Missing
none_left pc [] said h = absurd (omega arith)
none_left pc (s ∷ slots) said h = refl
