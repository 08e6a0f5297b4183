use Rattle.std.proofs.Common.{◌≡◌, ◌≤◌, drop, min}
use Rattle.pisa_asm.specs.Tokens.{hex_on}
use Rattle.pisa_asm.proofs.Numerals.{most}
use Rattle.pisa_asm.proofs.tokens.hex_value.Given as goal

abbrev pub invariant-loop-b : goal.invariant-loop-b
invariant-loop-b l = (min (hex_on l.value (drop l.b-index l.digits)) most ≡ min (hex_on 0 l.digits) most) × (l.value ≤ most)
