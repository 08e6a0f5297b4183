use Rattle.std.proofs.Common.{◌≡◌, length}
use Rattle.pisa_asm.specs.Letters.{trim_end}
use Rattle.pisa_asm.proofs.letters.trim_end.Given as goal

abbrev pub invariant-loop-front : goal.invariant-loop-front
invariant-loop-front l = trim_end l.front ≡ trim_end l.bytes

abbrev pub decreases-loop-front : goal.decreases-loop-front
decreases-loop-front l = length l.front
