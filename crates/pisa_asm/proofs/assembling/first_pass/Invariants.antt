use Rattle.std.proofs.Common.{length}
use Rattle.pisa_asm.proofs.Turns.{Going}
use Rattle.pisa_asm.proofs.assembling.first_pass.Given as goal

abbrev pub invariant-lines : goal.invariant-lines
invariant-lines l = Going l.findings l.number l.rest l.text

abbrev pub decreases-lines : goal.decreases-lines
decreases-lines l = length l.rest
