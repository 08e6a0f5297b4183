use Rattle.std.proofs.Common.{◌≡◌, nat_eq, length, map}
use Rattle.std.specs.List.{slice_split}
use Rattle.pisa_asm.specs.Letters.{trim, operands_in}
use Rattle.pisa_asm.specs.Operands.{say}
use Rattle.pisa_asm.specs.Views.{going, said_of}
use Rattle.pisa_asm.proofs.operands.say.Given as goal

abbrev pub invariant-pieces : goal.invariant-pieces
invariant-pieces l =
    going l.judge l.pc (map trim (slice_split (λ b. nat_eq b 44) l.rest)) ≡ say l.pc l.slots (operands_in l.text) (said_of l.start)

abbrev pub decreases-pieces : goal.decreases-pieces
decreases-pieces l = length l.rest
