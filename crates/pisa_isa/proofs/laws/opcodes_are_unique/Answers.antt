use Rattle.pisa_isa.specs.Numbers.{operation_has, operation_at}
use Rattle.pisa_isa.proofs.laws.opcodes_are_unique.Goals as goal

pub returns-clause-found : goal.returns-clause-found
returns-clause-found c number o = (operation_has number o, operation_at number o)
