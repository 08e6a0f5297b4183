use Rattle.std.proofs.Common.{◌∙◌, ap, sym, get_or, None}
use Rattle.pisa_isa.specs.Numbers.{operation_above}
use Rattle.pisa_isa.proofs.LookupTable.{table_at}
use Rattle.pisa_isa.proofs.lookup.operation.Goals as goal

pub returns-then-number-lt256 : goal.returns-then-number-lt256
returns-then-number-lt256 c =
    ap (λ xs. get_or xs c.args.number None) c.operations.ensures ∙ table_at c.args.number c.if-number-lt256.true

pub returns-else-number-lt256 : goal.returns-else-number-lt256
returns-else-number-lt256 c = sym (operation_above c.args.number c.if-number-lt256.false)
