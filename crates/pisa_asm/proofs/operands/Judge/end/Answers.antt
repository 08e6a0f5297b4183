use Rattle.std.proofs.Common.{◌<◌, ◌∙◌, Ok, length, sym, ap, arith}
use Rattle.std.proofs.lemmas.Bool.Decides.{nat_tests}
use Rattle.pisa_asm.specs.declared.operands.Filled.{Filled}
use Rattle.pisa_asm.specs.Views.{combined, said_of}
use Rattle.pisa_asm.proofs.Judging.{none_left}
use Rattle.pisa_asm.proofs.operands.Judge.end.Goals as goal

pub returns-else-is_empty : goal.returns-else-is_empty
returns-else-is_empty c =
    let said = said_of c.args.self.filled in
    let left : 0 < length c.args.self.slots.now = grind (arith, nat_tests) in
    c.found-else-is_empty.ensures
    ∙ ap (λ (f : Filled). combined c.noting.result.worst (Ok (said_of f))) c.noting.ensures.filled
    ∙ c.noting.ensures.worst (Ok said)
    ∙ ap (combined c.args.self.worst) (sym (none_left c.args.pc c.args.self.slots.now said left))
