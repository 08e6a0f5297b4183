use Rattle.std.proofs.Common.{◌∙◌, sym, ap}
use Rattle.ooo_table.specs.Issue.{has_unit_for}
use Rattle.ooo_plain.proofs.issue.has_unit_for.Goals as goal

pub returns-in-Alu : goal.returns-in-Alu
returns-in-Alu c = λ set start olds e h k. c.has_unit.ensures set start olds e h.alus k ∙ sym (ap (λ u. has_unit_for set c.args.cycle start olds u) c.in-Alu.is)

pub returns-in-Multiply : goal.returns-in-Multiply
returns-in-Multiply c = λ set start olds e h k. c.has_unit-in-Multiply.ensures set start olds e h.multipliers k ∙ sym (ap (λ u. has_unit_for set c.args.cycle start olds u) c.in-Multiply.is)

pub returns-in-Divide : goal.returns-in-Divide
returns-in-Divide c = λ set start olds e h k. c.has_unit-in-Divide.ensures set start olds e h.multipliers k ∙ sym (ap (λ u. has_unit_for set c.args.cycle start olds u) c.in-Divide.is)
