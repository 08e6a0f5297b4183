use Rattle.std.proofs.Common.{◌∙◌, sym, ap, cond, Some, None}
use Rattle.ruu_core.proofs.Calls.{head_answer, head_none}
use Rattle.ruu_core.proofs.unit.Ruu.head.Goals as goal

pub returns-in-None : goal.returns-in-None
returns-in-None c = head_none c.args.cycle c.self.inside.slots c.args.self.now c.self.inside.last c.self.inside.past c.self.view_is (sym c.in-None.ensures)

pub returns-then-commits : goal.returns-then-commits
returns-then-commits c =
    head_answer c.args.cycle c.self.inside.slots c.args.self.now c.self.inside.last c.self.inside.past c.in-Some.slot.now (Some c.in-Some.slot.now.station) c.self.view_is (sym c.in-Some.ensures)
    (sym (ap (λ b. cond b (Some c.in-Some.slot.now.station) None) (sym c.commits.ensures ∙ c.if-commits.true)))

pub returns-else-commits : goal.returns-else-commits
returns-else-commits c =
    head_answer c.args.cycle c.self.inside.slots c.args.self.now c.self.inside.last c.self.inside.past c.in-Some.slot.now None c.self.view_is (sym c.in-Some.ensures)
    (sym (ap (λ b. cond b (Some c.in-Some.slot.now.station) None) (sym c.commits.ensures ∙ c.if-commits.false)))
