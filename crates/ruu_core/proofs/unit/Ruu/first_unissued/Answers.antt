use Rattle.std.proofs.Common.{◌∙◌}
use Rattle.ruu_core.proofs.Calls.{unissued_answer}
use Rattle.ruu_core.proofs.Places.{rows_rise}
use Rattle.ruu_core.proofs.unit.Ruu.first_unissued.Goals as goal

pub least-requires : goal.least-requires
least-requires c = rows_rise c.self.inside.last c.self.inside.slots.items c.self.invariant.rises

pub returns : goal.returns
returns c = c.least.ensures ∙ unissued_answer c.self.inside.slots c.args.self.now c.self.inside.last c.self.inside.past c.self.view_is c.self.invariant
