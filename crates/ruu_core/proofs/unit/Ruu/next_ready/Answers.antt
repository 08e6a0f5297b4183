use Rattle.std.proofs.Common.{◌∙◌}
use Rattle.ruu_core.proofs.Calls.{ready_answer}
use Rattle.ruu_core.proofs.Places.{rows_rise}
use Rattle.ruu_core.proofs.unit.Ruu.next_ready.Goals as goal

pub least-requires : goal.least-requires
least-requires c = rows_rise c.self.inside.last c.self.inside.slots.items c.self.invariant.rises

pub returns : goal.returns
returns c = c.least.ensures ∙ ready_answer c.args.cycle c.args.after c.self.inside.slots c.args.self.now c.self.inside.last c.self.inside.past c.self.view_is c.self.invariant
