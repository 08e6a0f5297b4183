use Rattle.std.proofs.Common.{◌∙◌, sym}
use Rattle.core_dispatch.proofs.Admit.{memory_found}
use Rattle.core_dispatch.proofs.turn.take_turn.Goals as goal

pub returns-in-Right-clause-memory : goal.returns-in-Right-clause-memory
returns-in-Right-clause-memory c =
    λ m.
    c.enter_right.ensures.memory
    (memory_found c.args.trace.now c.args.cycle c.args.dispatched c.args.called c.args.parts.now c.verdict_of.new.parts c.verdict_of.ensures.stays (sym c.verdict_of.ensures.verdict ∙ c.in-Right.is) m)
