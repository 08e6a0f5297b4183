use Rattle.std.proofs.Common.{ap}
use Rattle.mem_hier.specs.Replay.{Timing}
use Rattle.mem_hier.proofs.Steps.{latency_hit, served_hit, served_missed}
use Rattle.mem_hier.proofs.levels.reach.Goals as goal

pub returns-then-touch-clause-served : goal.returns-then-touch-clause-served
returns-then-touch-clause-served c = λ shape calls met.
    served_hit c.args.timing.now shape calls c.args.addr c.args.write c.args.cycle c.hit.result c.access-touch.result c.access-touch.new.self
    (c.access-touch.ensures.touch shape calls met.stands) c.if-touch.true
    (latency_hit c.args.timing.now shape calls c.args.addr c.args.cycle c.awaited-end.result c.hit.result (c.awaited-end.ensures shape calls met.stands) met.fills c.hit.ensures.latency)
    (c.access-touch.ensures.stands shape calls met.stands)

pub returns-else-touch-clause-served : goal.returns-else-touch-clause-served
returns-else-touch-clause-served c = λ shape calls met.
    served_missed c.args.timing.now shape calls c.args.addr c.args.write c.args.cycle c.timing.inside.greatest c.access-touch.result c.fill.new.self
    (c.access-touch.ensures.touch shape calls met.stands) c.if-touch.false
    (ap (λ (t : Timing). t.greatest) c.timing.view_is)
    (c.fill.ensures.stands shape _ (c.access-touch.ensures.stands shape calls met.stands))
