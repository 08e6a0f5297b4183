use Rattle.std.proofs.Common.{ap, ◌+◌}
use Rattle.mem_hier.specs.Replay.{Timing}
use Rattle.mem_hier.proofs.Steps.{latency_hit, passed_hit, passed_missed}
use Rattle.mem_hier.proofs.levels.reach_over.Goals as goal

pub returns-then-touch-clause-passed : goal.returns-then-touch-clause-passed
returns-then-touch-clause-passed c = λ shape calls shape' calls' met met'.
    passed_hit c.args.timing.now shape calls c.args.behind.now shape' calls' c.args.addr c.args.write c.args.cycle c.hit.result c.access-touch.result c.access-touch.new.self c.args.second.now
    (c.access-touch.ensures.touch shape calls met.stands) c.if-touch.true
    (latency_hit c.args.timing.now shape calls c.args.addr c.args.cycle c.awaited-end.result c.hit.result (c.awaited-end.ensures shape calls met.stands) met.fills c.hit.ensures.latency)
    (c.access-touch.ensures.stands shape calls met.stands) met'.stands

pub returns-clause-passed : goal.returns-clause-passed
returns-clause-passed c = λ shape calls shape' calls' met met'.
    passed_missed c.args.timing.now shape calls c.args.behind.now shape' calls' c.args.addr c.args.write c.args.cycle _ c.reach.result c.access-touch.result c.fill.new.self c.reach.new.cache
    (c.access-touch.ensures.touch shape calls met.stands) c.if-touch.false
    (ap (λ (t : Timing). t.lookup + c.reach.result) c.timing.view_is)
    (c.fill.ensures.stands shape _ (c.access-touch.ensures.stands shape calls met.stands))
    (c.reach.ensures.served shape' _ (c.write_back.ensures.written shape' calls' met'))
