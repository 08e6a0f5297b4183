use Rattle.std.proofs.Common.{◌≡◌, drop}
use Rattle.core_watch.proofs.Events.{Goes}
use Rattle.core_watch.proofs.showing.show.Given as goal

abbrev pub invariant-loop-e : goal.invariant-loop-e
invariant-loop-e g l =
    Goes g.W.Watch.took g.W.Watch.cut l.fn.watch l.es (drop l.e-index l.es) l.watch
    × (g.W.Watch.faults l.watch ≡ g.W.Watch.faults l.fn.watch)
    × (g.W.Watch.takes_no_memory l.fn.watch → g.W.Watch.takes_no_memory l.watch)
