use Rattle.std.proofs.Common.{◌≡◌}
use Rattle.sim_outorder.specs.Running.{IsReady}
use Rattle.timed_run.proofs.Loop.{Along}
use Rattle.timed_run.proofs.run.timed_run.Given as goal

abbrev pub invariant-loop-cycle : goal.invariant-loop-cycle
invariant-loop-cycle g l =
    IsReady l.core
    × (l.core.cycle ≡ l.cycle)
    × Along g.W.Watch.took l.trace l.max_inst l.fn.core l.core l.fn.watch l.watch
    × (g.W.Watch.faults l.watch ≡ g.W.Watch.faults l.fn.watch)
    × (g.W.Watch.takes_no_memory l.fn.watch → g.W.Watch.takes_no_memory l.watch)
