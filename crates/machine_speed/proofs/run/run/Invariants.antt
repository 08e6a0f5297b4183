use Rattle.std.proofs.Common.{◌≡◌}
use Rattle.sim_outorder.specs.Running.{IsReady}
use Rattle.machine_speed.proofs.run.run.Given as goal

abbrev pub invariant-loop-k : goal.invariant-loop-k
invariant-loop-k l = IsReady l.core × (l.core.cycle ≡ l.k)
