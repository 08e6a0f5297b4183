use Rattle.std.proofs.Common.{◌≡◌}
use Rattle.sim_outorder.specs.Running.{IsReady}
use Rattle.sim_outorder_tests.proofs.worked.exit_of.Given as goal

abbrev pub invariant-loop-k : goal.invariant-loop-k
invariant-loop-k l = IsReady l.core × (l.core.cycle ≡ l.k)
