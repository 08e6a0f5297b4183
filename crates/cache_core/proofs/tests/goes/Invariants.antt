use Rattle.std.proofs.Common.{◌≤◌}
use Rattle.cache_core.specs.Stands.{accesses_of}
use Rattle.cache_core.proofs.tests.goes.Given as goal

abbrev pub invariant-loop-step : goal.invariant-loop-step
invariant-loop-step l = accesses_of l.cache ≤ l.step-index
