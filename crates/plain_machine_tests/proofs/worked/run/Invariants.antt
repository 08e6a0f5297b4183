use Rattle.std.proofs.Common.{◌≡◌}
use Rattle.plain_machine.specs.Cycle.{IsReady}
use Rattle.plain_machine_tests.proofs.worked.run.Given as goal

abbrev pub invariant-loop-k : goal.invariant-loop-k
invariant-loop-k l = IsReady l.plain × (l.plain.cycles ≡ l.k)
