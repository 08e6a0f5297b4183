use Rattle.std.proofs.Common.{◌≤◌}
use Rattle.fu_pool.proofs.tests.agrees.Given as goal

abbrev pub invariant-loop-row : goal.invariant-loop-row
invariant-loop-row l = l.pools.last ≤ l.now
