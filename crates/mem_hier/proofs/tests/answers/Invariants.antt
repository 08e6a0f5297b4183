use Rattle.std.proofs.Common.{◌≡◌, ◌≤◌}
use Rattle.mem_hier.specs.Stands.{references_of, last_cycle_of}
use Rattle.mem_hier.proofs.tests.answers.Given as goal

abbrev pub invariant-loop-i : goal.invariant-loop-i
invariant-loop-i l = (last_cycle_of l.hier ≡ l.last) × (references_of l.hier ≤ l.i)
