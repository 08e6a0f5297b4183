use Rattle.std.proofs.Common.{◌*◌, ◌≤◌}
use Rattle.mem_hier.specs.Stands.{references_of, last_cycle_of}
use Rattle.ooo_front.proofs.tests.plays.Given as goal

abbrev pub invariant-loop-i : goal.invariant-loop-i
invariant-loop-i l = record {
  width : l.front.width ≤ 32;
  cycle : l.front.cycle ≤ l.walk.cycle;
  order : last_cycle_of l.hier ≤ l.walk.cycle;
  row : l.front.row ≤ 32 * l.i;
  references : references_of l.hier ≤ 32 * l.i;
}
