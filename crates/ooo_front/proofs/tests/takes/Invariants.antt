use Rattle.std.proofs.Common.{◌≡◌}
use Rattle.ooo_front.proofs.tests.takes.Given as goal

abbrev pub invariant-loop-k : goal.invariant-loop-k
invariant-loop-k l = record {
  width : l.front.width ≡ l.fn.front.width;
  row : l.front.row ≡ l.fn.front.row;
  cycle : l.front.cycle ≡ l.fn.front.cycle;
}
