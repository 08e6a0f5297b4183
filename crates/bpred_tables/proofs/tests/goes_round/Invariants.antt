use Rattle.std.proofs.Common.{◌≡◌, length}
use Rattle.bpred_tables.proofs.tests.goes_round.Given as goal

abbrev pub invariant-loop-call : goal.invariant-loop-call
invariant-loop-call l = length l.stack.cells ≡ l.size
