use Rattle.std.proofs.Common.{◌-◌, ◌^◌, ◌≤◌}
use Rattle.checkpoint.proofs.Memory.{Taken}
use Rattle.checkpoint.proofs.taking.pages_of.Given as goal

abbrev pub invariant-loop-number : goal.invariant-loop-number
invariant-loop-number l = record {
  taken : Taken l.mem l.pages.items l.from;
  space : l.from ≤ 2 ^ 20;
}

abbrev pub decreases-loop-number : goal.decreases-loop-number
decreases-loop-number l = 2 ^ 20 - l.from
