use Rattle.std.proofs.Common.{◌≡◌, ◌+◌, ℕ}
use Rattle.paged_mem.specs.Memory.{IsReserved}
use Rattle.sim_safe.specs.State.{state_of}
use Rattle.sim_safe.proofs.Steps.{Reaches}
use Rattle.sim_safe.proofs.arch.Arch.skip.Given as goal

abbrev pub invariant-loop-done : goal.invariant-loop-done
invariant-loop-done l = record {
  reaches : Reaches l.trace l.done (state_of l.fn.self) (state_of l.self);
  icnt : l.self.icnt ≡ l.fn.self.icnt + l.done;
  pages : (number : ℕ) → IsReserved l.fn.self.pages number → IsReserved l.self.pages number;
}
