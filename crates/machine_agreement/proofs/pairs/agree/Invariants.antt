use Rattle.std.proofs.Common.{◌≡◌}
use Rattle.plain_machine.specs.Cycle as plainly
use Rattle.sim_outorder.specs.Running.{IsReady}
use Rattle.machine_agreement.proofs.pairs.agree.Given as goal

abbrev pub invariant-loop-k : goal.invariant-loop-k
invariant-loop-k l = (plainly.IsReady l.plain × (l.plain.cycles ≡ l.k)) × (IsReady l.core × (l.core.cycle ≡ l.k))
