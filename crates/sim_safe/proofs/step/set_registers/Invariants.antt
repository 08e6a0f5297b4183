use Rattle.std.proofs.Common.{◌≡◌, take}
use Rattle.sim_safe.proofs.step.set_registers.Given as goal

abbrev pub invariant-loop-item : goal.invariant-loop-item
invariant-loop-item l = l.into.items ≡ take l.item-index l.registers
