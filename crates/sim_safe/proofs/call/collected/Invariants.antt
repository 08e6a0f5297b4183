use Rattle.std.proofs.Common.{◌≡◌, take}
use Rattle.sim_safe.proofs.call.collected.Given as goal

abbrev pub invariant-loop-item : goal.invariant-loop-item
invariant-loop-item l = l.all.items ≡ take l.item-index l.registers
