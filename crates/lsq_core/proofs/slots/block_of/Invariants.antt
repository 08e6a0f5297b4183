use Rattle.std.proofs.Common.{◌≡◌, take}
use Rattle.lsq_core.specs.Slots.{entries_of, block_of}
use Rattle.lsq_core.proofs.slots.block_of.Given as goal

abbrev pub invariant-loop-at : goal.invariant-loop-at
invariant-loop-at l = l.block ≡ block_of l.row (entries_of (take l.at l.slots.items))
