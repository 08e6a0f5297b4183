use Rattle.std.proofs.Common.{◌≡◌, take}
use Rattle.lsq_core.specs.Slots.{entries_of, holds_of}
use Rattle.lsq_core.proofs.tests.is_among.Given as goal

abbrev pub invariant-loop-at : goal.invariant-loop-at
invariant-loop-at l = l.held ≡ holds_of l.store l.row (entries_of (take l.at l.slots.items))
