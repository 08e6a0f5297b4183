use Rattle.std.proofs.Common.{◌≡◌, ◌≤◌, take}
use Rattle.lsq_core.specs.Slots.{entries_of, up_to}
use Rattle.lsq_core.proofs.slots.count_up_to.Given as goal

abbrev pub invariant-loop-at : goal.invariant-loop-at
invariant-loop-at l =
    (l.count ≤ l.at)
    × (entries_of (take l.count l.slots.items) ≡ up_to l.row (entries_of (take l.at l.slots.items)))
