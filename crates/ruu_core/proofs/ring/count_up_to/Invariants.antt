use Rattle.std.proofs.Common.{◌≡◌, ◌≤◌, take}
use Rattle.std.specs.Prelude.{reverse}
use Rattle.ruu_core.specs.Slots.{up_to}
use Rattle.ruu_core.proofs.ring.count_up_to.Given as goal

abbrev pub invariant-loop-at : goal.invariant-loop-at
invariant-loop-at l =
    (l.count ≤ l.at) × (reverse (take l.count l.slots.items) ≡ up_to l.row (reverse (take l.at l.slots.items)))
