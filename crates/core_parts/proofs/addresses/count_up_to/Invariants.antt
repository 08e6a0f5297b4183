use Rattle.std.proofs.Common.{◌≡◌, ◌≤◌, take}
use Rattle.std.specs.Prelude.{reverse}
use Rattle.core_parts.specs.Addresses.{up_to}
use Rattle.core_parts.proofs.addresses.count_up_to.Given as goal

abbrev pub invariant-loop-at : goal.invariant-loop-at
invariant-loop-at l =
    (l.count ≤ l.at)
    × (reverse (take l.count l.ring.items) ≡ up_to l.row (reverse (take l.at l.ring.items)))
