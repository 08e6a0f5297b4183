use Rattle.std.proofs.Common.{◌≡◌, take}
use Rattle.std.specs.Prelude.{reverse}
use Rattle.core_parts.specs.Addresses.{address_of}
use Rattle.core_parts.proofs.addresses.address_in.Given as goal

abbrev pub invariant-loop-at : goal.invariant-loop-at
invariant-loop-at l = l.addr ≡ address_of l.row (reverse (take l.at l.ring.items))
