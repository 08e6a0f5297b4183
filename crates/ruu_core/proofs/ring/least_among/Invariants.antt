use Rattle.std.proofs.Common.{◌≡◌, take, None}
use Rattle.std.specs.Prelude.{find}
use Rattle.ruu_core.specs.Slots.{wanted}
use Rattle.ruu_core.proofs.ring.least_among.Given as goal

abbrev pub invariant-loop-slot : goal.invariant-loop-slot
invariant-loop-slot l = find (wanted l.what l.after) (take l.slot-index l.slots) ≡ None
