use Rattle.std.proofs.Common.{sym}
use Rattle.ruu_core.proofs.Places.{place_here}
use Rattle.ruu_core.proofs.ring.place_of.Goals as goal

pub returns-in-Some-get : goal.returns-in-Some-get
returns-in-Some-get c =
    place_here 0 c.args.row c.args.slots.now.items c.saturating_sub-guess.result c.in-Some-get.slot.now c.requires (sym c.in-Some-get.ensures) c.if-slot-row.true
