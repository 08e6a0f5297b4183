use Rattle.ruu_core.proofs.Places.{named_is, named_within}
use Rattle.ruu_core.proofs.ring.named.Goals as goal

pub slot_at-requires : goal.slot_at-requires
slot_at-requires c = named_within c.args.row c.args.slots.now.items c.place_of.result c.requires.rises c.requires.live c.place_of.ensures

pub returns : goal.returns
returns c =
    named_is c.args.row c.args.slots.now.items c.place_of.result c.slot_at.result.now c.requires.rises c.requires.live c.place_of.ensures c.slot_at.ensures
