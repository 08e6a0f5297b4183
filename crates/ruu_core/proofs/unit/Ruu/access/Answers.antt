use Rattle.ruu_core.proofs.Calls.{access_sound, access_returns}
use Rattle.ruu_core.proofs.Stays.{access_from}
use Rattle.ruu_core.proofs.Places.{rows_rise}
use Rattle.ruu_core.proofs.unit.Ruu.access.Goals as goal

pub note_from-requires : goal.note_from-requires
note_from-requires c = rows_rise c.self.inside.last c.self.inside.slots.items c.self.invariant.rises

pub invariant_of-self : goal.invariant_of-self
invariant_of-self c =
    access_sound c.self.inside.slots c.note_from.new.slots c.self.inside.last c.args.row c.args.cycle c.args.done c.self.invariant
    (access_from c.self.inside.slots c.note_from.new.slots c.self.inside.last c.args.row c.args.cycle c.args.done c.self.invariant c.note_from.ensures)

pub returns : goal.returns
returns c =
    access_returns c.self.inside.slots c.note_from.new.slots c.args.self.now c.self.inside.last c.self.inside.past c.args.row c.args.cycle c.args.done c.self.view_is
    (access_from c.self.inside.slots c.note_from.new.slots c.self.inside.last c.args.row c.args.cycle c.args.done c.self.invariant c.note_from.ensures)
