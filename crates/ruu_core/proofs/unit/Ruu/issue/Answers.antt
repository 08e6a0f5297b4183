use Rattle.ruu_core.proofs.Calls.{issue_sound, issue_returns}
use Rattle.ruu_core.proofs.Stays.{issue_from}
use Rattle.ruu_core.proofs.Places.{rows_rise}
use Rattle.ruu_core.proofs.unit.Ruu.issue.Goals as goal

pub note_from-requires : goal.note_from-requires
note_from-requires c = rows_rise c.self.inside.last c.self.inside.slots.items c.self.invariant.rises

pub invariant_of-self : goal.invariant_of-self
invariant_of-self c =
    issue_sound c.self.inside.slots c.note_from.new.slots c.self.inside.last c.args.row c.args.cycle c.args.done c.self.invariant
    (issue_from c.self.inside.slots c.note_from.new.slots c.self.inside.last c.args.row c.args.cycle c.args.done c.self.invariant c.note_from.ensures)

pub returns : goal.returns
returns c =
    issue_returns c.self.inside.slots c.note_from.new.slots c.args.self.now c.self.inside.last c.self.inside.past c.args.row c.args.cycle c.args.done c.self.view_is
    (issue_from c.self.inside.slots c.note_from.new.slots c.self.inside.last c.args.row c.args.cycle c.args.done c.self.invariant c.note_from.ensures)
