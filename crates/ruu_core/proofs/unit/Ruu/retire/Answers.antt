use Rattle.std.proofs.Common.{◌∙◌, sym, ap, refl}
use Rattle.ruu_core.specs.Window.{later}
use Rattle.ruu_core.proofs.Calls.{retire_sound, retire_returns, retire_station, retire_recorded, some_of}
use Rattle.ruu_core.proofs.unit.Ruu.retire.Goals as goal

pub invariant_of-self : goal.invariant_of-self
invariant_of-self c =
    retire_sound c.self.inside.slots c.pop_front.new.self c.note.new.slots c.self.inside.last c.in-Some.slot c.in-Some.slot.station.row refl (sym c.in-Some.ensures.value) c.self.invariant c.pop_front.ensures.items c.note.ensures

pub returns-clause-rows : goal.returns-clause-rows
returns-clause-rows c =
    retire_returns c.self.inside.slots c.pop_front.new.self c.note.new.slots c.args.self.now c.self.inside.last c.self.inside.past c.later-self-inside.result c.in-Some.slot c.in-Some.slot.station.row c.self.view_is (sym c.in-Some.ensures.value) c.pop_front.ensures.items c.note.ensures
    (c.later-self-inside.ensures ∙ ap (later c.self.inside.past) c.finished.ensures)

pub returns-clause-station : goal.returns-clause-station
returns-clause-station c = retire_station c.self.inside.slots c.args.self.now c.self.inside.last c.self.inside.past c.in-Some.slot c.self.view_is (sym c.in-Some.ensures.value)

pub returns-clause-recorded : goal.returns-clause-recorded
returns-clause-recorded c =
    some_of c.in-Some.slot.station.commit (retire_recorded c.self.inside.slots c.args.self.now c.self.inside.last c.self.inside.past c.in-Some.slot c.self.view_is c.self.invariant (sym c.in-Some.ensures.value) c.requires)
