use Rattle.std.proofs.Common.{◌∙◌, refl, ap, sym, subst}
use Rattle.ruu_core.specs.declared.station.Station.{Station}
use Rattle.ruu_core.specs.Window.{MayEnter}
use Rattle.core_dispatch.specs.Turn.{TakesEntry, is_memory}
use Rattle.core_dispatch.proofs.Admit.{wrong_room, wrong_enters, wrong_takes, enters_wrong}
use Rattle.core_dispatch.proofs.enter.enter_wrong.Goals as goal

pub make-requires-clause-room : goal.make-requires-clause-room
make-requires-clause-room c = wrong_room c.args.act.now c.args.cycle c.args.parts.now c.requires.fits c.requires.wrong

pub enter-requires-clause-unit : goal.enter-requires-clause-unit
enter-requires-clause-unit c =
    subst (λ s. MayEnter c.args.parts.now.unit s c.args.cycle) (sym c.wrong_station.ensures)
    (wrong_enters c.args.act.now c.args.cycle c.args.parts.now c.leave_front-head.result c.requires.fits c.requires.wrong c.requires.can.formed c.leave_front-head.ensures.number)

pub enter-requires-clause-queue : goal.enter-requires-clause-queue
enter-requires-clause-queue c =
    λ memory.
    subst (λ (s : Station). TakesEntry c.args.parts.now.queue c.args.parts.now.addresses s.row) (sym c.wrong_station.ensures)
    (wrong_takes c.args.act.now c.args.cycle c.args.parts.now c.leave_front-head.result c.requires.fits c.requires.wrong c.leave_front-head.ensures.number
    (ap is_memory (sym c.wrong_station.ensures) ∙ memory))

pub returns-clause-turn : goal.returns-clause-turn
returns-clause-turn c =
    enters_wrong c.args.act.now c.args.cycle c.args.parts.now _ c.leave_front-head.result c.wrong_station.result c.access_in.result c.requires.wrong c.requires.can.formed
    c.wrong_station.ensures c.access_in.ensures
    (record {
      same = refl;
      unit = c.enter.ensures.unit;
      queue = c.enter.ensures.queue;
      addresses = c.enter.ensures.addresses;
      front = c.leave_front-head.ensures.row;
      number = c.leave_front-head.ensures.number;
    }) refl c.make.ensures refl
