use Rattle.std.proofs.Common.{◌∙◌, refl, ap, sym, subst}
use Rattle.sim_safe.specs.State.{state_of}
use Rattle.sim_safe.specs.Step.{outcome_of}
use Rattle.ruu_core.specs.declared.station.Station.{Station}
use Rattle.ruu_core.specs.Window.{MayEnter}
use Rattle.core_dispatch.specs.Turn.{TakesEntry, is_memory}
use Rattle.core_dispatch.proofs.Admit.{keeps_done, right_no_halt, right_enters, right_takes, enters_right}
use Rattle.core_dispatch.proofs.enter.enter_right.Goals as goal

pub unreachable-requires : goal.unreachable-requires
unreachable-requires c =
    right_no_halt c.args.trace.now c.args.cycle c.args.parts.now c.in-Ok-Stop.field-0-0 c.requires.right
    (sym (ap (λ r. outcome_of r (state_of c.step.new.self)) c.in-Ok-Stop.field-0-is) ∙ c.in-Ok-Stop.ensures.step.0)

pub enter-requires-clause-unit : goal.enter-requires-clause-unit
enter-requires-clause-unit c =
    subst (λ s. MayEnter c.args.parts.now.unit s c.args.cycle) (sym c.right_station-s.ensures)
    (right_enters c.args.trace.now c.args.cycle c.args.parts.now c.leave_front-head.result c.in-Ok-Did.did (state_of c.step.new.self) c.requires.fits c.requires.right
    (sym (ap (λ r. outcome_of r (state_of c.step.new.self)) c.in-Ok-Did.field-0-is) ∙ c.in-Ok-Did.ensures.step.0) c.leave_front-head.ensures.number)

pub enter-requires-clause-queue : goal.enter-requires-clause-queue
enter-requires-clause-queue c =
    λ memory.
    subst (λ (s : Station). TakesEntry c.args.parts.now.queue c.args.parts.now.addresses s.row) (sym c.right_station-s.ensures)
    (right_takes c.args.trace.now c.args.cycle c.args.parts.now c.leave_front-head.result c.in-Ok-Did.did (state_of c.step.new.self) c.requires.fits c.requires.right
    (sym (ap (λ r. outcome_of r (state_of c.step.new.self)) c.in-Ok-Did.field-0-is) ∙ c.in-Ok-Did.ensures.step.0) c.leave_front-head.ensures.number
    (ap is_memory (sym c.right_station-s.ensures) ∙ memory))

pub returns-in-Ok-Did-clause-turn : goal.returns-in-Ok-Did-clause-turn
returns-in-Ok-Did-clause-turn c =
    enters_right c.args.trace.now c.args.cycle c.args.parts.now _ c.leave_front-head.result c.in-Ok-Did.did c.right_station-s.result c.unwrap_or-addr.result c.is_call-call.result c.requires.right
    (sym (ap (λ r. outcome_of r (state_of c.step.new.self)) c.in-Ok-Did.field-0-is) ∙ c.in-Ok-Did.ensures.step.0)
    c.right_station-s.ensures c.unwrap_or-addr.ensures c.is_call-call.ensures
    (record {
      same = refl;
      unit = c.enter.ensures.unit;
      queue = c.enter.ensures.queue;
      addresses = c.enter.ensures.addresses;
      front = c.leave_front-head.ensures.row;
      number = c.leave_front-head.ensures.number;
    }) refl refl

pub returns-in-Ok-Did-clause-keeps : goal.returns-in-Ok-Did-clause-keeps
returns-in-Ok-Did-clause-keeps c =
    keeps_done c.args.trace.now c.args.parts.now.arch c.step.new.self c.in-Ok-Did.did c.step.ensures.pages
    (sym (ap (λ r. outcome_of r (state_of c.step.new.self)) c.in-Ok-Did.field-0-is) ∙ c.in-Ok-Did.ensures.step.0)
