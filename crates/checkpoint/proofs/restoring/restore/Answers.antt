use Rattle.std.proofs.Common.{◌≡◌, ◌∷◌, refl, sym, ap, subst, ◌∙◌}
use Rattle.paged_mem.specs.Memory.{byte_of}
use Rattle.sim_safe.specs.State.{State, HoldsText}
use Rattle.checkpoint.specs.State.{PointState}
use Rattle.checkpoint.specs.Held.{state_held}
use Rattle.checkpoint.proofs.Fitting.{state_goes_on, text_holds}
use Rattle.checkpoint.proofs.restoring.restore.Goals as goal

pub machine-requires-clause-content : goal.machine-requires-clause-content
machine-requires-clause-content c = text_holds (byte_of c.in-Ok-memory.mem) c.args.image.text (sym c.in-Ok-judge_text.ensures)

pub returns-in-Ok-machine-clause-state : goal.returns-in-Ok-machine-clause-state
returns-in-Ok-machine-clause-state c =
    let point : PointState = record { head = c.p.inside.head; pages = c.p.inside.pages.items } in
    let bytes : byte_of c.in-Ok-memory.mem ≡ byte_of point.pages = c.in-Ok-memory.ensures ∙ ap byte_of c.as_slice.ensures.value in
    c.in-Ok-machine.ensures
    ∙ state_goes_on point c.in-Ok-memory.mem (0 ∷ point.head.regs) c.args.image.text (sym c.in-Ok.ensures) bytes refl
    ∙ ap (λ (p : PointState). state_held p c.args.image.text) c.p.view_is

pub returns-in-Ok-machine-clause-text : goal.returns-in-Ok-machine-clause-text
returns-in-Ok-machine-clause-text c =
    subst (λ (s : State). HoldsText s.reads.bytes s.text) (sym c.in-Ok-machine.ensures) (text_holds (byte_of c.in-Ok-memory.mem) c.args.image.text (sym c.in-Ok-judge_text.ensures))
