use Rattle.std.proofs.Common.{◌∙◌, ap}
use Rattle.std.specs.Prelude.{option_map}
use Rattle.lsq_core.specs.declared.slots.Slot.{Slot}
use Rattle.lsq_core.specs.Queue.{Queue, first_row}
use Rattle.lsq_core.proofs.Rises.{first_entry}
use Rattle.lsq_core.proofs.tests.first.Goals as goal

pub returns-in-Some : goal.returns-in-Some
returns-in-Some c =
    ap (option_map (λ (s : Slot). s.row)) c.in-Some.ensures
    ∙ (first_entry c.queue.inside.slots.items ∙ ap (λ (q : Queue). first_row q.entries) c.queue.view_is)

pub returns-in-None : goal.returns-in-None
returns-in-None c =
    ap (option_map (λ (s : Slot). s.row)) c.in-None.ensures
    ∙ (first_entry c.queue.inside.slots.items ∙ ap (λ (q : Queue). first_row q.entries) c.queue.view_is)
