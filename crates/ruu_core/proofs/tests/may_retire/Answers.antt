use Rattle.std.proofs.Common.{◌∙◌, ap, sym}
use Rattle.std.specs.Prelude.{option_map}
use Rattle.ruu_core.specs.Window.{Window, first, may_retire}
use Rattle.ruu_core.specs.Slots.{shown}
use Rattle.ruu_core.proofs.Rows.{first_row}
use Rattle.ruu_core.proofs.tests.may_retire.Goals as goal

pub returns-in-Some : goal.returns-in-Some
returns-in-Some c =
    c.may_leave.ensures
    ∙ (ap may_retire (ap (option_map shown) c.in-Some.ensures ∙ sym (first_row c.unit.inside.slots.items)) ∙ ap (λ (w : Window). may_retire (first w.rows)) c.unit.view_is)

pub returns-in-None : goal.returns-in-None
returns-in-None c =
    ap may_retire (ap (option_map shown) c.in-None.ensures ∙ sym (first_row c.unit.inside.slots.items)) ∙ ap (λ (w : Window). may_retire (first w.rows)) c.unit.view_is
