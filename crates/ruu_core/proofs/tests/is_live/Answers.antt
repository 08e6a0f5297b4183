use Rattle.std.proofs.Common.{◌∙◌, ap}
use Rattle.std.specs.Prelude.{reverse}
use Rattle.ruu_core.specs.Window.{Window, is_live}
use Rattle.ruu_core.proofs.Rows.{live_shown}
use Rattle.ruu_core.proofs.tests.is_live.Goals as goal

pub returns : goal.returns
returns c =
    c.is_among.ensures ∙ (live_shown c.args.row (reverse c.unit.inside.slots.items) ∙ ap (λ (w : Window). is_live c.args.row w.rows) c.unit.view_is)
