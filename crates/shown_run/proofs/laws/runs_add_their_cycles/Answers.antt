use Rattle.shown_run.proofs.Adds.{adds_items}
use Rattle.shown_run.proofs.laws.runs_add_their_cycles.Goals as goal

pub returns : goal.returns
returns c = adds_items
