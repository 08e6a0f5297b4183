use Rattle.shown_run.proofs.Adds.{begins_so}
use Rattle.shown_run.proofs.laws.runs_begin_alike.Goals as goal

pub returns : goal.returns
returns c = begins_so
