use Rattle.core_watch.proofs.Ends.{by_stage}
use Rattle.core_watch.proofs.laws.cycles_show_their_stages.Goals as goal

pub returns : goal.returns
returns c = by_stage
