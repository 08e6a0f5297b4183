use Rattle.core_events.proofs.Recoveries.{squashes_are_behind}
use Rattle.core_events.proofs.laws.recoveries_squash_all_behind.Goals as goal

pub returns : goal.returns
returns c = squashes_are_behind
