use Rattle.core_events.proofs.Commits.{turns_are_shown}
use Rattle.core_events.proofs.laws.turns_show_commits.Goals as goal

pub returns : goal.returns
returns c = turns_are_shown
