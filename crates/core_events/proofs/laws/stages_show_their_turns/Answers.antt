use Rattle.core_events.proofs.Commits.{stages_are_shown}
use Rattle.core_events.proofs.laws.stages_show_their_turns.Goals as goal

pub returns : goal.returns
returns c = λ g c sound. stages_are_shown g c sound
