use Rattle.core_watch.proofs.CommitTurns.{commits_are_over}
use Rattle.core_watch.proofs.laws.stages_show_all_commits.Goals as goal

pub returns : goal.returns
returns c = λ g c most n younger older e before after. commits_are_over g c most n younger older e before after
