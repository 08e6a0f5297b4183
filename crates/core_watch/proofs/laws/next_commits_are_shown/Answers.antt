use Rattle.core_watch.proofs.CommitTurns.{commit_is_shown}
use Rattle.core_watch.proofs.laws.next_commits_are_shown.Goals as goal

pub returns : goal.returns
returns c = λ g c most n left passed older r next. commit_is_shown g c most n left passed older r next
