use Rattle.core_watch.proofs.Ends.{shown_at_commit}
use Rattle.core_watch.proofs.laws.last_commits_show_commits.Goals as goal

pub returns : goal.returns
returns c = shown_at_commit
