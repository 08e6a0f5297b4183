use Rattle.restarted_run.proofs.Rest.{rest_left, rest_ended}
use Rattle.restarted_run.proofs.laws.restarted_runs_are_the_rest.Goals as goal

pub returns-clause-left : goal.returns-clause-left
returns-clause-left c = rest_left c.runs_go_on.ensures c.steps_keep.ensures

pub returns-clause-ended : goal.returns-clause-ended
returns-clause-ended c = rest_ended c.runs_go_on.ensures
