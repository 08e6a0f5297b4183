use Rattle.checkpoint.proofs.Restarting.{rest_of}
use Rattle.checkpoint.proofs.laws.restarts_are_the_rest.Goals as goal

pub returns : goal.returns
returns c = λ trace k n s m p holds is taken. rest_of trace k n s m p (c.runs_go_on.ensures trace k n s) (c.text_stays.ensures.same trace k s) (c.text_stays.ensures.after trace k s holds) is taken
