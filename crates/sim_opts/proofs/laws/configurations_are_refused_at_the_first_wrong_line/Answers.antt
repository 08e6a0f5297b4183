use Rattle.sim_opts.proofs.LineGrammar.{wrong_iff_read}
use Rattle.sim_opts.proofs.laws.configurations_are_refused_at_the_first_wrong_line.Goals as goal

pub returns : goal.returns
returns c = λ tool lines number reason. wrong_iff_read tool lines number reason
