use Rattle.sim_opts.proofs.Together.{said_together}
use Rattle.sim_opts.proofs.laws.a_configuration_says_what_words_would.Goals as goal

pub returns : goal.returns
returns c = λ tool operands words lines. said_together tool operands words lines
