use Rattle.sim_opts.proofs.Order.{written_read}
use Rattle.sim_opts.proofs.laws.written_options_are_read_back.Goals as goal

pub returns : goal.returns
returns c = λ tool settings operands may behind right. written_read tool settings operands may behind right
