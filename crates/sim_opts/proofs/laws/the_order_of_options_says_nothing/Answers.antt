use Rattle.sim_opts.proofs.Order.{same_said}
use Rattle.sim_opts.proofs.laws.the_order_of_options_says_nothing.Goals as goal

pub returns : goal.returns
returns c = λ tool operands first second same. same_said tool operands first second same
