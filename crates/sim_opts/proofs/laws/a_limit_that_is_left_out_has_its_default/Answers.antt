use Rattle.sim_opts.proofs.Order.{default_said}
use Rattle.sim_opts.proofs.laws.a_limit_that_is_left_out_has_its_default.Goals as goal

pub returns : goal.returns
returns c = λ tool operands settings none. default_said tool operands settings none
