use Rattle.sim_opts.proofs.Numbers.{number_iff_decimal}
use Rattle.sim_opts.proofs.laws.numbers_have_one_word.Goals as goal

pub returns : goal.returns
returns c = λ word n. number_iff_decimal word n
