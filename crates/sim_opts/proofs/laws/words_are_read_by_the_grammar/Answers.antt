use Rattle.sim_opts.proofs.Grammar.{ask_iff_read}
use Rattle.sim_opts.proofs.laws.words_are_read_by_the_grammar.Goals as goal

pub returns : goal.returns
returns c = λ words a. ask_iff_read words a
