use Rattle.sim_opts.proofs.Grammar.{asks_or_is_wrong}
use Rattle.sim_opts.proofs.laws.words_ask_for_something_or_are_wrong.Goals as goal

pub returns-clause-some : goal.returns-clause-some
returns-clause-some c = λ words. asks_or_is_wrong words
