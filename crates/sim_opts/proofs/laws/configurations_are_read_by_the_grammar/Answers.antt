use Rattle.sim_opts.proofs.LineGrammar.{lines_iff_read}
use Rattle.sim_opts.proofs.laws.configurations_are_read_by_the_grammar.Goals as goal

pub returns : goal.returns
returns c = λ tool lines settings. lines_iff_read tool lines settings
