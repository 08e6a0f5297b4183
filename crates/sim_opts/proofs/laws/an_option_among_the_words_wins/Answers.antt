use Rattle.sim_opts.proofs.Together.{words_win, lines_hold}
use Rattle.sim_opts.proofs.laws.an_option_among_the_words_wins.Goals as goal

pub returns-clause-words : goal.returns-clause-words
returns-clause-words c = λ words lines name row known given. words_win words lines name row known given

pub returns-clause-configuration : goal.returns-clause-configuration
returns-clause-configuration c = λ words lines number none. lines_hold words lines number none
