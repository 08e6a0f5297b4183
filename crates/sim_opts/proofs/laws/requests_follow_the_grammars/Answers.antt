use Rattle.sim_opts.proofs.Asking.{alone, together, wrong_line, wrong_word}
use Rattle.sim_opts.proofs.laws.requests_follow_the_grammars.Goals as goal

pub returns-clause-alone : goal.returns-clause-alone
returns-clause-alone c = λ words a k. alone words a k

pub returns-clause-together : goal.returns-clause-together
returns-clause-together c = λ words text a settings k lines. together words text a settings k lines

pub returns-clause-line : goal.returns-clause-line
returns-clause-line c = λ words text a number reason k lines. wrong_line words text a number reason k lines

pub returns-clause-word : goal.returns-clause-word
returns-clause-word c = λ words text w built k. wrong_word words text w built k
