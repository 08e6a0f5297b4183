use Rattle.pisa_step.proofs.PartLoads.{little_words, big_words}
use Rattle.pisa_step.proofs.laws.part_loads_make_words.Goals as goal

pub returns-clause-little : goal.returns-clause-little
returns-clause-little c s a old is small below = little_words s a old is small below

pub returns-clause-big : goal.returns-clause-big
returns-clause-big c s a old is small below = big_words s a old is small below
