use Rattle.ooo_plain.proofs.recover.squash.Goals as goal

pub returns : goal.returns
returns c = λ set olds k. (c.squash_from.ensures set).sweep olds k
