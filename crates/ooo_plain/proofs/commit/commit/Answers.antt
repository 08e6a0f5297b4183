use Rattle.ooo_plain.proofs.commit.commit.Goals as goal

pub returns : goal.returns
returns c = λ set olds e k. (c.commit_from.ensures set e).sweep olds k
