use Rattle.ooo_plain.proofs.commit.commit_until.Goals as goal

pub returns-clause-last : goal.returns-clause-last
returns-clause-last c = λ set olds e k. ((c.commit_until_from.ensures set e).sweep olds k).last

pub returns-clause-rows : goal.returns-clause-rows
returns-clause-rows c = λ set olds e k. ((c.commit_until_from.ensures set e).sweep olds k).rows
