use Rattle.sim_safe.proofs.commit.push_lo.Goals as goal

pub returns-in-Some-clause-ok : goal.returns-in-Some-clause-ok
returns-in-Some-clause-ok c = rw c.in-Some.is c.push_at.ensures.ok
