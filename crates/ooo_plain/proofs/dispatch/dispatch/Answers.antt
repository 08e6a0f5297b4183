use Rattle.ooo_plain.proofs.dispatch.dispatch.Goals as goal

pub returns : goal.returns
returns c = λ set olds e k. (c.dispatch_from.ensures set e).sweep olds k
