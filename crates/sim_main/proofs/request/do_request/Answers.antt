use Rattle.std.proofs.Common.{sym, subst}
use Rattle.std.specs.Prelude.{Ok}
use Rattle.sim_opts.specs.Borrowed.{request_in}
use Rattle.sim_opts.specs.declared.request.Request.{Request}
use Rattle.sim_main.specs.Parts.{ComesByRequest}
use Rattle.sim_main.proofs.Asked.{unbuilt_comes, wrong_comes}
use Rattle.sim_main.proofs.request.do_request.Goals as goal

pub returns-in-Words : goal.returns-in-Words
returns-in-Words g c =
    subst (λ (r : Request). ComesByRequest g.O.Outside.view c.args.outside.now (request_in r) c.refuse.new.outside c.refuse.result) (sym c.in-Words.is)
    (wrong_comes g.O.Outside.view c.args.outside.now c.refuse.new.outside c.in-Words.at c.in-Words.why c.refuse.result c.refuse.ensures)

pub returns-in-NotBuilt : goal.returns-in-NotBuilt
returns-in-NotBuilt g c =
    subst (λ (r : Request). ComesByRequest g.O.Outside.view c.args.outside.now (request_in r) c.args.outside.now (Ok c.not_built.result)) (sym c.in-NotBuilt.is)
    (unbuilt_comes g.O.Outside.view c.args.outside.now c.not_built.result c.not_built.ensures)
