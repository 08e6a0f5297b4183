use Rattle.std.proofs.Common.{sym, subst}
use Rattle.answers.specs.declared.refusal.Refusal.{Refusal}
use Rattle.answers.specs.Judging.{Refuses}
use Rattle.sim_opts.specs.Options.{said_in}
use Rattle.sim_opts.specs.Configuration.{configuration}
use Rattle.sim_opts.specs.Request.{Request}
use Rattle.sim_opts.specs.RequestLaws.{configuration_asks}
use Rattle.sim_opts.proofs.Starts.{configured_starts}
use Rattle.sim_main.specs.Parts.{ComesByRequest}
use Rattle.sim_main.proofs.Asked.{refused_text}
use Rattle.sim_main.proofs.request.do_configured.Goals as goal

pub do_asked-requires : goal.do_asked-requires
do_asked-requires g c = configured_starts (configuration c.args.options.tool c.args.text.now) (said_in c.args.options) (said_in c.read_config.new.o) c.in-Ok.ensures c.requires.start

pub returns-in-Ok : goal.returns-in-Ok
returns-in-Ok g c =
    subst (λ (x : Request). ComesByRequest g.O.Outside.view c.args.outside.now x c.do_asked.new.outside c.do_asked.result)
    (sym (configuration_asks c.args.words c.args.text.now (said_in c.args.options) (said_in c.read_config.new.o) c.in-Ok.ensures)) c.do_asked.ensures

pub returns : goal.returns
returns g c =
    refused_text g.O.Outside.view c.args.outside.now c.refuse.new.outside c.args.words c.args.text.now (said_in c.args.options) (said_in c.read_config.new.o) c.in-Err.fault c.refuse.result c.in-Err.ensures
    (subst (λ (x : Refusal). Refuses g.O.Outside.view c.args.outside.now x c.refuse.new.outside c.refuse.result) c.from.ensures c.refuse.ensures)
