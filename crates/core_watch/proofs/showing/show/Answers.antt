use Rattle.std.proofs.Common.{◌∙◌}
use Rattle.ooo_table.specs.declared.event.Event.{Event}
use Rattle.ooo_table.specs.declared.event.Mark.TheVariants as mark
use Rattle.core_watch.proofs.Events.{goes_next, goes_cut, goes_end}
use Rattle.core_watch.proofs.showing.show.Goals as goal

abbrev default_event : Event
default_event = record { cycle = 0; row = 0; mark = mark.Fetched 0 0 0 }

pub loop-e-preserved : goal.loop-e-preserved
loop-e-preserved g c =
    (goes_next g.W.Watch.took g.W.Watch.cut c.args.watch.now c.loop-e.watch c.event.new.self c.args.es.now c.loop-e.e-index default_event c.loop-e-test.true c.loop-e.invariant.0 c.in-Ok.ensures.took, c.in-Ok.ensures.count ∙ c.loop-e.invariant.1, λ n. c.in-Ok.ensures.memory (c.loop-e.invariant.2 n))

pub returns-in-Err-clause-took : goal.returns-in-Err-clause-took
returns-in-Err-clause-took g c =
    goes_cut g.W.Watch.took g.W.Watch.cut c.args.watch.now c.loop-e.watch c.event.new.self c.args.es.now c.loop-e.e-index default_event c.loop-e-test.true c.loop-e.invariant.0 c.in-Err.ensures.took

pub returns-clause-took : goal.returns-clause-took
returns-clause-took g c =
    goes_end g.W.Watch.took g.W.Watch.cut c.args.watch.now c.loop-e.watch c.args.es.now c.loop-e.e-index c.loop-e-test.false c.loop-e.invariant.0
