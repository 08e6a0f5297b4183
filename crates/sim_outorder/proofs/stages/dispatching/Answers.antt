use Rattle.sim_outorder.proofs.Joined.{dispatch_on, dispatch_wants, dispatch_cut}
use Rattle.sim_outorder.proofs.stages.dispatching.Goals as goal

pub returns-in-Over-clause-cycle : goal.returns-in-Over-clause-cycle
returns-in-Over-clause-cycle g c =
    dispatch_on g.W.Watch.took g.W.Watch.cut c.args.trace.now c.args.cycle c.args.parts.now c.dispatch.new.parts c.fetching.new.parts c.args.stats.now c.dispatch.new.stats c.fetching.new.stats c.args.watch.now c.dispatch.new.watch c.fetching.new.watch c.fetching.result
    c.in-Over.ensures.dispatches c.fetching.ensures.cycle

pub returns-in-OutOfMemory-clause-cycle : goal.returns-in-OutOfMemory-clause-cycle
returns-in-OutOfMemory-clause-cycle g c =
    dispatch_wants g.W.Watch.took g.W.Watch.cut c.args.trace.now c.args.cycle c.args.parts.now c.dispatch.new.parts c.args.stats.now c.dispatch.new.stats c.args.watch.now c.dispatch.new.watch c.in-OutOfMemory.ensures.dispatches

pub returns-in-Watch-clause-cycle : goal.returns-in-Watch-clause-cycle
returns-in-Watch-clause-cycle g c =
    dispatch_cut g.W.Watch.took g.W.Watch.cut c.args.trace.now c.args.cycle c.args.parts.now c.dispatch.new.parts c.args.stats.now c.dispatch.new.stats c.args.watch.now c.dispatch.new.watch c.in-Watch.fault c.in-Watch.ensures.dispatches
