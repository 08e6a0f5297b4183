use Rattle.sim_outorder.proofs.Joined.{recovery_on, recovery_cut}
use Rattle.sim_outorder.proofs.stages.recovering.Goals as goal

pub returns-in-Ok-clause-cycle : goal.returns-in-Ok-clause-cycle
returns-in-Ok-clause-cycle g c =
    recovery_on g.W.Watch.took g.W.Watch.cut c.args.trace.now c.args.cycle c.args.parts.now c.recover.new.parts c.issuing.new.parts c.args.stats.now c.recover.new.stats c.issuing.new.stats c.args.watch.now c.recover.new.watch c.issuing.new.watch c.in-Ok.field-0 c.issuing.result
    c.in-Ok.ensures.recovers c.issuing.ensures.cycle

pub returns-in-Err-clause-cycle : goal.returns-in-Err-clause-cycle
returns-in-Err-clause-cycle g c =
    recovery_cut g.W.Watch.took g.W.Watch.cut c.args.trace.now c.args.cycle c.args.parts.now c.recover.new.parts c.args.stats.now c.recover.new.stats c.args.watch.now c.recover.new.watch c.in-Err.fault c.in-Err.ensures.recovers
