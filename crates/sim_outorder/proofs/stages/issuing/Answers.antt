use Rattle.sim_outorder.proofs.Joined.{issue_on, issue_cut}
use Rattle.sim_outorder.proofs.stages.issuing.Goals as goal

pub returns-in-Ok-clause-cycle : goal.returns-in-Ok-clause-cycle
returns-in-Ok-clause-cycle g c =
    issue_on g.W.Watch.took g.W.Watch.cut c.args.trace.now c.args.cycle c.args.parts.now c.issue.new.parts c.dispatching.new.parts c.args.stats.now c.issue.new.stats c.dispatching.new.stats c.args.watch.now c.issue.new.watch c.dispatching.new.watch c.in-Ok.field-0 c.dispatching.result
    c.in-Ok.ensures.issues c.dispatching.ensures.cycle

pub returns-in-Err-clause-cycle : goal.returns-in-Err-clause-cycle
returns-in-Err-clause-cycle g c =
    issue_cut g.W.Watch.took g.W.Watch.cut c.args.trace.now c.args.cycle c.args.parts.now c.issue.new.parts c.args.stats.now c.issue.new.stats c.args.watch.now c.issue.new.watch c.in-Err.fault c.in-Err.ensures.issues
