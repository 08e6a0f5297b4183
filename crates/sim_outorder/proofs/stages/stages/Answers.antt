use Rattle.std.proofs.Common.{subst}
use Rattle.std.specs.Prelude.{Ok}
use Rattle.watched_commit.specs.declared.stage.Committed.{Committed}
use Rattle.watched_commit.specs.Stage.{CommitsRows, Watched}
use Rattle.sim_outorder.proofs.Joined.{commits_on, commits_cut}
use Rattle.sim_outorder.proofs.stages.stages.Goals as goal

pub returns-in-Ok-All-clause-cycle : goal.returns-in-Ok-All-clause-cycle
returns-in-Ok-All-clause-cycle g c =
    commits_on g.W.Watch.took g.W.Watch.cut g.W.Watch.faults g.W.Watch.means g.W.Watch.takes_no_memory c.args.trace.now c.args.cycle c.args.most c.in-Ok-All.field-0-0
    c.args.parts.now c.commit_rows.new.parts c.recovering.new.parts c.args.stats.now c.count_cycle.new.self c.commit_rows.new.stats c.recovering.new.stats
    c.args.watch.now c.commit_rows.new.watch c.recovering.new.watch c.recovering.result c.count_cycle.ensures
    (subst (λ (a : Committed). CommitsRows {F = g.row.W-Fault.Denot} c.args.cycle c.args.most c.args.parts.now c.commit_rows.new.parts c.count_cycle.new.self c.commit_rows.new.stats (Ok a)) c.in-Ok-All.field-0-is c.in-Ok-All.ensures.rows)
    (subst
    (λ (a : Committed). Watched g.W.Watch.took g.W.Watch.cut g.W.Watch.faults g.W.Watch.means g.W.Watch.takes_no_memory c.args.trace.now c.args.cycle c.args.most c.args.parts.now c.args.watch.now c.commit_rows.new.watch (Ok a))
    c.in-Ok-All.field-0-is c.in-Ok-All.ensures.watch)
    c.recovering.ensures.cycle

pub returns-in-Err-clause-cycle : goal.returns-in-Err-clause-cycle
returns-in-Err-clause-cycle g c =
    commits_cut g.W.Watch.took g.W.Watch.cut g.W.Watch.faults g.W.Watch.means g.W.Watch.takes_no_memory c.args.trace.now c.args.cycle c.args.most c.args.parts.now c.commit_rows.new.parts c.args.stats.now c.commit_rows.new.stats c.args.watch.now c.commit_rows.new.watch c.in-Err.fault
    c.in-Err.ensures.watch
