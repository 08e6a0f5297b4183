use Rattle.std.proofs.Common.{◌+◌, map, drop, ◌∙◌}
use Rattle.core_parts.specs.declared.answers.Issued.TheVariants as issued
use Rattle.watched_stages.specs.Watched.{issue_event}
use Rattle.watched_stages.proofs.Showing.{goes_on, goes_short, goes_over, event_next, event_none}
use Rattle.watched_stages.proofs.issuing.show_issued.Goals as goal

pub loop-done-preserved : goal.loop-done-preserved
loop-done-preserved g c = (
  goes_on g.W.Watch.took g.W.Watch.cut c.args.watch.now c.loop-done.watch c.event.new.self (map (issue_event c.args.cycle) c.args.issued.now) (map (issue_event c.args.cycle) (drop c.loop-done.done-index c.args.issued.now)) (map (issue_event c.args.cycle) (drop (c.loop-done.done-index + 1) c.args.issued.now)) c.issue_event.result
      (event_next (issue_event c.args.cycle) c.args.issued.now c.loop-done.done-index (issued.Main 0) c.issue_event.result c.loop-done-test.true c.issue_event.ensures) c.loop-done.invariant.0 c.in-Ok.ensures.took,
  c.in-Ok.ensures.count ∙ c.loop-done.invariant.1,
  λ n. c.in-Ok.ensures.memory (c.loop-done.invariant.2 n),
)

pub returns-in-Err-clause-took : goal.returns-in-Err-clause-took
returns-in-Err-clause-took g c =
    goes_short g.W.Watch.took g.W.Watch.cut c.args.watch.now c.loop-done.watch c.event.new.self (map (issue_event c.args.cycle) c.args.issued.now) (map (issue_event c.args.cycle) (drop c.loop-done.done-index c.args.issued.now)) (map (issue_event c.args.cycle) (drop (c.loop-done.done-index + 1) c.args.issued.now)) c.issue_event.result
    (event_next (issue_event c.args.cycle) c.args.issued.now c.loop-done.done-index (issued.Main 0) c.issue_event.result c.loop-done-test.true c.issue_event.ensures) c.loop-done.invariant.0 c.in-Err.ensures.took

pub returns-clause-took : goal.returns-clause-took
returns-clause-took g c =
    goes_over g.W.Watch.took g.W.Watch.cut c.args.watch.now c.loop-done.watch (map (issue_event c.args.cycle) c.args.issued.now) (map (issue_event c.args.cycle) (drop c.loop-done.done-index c.args.issued.now))
    (event_none (issue_event c.args.cycle) c.args.issued.now c.loop-done.done-index c.loop-done-test.false) c.loop-done.invariant.0
