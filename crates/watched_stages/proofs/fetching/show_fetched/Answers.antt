use Rattle.std.proofs.Common.{◌+◌, map, drop, ◌∙◌}
use Rattle.watched_stages.specs.Watched.{fetch_event}
use Rattle.watched_stages.proofs.Showing.{goes_on, goes_short, goes_over, event_next, event_none}
use Rattle.watched_stages.proofs.fetching.show_fetched.Goals as goal

pub loop-fetched-preserved : goal.loop-fetched-preserved
loop-fetched-preserved g c = (
  goes_on g.W.Watch.took g.W.Watch.cut c.args.watch.now c.loop-fetched.watch c.event.new.self (map (fetch_event c.args.cycle) c.args.rows.now) (map (fetch_event c.args.cycle) (drop c.loop-fetched.fetched-index c.args.rows.now)) (map (fetch_event c.args.cycle) (drop (c.loop-fetched.fetched-index + 1) c.args.rows.now)) c.fetch_event.result
      (event_next (fetch_event c.args.cycle) c.args.rows.now c.loop-fetched.fetched-index (record { row = 0; pc = 0; a = 0; b = 0; next = 0; top = 0; fetched = 0; queued = 0 }) c.fetch_event.result c.loop-fetched-test.true c.fetch_event.ensures) c.loop-fetched.invariant.0 c.in-Ok.ensures.took,
  c.in-Ok.ensures.count ∙ c.loop-fetched.invariant.1,
  λ n. c.in-Ok.ensures.memory (c.loop-fetched.invariant.2 n),
)

pub returns-in-Err-clause-took : goal.returns-in-Err-clause-took
returns-in-Err-clause-took g c =
    goes_short g.W.Watch.took g.W.Watch.cut c.args.watch.now c.loop-fetched.watch c.event.new.self (map (fetch_event c.args.cycle) c.args.rows.now) (map (fetch_event c.args.cycle) (drop c.loop-fetched.fetched-index c.args.rows.now)) (map (fetch_event c.args.cycle) (drop (c.loop-fetched.fetched-index + 1) c.args.rows.now)) c.fetch_event.result
    (event_next (fetch_event c.args.cycle) c.args.rows.now c.loop-fetched.fetched-index (record { row = 0; pc = 0; a = 0; b = 0; next = 0; top = 0; fetched = 0; queued = 0 }) c.fetch_event.result c.loop-fetched-test.true c.fetch_event.ensures) c.loop-fetched.invariant.0 c.in-Err.ensures.took

pub returns-clause-took : goal.returns-clause-took
returns-clause-took g c =
    goes_over g.W.Watch.took g.W.Watch.cut c.args.watch.now c.loop-fetched.watch (map (fetch_event c.args.cycle) c.args.rows.now) (map (fetch_event c.args.cycle) (drop c.loop-fetched.fetched-index c.args.rows.now))
    (event_none (fetch_event c.args.cycle) c.args.rows.now c.loop-fetched.fetched-index c.loop-fetched-test.false) c.loop-fetched.invariant.0
