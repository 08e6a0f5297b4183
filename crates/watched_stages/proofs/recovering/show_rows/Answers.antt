use Rattle.std.proofs.Common.{◌-◌, ◌+◌, map, refl, ◌∙◌}
use Rattle.std.specs.List.{range_with_len}
use Rattle.core_watch.proofs.Events.{goes_begin}
use Rattle.core_events.specs.Recoveries.{squash_event}
use Rattle.watched_stages.proofs.Showing.{goes_on, goes_short, goes_over}
use Rattle.watched_stages.proofs.Squashes.{squash_next, squash_none}
use Rattle.watched_stages.proofs.recovering.show_rows.Goals as goal

pub loop-row-init : goal.loop-row-init
loop-row-init g c = (goes_begin g.W.Watch.took g.W.Watch.cut c.args.watch.now (map (squash_event c.args.cycle) (range_with_len c.args.first (c.args.next - c.args.first))), refl, λ n. n)

pub loop-row-preserved : goal.loop-row-preserved
loop-row-preserved g c = (
  goes_on g.W.Watch.took g.W.Watch.cut c.args.watch.now c.loop-row.watch c.event.new.self (map (squash_event c.args.cycle) (range_with_len c.args.first (c.args.next - c.args.first))) (map (squash_event c.args.cycle) (range_with_len c.loop-row.row (c.args.next - c.loop-row.row))) (map (squash_event c.args.cycle) (range_with_len (c.loop-row.row + 1) (c.args.next - (c.loop-row.row + 1)))) (squash_event c.args.cycle c.loop-row.row)
      (squash_next c.args.cycle c.loop-row.row c.args.next c.loop-row-test.true) c.loop-row.invariant.0 c.in-Ok.ensures.took,
  c.in-Ok.ensures.count ∙ c.loop-row.invariant.1,
  λ n. c.in-Ok.ensures.memory (c.loop-row.invariant.2 n),
)

pub returns-in-Err-clause-took : goal.returns-in-Err-clause-took
returns-in-Err-clause-took g c =
    goes_short g.W.Watch.took g.W.Watch.cut c.args.watch.now c.loop-row.watch c.event.new.self (map (squash_event c.args.cycle) (range_with_len c.args.first (c.args.next - c.args.first))) (map (squash_event c.args.cycle) (range_with_len c.loop-row.row (c.args.next - c.loop-row.row))) (map (squash_event c.args.cycle) (range_with_len (c.loop-row.row + 1) (c.args.next - (c.loop-row.row + 1)))) (squash_event c.args.cycle c.loop-row.row)
    (squash_next c.args.cycle c.loop-row.row c.args.next c.loop-row-test.true) c.loop-row.invariant.0 c.in-Err.ensures.took

pub returns-clause-took : goal.returns-clause-took
returns-clause-took g c =
    goes_over g.W.Watch.took g.W.Watch.cut c.args.watch.now c.loop-row.watch (map (squash_event c.args.cycle) (range_with_len c.args.first (c.args.next - c.args.first))) (map (squash_event c.args.cycle) (range_with_len c.loop-row.row (c.args.next - c.loop-row.row)))
    (squash_none c.args.cycle c.loop-row.row c.args.next c.loop-row-test.false) c.loop-row.invariant.0
