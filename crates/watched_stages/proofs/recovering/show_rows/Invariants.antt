use Rattle.std.proofs.Common.{◌≡◌, ◌-◌, map}
use Rattle.std.specs.List.{range_with_len}
use Rattle.core_watch.proofs.Events.{Goes}
use Rattle.core_events.specs.Recoveries.{squash_event}
use Rattle.watched_stages.proofs.recovering.show_rows.Given as goal

abbrev pub invariant-loop-row : goal.invariant-loop-row
invariant-loop-row g l =
    Goes g.W.Watch.took g.W.Watch.cut l.fn.watch (map (squash_event l.cycle) (range_with_len l.first (l.next - l.first))) (map (squash_event l.cycle) (range_with_len l.row (l.next - l.row))) l.watch
    × (g.W.Watch.faults l.watch ≡ g.W.Watch.faults l.fn.watch)
    × (g.W.Watch.takes_no_memory l.fn.watch → g.W.Watch.takes_no_memory l.watch)
