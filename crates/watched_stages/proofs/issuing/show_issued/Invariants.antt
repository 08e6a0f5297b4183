use Rattle.std.proofs.Common.{◌≡◌, map, drop}
use Rattle.core_watch.proofs.Events.{Goes}
use Rattle.watched_stages.specs.Watched.{issue_event}
use Rattle.watched_stages.proofs.issuing.show_issued.Given as goal

abbrev pub invariant-loop-done : goal.invariant-loop-done
invariant-loop-done g l =
    Goes g.W.Watch.took g.W.Watch.cut l.fn.watch (map (issue_event l.cycle) l.issued) (map (issue_event l.cycle) (drop l.done-index l.issued)) l.watch
    × (g.W.Watch.faults l.watch ≡ g.W.Watch.faults l.fn.watch)
    × (g.W.Watch.takes_no_memory l.fn.watch → g.W.Watch.takes_no_memory l.watch)
