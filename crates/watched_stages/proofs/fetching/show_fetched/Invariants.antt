use Rattle.std.proofs.Common.{◌≡◌, map, drop}
use Rattle.core_watch.proofs.Events.{Goes}
use Rattle.watched_stages.specs.Watched.{fetch_event}
use Rattle.watched_stages.proofs.fetching.show_fetched.Given as goal

abbrev pub invariant-loop-fetched : goal.invariant-loop-fetched
invariant-loop-fetched g l =
    Goes g.W.Watch.took g.W.Watch.cut l.fn.watch (map (fetch_event l.cycle) l.rows) (map (fetch_event l.cycle) (drop l.fetched-index l.rows)) l.watch
    × (g.W.Watch.faults l.watch ≡ g.W.Watch.faults l.fn.watch)
    × (g.W.Watch.takes_no_memory l.fn.watch → g.W.Watch.takes_no_memory l.watch)
