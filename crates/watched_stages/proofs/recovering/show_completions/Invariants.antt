use Rattle.std.proofs.Common.{◌≡◌, true, None}
use Rattle.ruu_core.specs.Window.{rises_to}
use Rattle.core_recovery.proofs.Least.{above_count}
use Rattle.core_watch.proofs.Events.{Goes}
use Rattle.watched_stages.specs.Watched.{completions_above}
use Rattle.watched_stages.proofs.recovering.show_completions.Given as goal

abbrev pub invariant-loop-row : goal.invariant-loop-row
invariant-loop-row g l =
    (rises_to l.unit.last l.unit.rows ≡ true)
    × Goes g.W.Watch.took g.W.Watch.cut l.fn.watch (completions_above l.cycle None l.unit.rows) (completions_above l.cycle l.after l.unit.rows) l.watch
    × (g.W.Watch.faults l.watch ≡ g.W.Watch.faults l.fn.watch)
    × (g.W.Watch.takes_no_memory l.fn.watch → g.W.Watch.takes_no_memory l.watch)

abbrev pub decreases-loop-row : goal.decreases-loop-row
decreases-loop-row g l = above_count l.after l.unit.rows
