use Rattle.std.proofs.Common.{◌≡◌}
use Rattle.watched_commit.proofs.Loop.{Within}
use Rattle.watched_commit.proofs.stage.commit_rows.Given as goal

abbrev pub invariant-loop-commits : goal.invariant-loop-commits
invariant-loop-commits g l =
    Within g.W.Watch.took l.trace l.cycle l.most l.commits l.fn.parts l.parts l.fn.stats l.stats l.fn.watch l.watch
    × (g.W.Watch.faults l.watch ≡ g.W.Watch.faults l.fn.watch)
    × (g.W.Watch.takes_no_memory l.fn.watch → g.W.Watch.takes_no_memory l.watch)
