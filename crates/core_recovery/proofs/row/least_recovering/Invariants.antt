use Rattle.std.proofs.Common.{◌≡◌, true}
use Rattle.ruu_core.specs.Window.{next, rises_to}
use Rattle.core_recovery.specs.Recovery.{recovers, recovering_in}
use Rattle.core_recovery.proofs.Least.{above_count}
use Rattle.core_recovery.proofs.row.least_recovering.Given as goal

abbrev pub invariant-loop-row : goal.invariant-loop-row
invariant-loop-row l = (rises_to l.unit.last l.unit.rows ≡ true) × (next (recovers l.cycle) l.after l.unit.rows ≡ recovering_in l.cycle l.unit.rows)

abbrev pub decreases-loop-row : goal.decreases-loop-row
decreases-loop-row l = above_count l.after l.unit.rows
