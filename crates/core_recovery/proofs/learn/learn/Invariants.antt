use Rattle.std.proofs.Common.{◌≡◌, drop}
use Rattle.std.specs.Prelude.{reverse}
use Rattle.core_parts.specs.Fits.{queue_tags, unit_tags}
use Rattle.core_recovery.specs.Recovery.{learned_of}
use Rattle.core_recovery.proofs.learn.learn.Given as goal

abbrev pub invariant-loop-at : goal.invariant-loop-at
invariant-loop-at l =
    (learned_of l.cycle l.unit.rows (drop l.at (reverse l.addresses.rows)) l.queue ≡ learned_of l.cycle l.unit.rows (reverse l.addresses.rows) l.fn.queue)
    × (queue_tags l.queue.entries ≡ unit_tags l.unit.rows)
