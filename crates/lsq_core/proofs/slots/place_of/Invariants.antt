use Rattle.std.proofs.Common.{◌≤◌, ◌-◌, length}
use Rattle.lsq_core.specs.Slots.{place_of}
use Rattle.lsq_core.proofs.slots.place_of.Given as goal

abbrev pub invariant-halves : goal.invariant-halves
invariant-halves l = record {
  low : l.low ≤ place_of l.row l.slots.items;
  high : place_of l.row l.slots.items ≤ l.high;
  within : l.high ≤ length l.slots.items;
}

abbrev pub decreases-halves : goal.decreases-halves
decreases-halves l = l.high - l.low
