use Rattle.std.proofs.Common.{◌+◌, ◌-◌, ◌/◌, arith}
use Rattle.ruu_core.proofs.Places.{place_up, place_down, place_within}
use Rattle.ruu_core.proofs.ring.halved.Goals as goal

pub halves-init : goal.halves-init
halves-init c = record {
  low = omega arith;
  high = omega (arith, place_within c.args.row c.args.slots.now.items, c.len-high.ensures.len);
  within = omega (arith, c.len-high.ensures.len);
}

pub halves-preserved-then-slot-row : goal.halves-preserved-then-slot-row
halves-preserved-then-slot-row c = record {
  low = omega (arith, place_up 0 c.args.row c.args.slots.now.items (c.halves.low + (c.halves.high - c.halves.low) / 2) c.slot_at-slot.result.now c.requires c.slot_at-slot.ensures c.if-slot-row.true);
  high = c.halves.invariant.high;
  within = c.halves.invariant.within;
}

pub halves-preserved : goal.halves-preserved
halves-preserved c = record {
  low = c.halves.invariant.low;
  high = place_down c.args.row c.args.slots.now.items (c.halves.low + (c.halves.high - c.halves.low) / 2) c.slot_at-slot.result.now c.slot_at-slot.ensures (omega (arith, c.if-slot-row.false));
  within = omega (arith, c.halves.invariant.within, c.halves-test.true);
}
