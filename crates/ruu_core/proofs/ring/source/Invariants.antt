use Rattle.std.proofs.Common.{◌≡◌, ◌≤◌, length, take}
use Rattle.std.specs.Prelude.{reverse}
use Rattle.ruu_core.specs.Slots.{source_behind}
use Rattle.ruu_core.proofs.ring.source.Given as goal

-- no slot from there on writes the place
abbrev pub invariant-loop-at : goal.invariant-loop-at
invariant-loop-at l = record {
  within : l.at ≤ length l.slots.items;
  passed : source_behind l.place (reverse l.slots.items) ≡ source_behind l.place (reverse (take l.at l.slots.items));
}
