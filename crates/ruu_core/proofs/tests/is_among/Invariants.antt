use Rattle.std.proofs.Common.{◌≡◌, take}
use Rattle.std.specs.Prelude.{reverse}
use Rattle.std.specs.List.{list_any}
use Rattle.ruu_core.specs.Slots.{slot_named}
use Rattle.ruu_core.proofs.tests.is_among.Given as goal

abbrev pub invariant-loop-at : goal.invariant-loop-at
invariant-loop-at l = l.among ≡ list_any (slot_named l.row) (reverse (take l.at l.slots.items))
