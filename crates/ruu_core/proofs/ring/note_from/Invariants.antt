use Rattle.std.proofs.Common.{◌≡◌, take, drop, ◌++◌}
use Rattle.std.specs.Prelude.{map}
use Rattle.circular_buffer.specs.Buffer.{buffer}
use Rattle.ruu_core.proofs.Stays.{after_from}
use Rattle.ruu_core.proofs.ring.note_from.Given as goal

abbrev pub invariant-loop-at : goal.invariant-loop-at
invariant-loop-at l =
    l.slots ≡ buffer (map (after_from l.row l.event) (take l.at l.initial.slots.items) ++ drop l.at l.initial.slots.items) l.initial.slots.capacity
