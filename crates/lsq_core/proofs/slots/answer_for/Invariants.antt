use Rattle.std.proofs.Common.{◌≡◌, take}
use Rattle.std.specs.List.{list_any}
use Rattle.lsq_core.specs.Queue.{oldest, forbids, forwards}
use Rattle.lsq_core.specs.Slots.{entries_of, answer_for}
use Rattle.lsq_core.proofs.slots.answer_for.Given as goal

abbrev pub invariant-loop-at : goal.invariant-loop-at
invariant-loop-at l =
    (l.forbidding ≡ oldest (forbids l.cycle l.block) (entries_of (take l.at l.slots.items)))
    × (l.forwarded ≡ list_any (forwards l.block) (entries_of (take l.at l.slots.items)))
    × (l.answer ≡ answer_for l.cycle l.block l.row (entries_of (take l.at l.slots.items)))
