use Rattle.std.proofs.Common.{◌≡◌, take, drop, ◌++◌}
use Rattle.std.specs.Prelude.{map}
use Rattle.ruu_core.specs.Slots.{source_after}
use Rattle.ruu_core.proofs.slot.note_all.Given as goal

abbrev pub invariant-loop-source : goal.invariant-loop-source
invariant-loop-source l =
    l.sources ≡ map (source_after l.event) (take l.source-index l.initial.sources) ++ drop l.source-index l.initial.sources
