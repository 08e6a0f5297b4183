use Rattle.std.proofs.Common.{◌∙◌, ap, refl, arith}
use Rattle.std.specs.Prelude.{slice_set}
use Rattle.std.proofs.lemmas.Option.{get_or_from_slice_get}
use Rattle.ruu_core.specs.Slots.{source_after}
use Rattle.ruu_core.proofs.Walks.{step_each}
use Rattle.ruu_core.proofs.slot.note_all.Goals as goal

pub loop-source-preserved : goal.loop-source-preserved
loop-source-preserved c =
    step_each (source_after c.args.event.now) c.args.sources.now c.loop-source.sources (slice_set c.loop-source.sources c.loop-source.source-index c.note.new.self) c.loop-source.source-index c.note.new.self (omega arith) c.loop-source.invariant
    (λ x e. c.note.ensures ∙ ap (source_after c.args.event.now) (get_or_from_slice_get c.loop-source.sources c.loop-source.source-index x _ e)) refl

pub note-requires : goal.note-requires
note-requires c = c.requires
