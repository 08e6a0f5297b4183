-- Along a wrong path a copy is read, and overlays that stand for the same effects are read alike.
use Rattle.std.proofs.Common.{◌≡◌, ℕ, List, [], ◌∷◌, Ok, Err, ap, sym, ◌∙◌}
use Rattle.pisa_isa.specs.declared.instr.Instr.{Instr}
use Rattle.pisa_step.specs.declared.changes.Changes.{Changes}
use Rattle.pisa_step.specs.declared.changes.TextRange.{TextRange}
use Rattle.pisa_step.specs.Reader.{Reader}
use Rattle.pisa_step.specs.Effect.{effect_of}
use Rattle.spec_state.specs.Laws.{IsAlike, ReadsAlong, effects_along, with_effect}
use Rattle.spec_state.specs.Overlay.{Overlaid, StandsFor, after}

pub reads_along : (text : TextRange) (s : Reader) (path : List (Instr × ℕ)) (x : Instr × ℕ) (o : Overlaid) → StandsFor o (effects_along text s path) → ReadsAlong text s path x o
unfolding effects_along
reads_along text s path x o stands =
    let there = λ (r : Reader). effect_of r x.0 x.1 text in
    record {
      reads = stands.reads s;
      acts = λ e is. ap (λ answer. with_effect answer (effects_along text s path)) (sym (ap there (stands.reads s)) ∙ is);
      stops = λ cause is. ap (λ answer. with_effect answer (effects_along text s path)) (sym (ap there (stands.reads s)) ∙ is);
    }

pub stand_alike : (effects : List Changes) (o p : Overlaid) → StandsFor o effects → StandsFor p effects → IsAlike o p
stand_alike effects o p h k = record { reads = λ s. h.reads s ∙ sym (k.reads s); applied = h.applied ∙ sym k.applied }
