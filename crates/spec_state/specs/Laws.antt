-- What follows of overlays: the effects along a wrong path, and readings of overlays that stand for the same.
use Rattle.std.specs.Prelude.{◌≡◌, ℕ, List, [], ◌∷◌, Result, Ok, Err}
use Rattle.pisa_isa.specs.declared.instr.Instr.{Instr}
use Rattle.pisa_step.specs.declared.cause.Cause.{Cause}
use Rattle.pisa_step.specs.declared.changes.Changes.{Changes}
use Rattle.pisa_step.specs.declared.changes.TextRange.{TextRange}
use Rattle.pisa_step.specs.Reader.{Reader}
use Rattle.pisa_step.specs.Effect.{effect_of}
use Rattle.spec_state.specs.Overlay.{Overlaid, StandsFor, after, seen}

-- an instruction that would stop has no effect
abbrev pub with_effect : Result Changes Cause → List Changes → List Changes
with_effect (Ok e) older = e ∷ older
with_effect (Err cause) older = older

-- the effects of instructions that are done one after another on a copy of a machine, each at its own
-- address; the newest first, as the instructions are
unfoldable pub effects_along : TextRange → Reader → List (Instr × ℕ) → List Changes
effects_along text s [] = []
effects_along text s (x ∷ older) =
    with_effect (effect_of (after s (effects_along text s older)) x.0 x.1 text) (effects_along text s older)

-- an overlay that stands for the effects along a path reads as a copy on which the path was done, so the
-- next instruction has the effect that it has there, or none
pub record ReadsAlong (text : TextRange) (s : Reader) (path : List (Instr × ℕ)) (x : Instr × ℕ) (o : Overlaid) : Type 0 where
  pub reads : seen s o ≡ after s (effects_along text s path)
  pub acts : (e : Changes) → effect_of (seen s o) x.0 x.1 text ≡ Ok e → effects_along text s (x ∷ path) ≡ e ∷ effects_along text s path
  pub stops : (cause : Cause) → effect_of (seen s o) x.0 x.1 text ≡ Err cause → effects_along text s (x ∷ path) ≡ effects_along text s path

-- two overlays can't be told apart by what is read under them, or by how many effects were applied
pub record IsAlike (o p : Overlaid) : Type 0 where
  pub reads : (s : Reader) → seen s o ≡ seen s p
  pub applied : o.applied ≡ p.applied
