use Rattle.std.proofs.Common.{◌≡◌, refl}
use Rattle.answers.specs.JudgingLaws.{comes_refused, refuses_map}
use Rattle.journal.specs.Loading.{comes_now}
use Rattle.pisa_asm.specs.Passes.{described}
use Rattle.object_commands.specs.Outcome.{JudgesSource, object_made}
use Rattle.object_commands.specs.OutcomeLaws.{source_judged, source_never}
use Rattle.object_commands.proofs.assembling.assemble_found.Goals as goal

pub returns-in-Ok : goal.returns-in-Ok
returns-in-Ok g c =
    let object = c.args.object.now in
    let meaning = described c.args.source.now in
    let made = object_made object c.in-Ok.image in
    comes_now _ _ _ _ _ made _ (λ fs. source_judged meaning made (λ image. made ≡ object_made object image) c.in-Ok.image c.in-Ok.ensures.judged c.in-Ok.ensures.image refl) c.write_object.ensures

pub returns-in-Err : goal.returns-in-Err
returns-in-Err g c =
    let object = c.args.object.now in
    let meaning = described c.args.source.now in
    comes_refused _ _ _ _ _ c.in-Err.refusal _
    (λ fs. refuses_map c.in-Err.refusal (λ o. JudgesSource meaning o (λ _. ⊥)) (λ o. JudgesSource meaning o (λ image. o ≡ object_made object image)) (λ o. source_never meaning o (λ image. o ≡ object_made object image)) c.in-Err.ensures.judged)
    c.refuse.ensures
