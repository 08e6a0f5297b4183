use Rattle.std.proofs.Common.{◌≡◌, refl}
use Rattle.answers.specs.Judging.{JudgesObject}
use Rattle.answers.specs.JudgingLaws.{comes_refused, refuses_map, object_judged, object_never}
use Rattle.journal.specs.Loading.{comes_now}
use Rattle.object_commands.specs.Outcome.{listing_made}
use Rattle.object_commands.proofs.listing.list_found.Goals as goal

pub returns-in-Ok : goal.returns-in-Ok
returns-in-Ok g c =
    let program = c.args.object.now in
    let made = listing_made c.in-Ok.image.text in
    comes_now _ _ _ _ _ made _ (λ fs. object_judged program made (λ image. made ≡ listing_made image.text) c.in-Ok.image c.in-Ok.ensures.judged refl) c.list.ensures

pub returns-in-Err : goal.returns-in-Err
returns-in-Err g c =
    let program = c.args.object.now in
    comes_refused _ _ _ _ _ c.in-Err.refusal _
    (λ fs. refuses_map c.in-Err.refusal (λ o. JudgesObject program o (λ _. ⊥)) (λ o. JudgesObject program o (λ image. o ≡ listing_made image.text)) (λ o. object_never program o (λ image. o ≡ listing_made image.text)) c.in-Err.ensures.judged)
    c.refuse.ensures
