use Rattle.std.proofs.Common.{◌≡◌, List, ℕ, [], refl, subst}
use Rattle.journal.specs.Outcome.{Comes}
use Rattle.journal.specs.Loading.{comes_after, comes_too_long}
use Rattle.answers.specs.declared.answer.Answer.TheVariants as answer
use Rattle.answers.specs.Answer.{refused}
use Rattle.answers.specs.Judging.{JudgesObject}
use Rattle.object_commands.specs.Outcome.{listing_made}
use Rattle.object_commands.proofs.listing.dis.Goals as goal

pub returns-in-Ok-Whole : goal.returns-in-Ok-Whole
returns-in-Ok-Whole g c =
    comes_after _ _ c.find_file.new.outside _ _ _ c.in-Ok-Whole.bytes _ _ (rw c.in-Ok-Whole.field-0-is at c.in-Ok-Whole.ensures)
    (subst (λ (x : List ℕ). Comes g.O.Outside.view c.find_file.new.outside [] (λ _ o. JudgesObject x o (λ image. o ≡ listing_made image.text)) c.list_found.new.outside c.list_found.result) c.as_slice.ensures c.list_found.ensures)

pub returns-in-Ok-TooLong : goal.returns-in-Ok-TooLong
returns-in-Ok-TooLong g c =
    comes_too_long _ _ c.find_file.new.outside _ _ _ _ (refused (answer.TooLong c.args.object.now)) _ (rw c.in-Ok-TooLong.field-0-is at c.in-Ok-TooLong.ensures) (λ fs. refl) c.refuse_long.ensures
