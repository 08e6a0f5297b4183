use Rattle.std.proofs.Common.{◌≡◌, ◌∙◌, ap, refl}
use Rattle.std.specs.Prelude.{◌&&◌, is_none}
use Rattle.std.specs.List.{list_any}
use Rattle.ooo_table.specs.Row.{is_at}
use Rattle.ooo_table.specs.Recovery.{recovers}
use Rattle.ooo_plain.specs.Kept.{written_of}
use Rattle.ooo_plain.proofs.Lists.{list_any-kept}
use Rattle.ooo_plain.proofs.recover.is_squashed.Goals as goal

pub returns : goal.returns
returns c = λ set olds r k i.
    let any = c.any_recovers.ensures ∙ list_any-kept set (λ o. o.mispredicted && is_at c.args.cycle (written_of o)) (recovers set c.args.cycle) (λ o. refl) c.args.older.now olds k in
    c.both.ensures ∙ (ap (λ b. b && c.is_unset.result) any ∙ ap (λ b. list_any (recovers set c.args.cycle) olds && b) (c.is_unset.ensures ∙ ap (λ x. is_none x.squashed) i))
