use Rattle.std.proofs.Common.{◌≡◌, ◌∙◌, sym}
use Rattle.pisa_isa.specs.declared.places.Place.TheVariants as place
use Rattle.ooo_table.specs.Done.{producer, has_produced}
use Rattle.ooo_plain.proofs.Lists.{all_next, all_fails}
use Rattle.ooo_plain.proofs.done.+have_produced.Goals as goal

pub returns-then-has_produced : goal.returns-then-has_produced
returns-then-has_produced t c = λ set olds r k e.
    all_next (λ p. has_produced set c.args.cycle (producer set olds r p)) c.args.places.now (place.Reg 0) c.in-len1-up.len_at_least
    (sym (c.has_produced.ensures set olds r k e) ∙ c.if-has_produced.true) c.have_produced.result (c.have_produced.ensures set olds r k e)

pub returns-else-has_produced : goal.returns-else-has_produced
returns-else-has_produced t c = λ set olds r k e.
    all_fails (λ p. has_produced set c.args.cycle (producer set olds r p)) c.args.places.now (place.Reg 0) c.in-len1-up.len_at_least
    c.has_produced.result (c.has_produced.ensures set olds r k e) c.if-has_produced.false
