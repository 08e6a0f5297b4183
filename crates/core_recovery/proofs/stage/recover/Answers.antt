use Rattle.std.proofs.Common.{ap, sym, subst}
use Rattle.std.specs.Prelude.{reverse}
use Rattle.core_recovery.proofs.Learns.{Keeps, learned_all_keeps}
use Rattle.core_recovery.proofs.Fitting.{fits_learned}
use Rattle.core_recovery.proofs.Stand.{turns_recover}
use Rattle.core_recovery.proofs.stage.recover.Goals as goal

pub returns-clause-fits : goal.returns-clause-fits
returns-clause-fits c =
    fits_learned c.args.cycle c.squash-recovered.new.parts c.learn.new.queue c.squash-recovered.ensures.fits
    (subst (Keeps c.squash-recovered.new.parts.queue) (sym c.learn.ensures) (learned_all_keeps c.args.cycle c.squash-recovered.new.parts.unit.rows (reverse c.squash-recovered.new.parts.addresses.rows) c.squash-recovered.new.parts.queue))

pub returns-clause-turn : goal.returns-clause-turn
returns-clause-turn c = record {
  squashed = c.squash-recovered.new.parts;
  squashes = c.squash-recovered.ensures.squashes;
  learns = ap (λ q. record c.squash-recovered.new.parts { queue = q }) c.learn.ensures;
}

pub returns-clause-stands : goal.returns-clause-stands
returns-clause-stands c =
    turns_recover c.args.cycle c.args.parts.now (record c.squash-recovered.new.parts { queue = c.learn.new.queue })
    (record {
      squashed = c.squash-recovered.new.parts;
      squashes = c.squash-recovered.ensures.squashes;
      learns = ap (λ q. record c.squash-recovered.new.parts { queue = q }) c.learn.ensures;
    })
