use Rattle.std.proofs.Common.{subst}
use Rattle.core_recovery.specs.Recovery.{SquashesAny}
use Rattle.core_recovery.proofs.Fitting.{fits_after}
use Rattle.core_recovery.proofs.stage.squash.Goals as goal

pub returns-in-Some-clause-fits : goal.returns-in-Some-clause-fits
returns-in-Some-clause-fits c =
    fits_after c.args.cycle c.in-Some.row c.args.parts.now c.squash_after.new.parts c.room-room.ensures.rises c.requires c.squash_after.ensures

pub returns-in-Some-clause-squashes : goal.returns-in-Some-clause-squashes
returns-in-Some-clause-squashes c = subst (λ o. SquashesAny c.args.cycle o c.args.parts.now c.squash_after.new.parts) c.in-Some.ensures.row c.squash_after.ensures
