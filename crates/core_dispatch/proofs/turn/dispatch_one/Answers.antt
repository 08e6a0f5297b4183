use Rattle.core_dispatch.proofs.Fitting.{fits_after}
use Rattle.core_dispatch.proofs.Turned.{dispatch_turn}
use Rattle.core_dispatch.proofs.turn.dispatch_one.Goals as goal

pub returns-clause-fits : goal.returns-clause-fits
returns-clause-fits c =
    fits_after c.args.trace.now c.args.cycle c.args.dispatched c.args.called c.args.parts.now c.take_turn.new.parts c.take_turn.result c.requires.fits c.take_turn.ensures.turn

pub returns-clause-stands : goal.returns-clause-stands
returns-clause-stands c =
    λ g sound same.
    dispatch_turn g sound c.args.trace.now same c.args.cycle c.args.dispatched c.args.called c.args.parts.now c.take_turn.new.parts c.take_turn.result c.requires.fits c.take_turn.ensures.turn
