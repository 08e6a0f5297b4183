use Rattle.core_commit.proofs.Fitting.{fits_after}
use Rattle.core_commit.proofs.Whole.{turn}
use Rattle.core_commit.proofs.turn.commit_one.Goals as goal

pub returns-clause-fits : goal.returns-clause-fits
returns-clause-fits c = fits_after c.args.cycle c.args.commits c.args.parts.now c.take_turn.new.parts c.take_turn.result c.requires c.take_turn.ensures

pub returns-clause-stands : goal.returns-clause-stands
returns-clause-stands c = λ g sound. turn g sound c.args.cycle c.args.commits c.args.parts.now c.take_turn.new.parts c.take_turn.result c.requires c.take_turn.ensures
