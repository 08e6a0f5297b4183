use Rattle.shown_run.proofs.Stays as stays
use Rattle.shown_run.proofs.laws.items_stay.Goals as goal

pub returns : goal.returns
returns c = stays.items_stay
