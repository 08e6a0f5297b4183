use Rattle.pisa_step.proofs.Going.{goes_on}
use Rattle.pisa_step.proofs.laws.effects_go_where_control_says.Goals as goal

pub returns : goal.returns
returns c s i pc text e is = goes_on s i pc text e is
