use Rattle.pisa_step.proofs.Reading.{same_effect}
use Rattle.pisa_step.proofs.laws.effects_depend_on_what_is_read.Goals as goal

pub returns : goal.returns
returns c s t i pc text formed same = same_effect s t i pc text formed same
