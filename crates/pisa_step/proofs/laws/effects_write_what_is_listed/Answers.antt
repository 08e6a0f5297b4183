use Rattle.pisa_step.proofs.Writing.{as_listed, others_stay}
use Rattle.pisa_step.proofs.laws.effects_write_what_is_listed.Goals as goal

pub returns-clause-listed : goal.returns-clause-listed
returns-clause-listed c s i pc text e is = as_listed s i pc text e is

pub returns-clause-others : goal.returns-clause-others
returns-clause-others c s i pc text e p is absent = others_stay s i pc text e p is absent
