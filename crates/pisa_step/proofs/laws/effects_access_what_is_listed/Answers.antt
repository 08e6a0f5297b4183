use Rattle.pisa_step.proofs.Going.{accesses, nothing_loaded}
use Rattle.pisa_step.proofs.laws.effects_access_what_is_listed.Goals as goal

pub returns-clause-access : goal.returns-clause-access
returns-clause-access c s i pc text e is = accesses s i pc text e is

pub returns-clause-loaded : goal.returns-clause-loaded
returns-clause-loaded c o other = nothing_loaded o other
