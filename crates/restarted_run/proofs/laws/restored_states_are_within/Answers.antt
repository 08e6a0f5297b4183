use Rattle.restarted_run.proofs.Restored.{restored_within, restored_program}
use Rattle.restarted_run.proofs.laws.restored_states_are_within.Goals as goal

pub returns-clause-within : goal.returns-clause-within
returns-clause-within c = restored_within

pub returns-clause-program : goal.returns-clause-program
returns-clause-program c = λ p text is fits. restored_program p text is ((c.checks_are_exact.ensures p text).0 fits)
