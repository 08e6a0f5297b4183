use Rattle.sim_safe.proofs.Starting.{state_at_entry}
use Rattle.sim_safe.proofs.arch.Arch.at_entry.Goals as goal

pub returns-clause-state : goal.returns-clause-state
returns-clause-state c = state_at_entry c.args.image c.args.mem
