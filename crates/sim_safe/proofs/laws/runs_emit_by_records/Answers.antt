use Rattle.sim_safe.proofs.Emitting.{emits_by_records}
use Rattle.sim_safe.proofs.laws.runs_emit_by_records.Goals as goal

pub returns : goal.returns
returns c = emits_by_records
