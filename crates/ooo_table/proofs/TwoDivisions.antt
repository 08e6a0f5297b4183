-- The second of two divisions issues 19 cycles after the first.
use Rattle.std.proofs.Common.{ℕ, List, refl}
use Rattle.pisa_isa.specs.Coding.{operation_of}
use Rattle.pisa_step.specs.Effect.{effect_of}
use Rattle.sim_safe.specs.State.{start_state}
use Rattle.sim_safe.specs.Step.{step_of}
use Rattle.mem_hier.specs.Replay.{latency_of, calls_of, fetch_answer, data_answer, fetch_way, data_way, through, translated}
use Rattle.bpred_unit.specs.History.{look_of}
use Rattle.ooo_table.specs.Path.{execution_of}
use Rattle.ooo_table.specs.Machine.{executed_at}
use Rattle.ooo_table.specs.WorkedTables.{TwoDivisions}

pub shows : (args : List (List ℕ)) → TwoDivisions args
unfolding start_state execution_of executed_at step_of effect_of operation_of latency_of calls_of fetch_answer data_answer fetch_way data_way through translated look_of
shows args = record { end = refl; rows = refl; counted = refl }
