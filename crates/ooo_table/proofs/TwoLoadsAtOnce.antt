-- The second load of a block hits at once.
use Rattle.std.proofs.Common.{ℕ, List, refl}
use Rattle.pisa_isa.specs.Coding.{operation_of}
use Rattle.pisa_step.specs.Effect.{effect_of}
use Rattle.sim_safe.specs.State.{start_state}
use Rattle.sim_safe.specs.Step.{step_of}
use Rattle.mem_hier.specs.Replay.{latency_of, calls_of, fetch_answer, data_answer, fetch_way, data_way, through, translated, last_access, written_back, first_access}
use Rattle.cache_core.specs.Replay.{touch_of, touched, lines_of, line_at}
use Rattle.bpred_unit.specs.History.{look_of}
use Rattle.ooo_table.specs.Path.{execution_of}
use Rattle.ooo_table.specs.Machine.{executed_at}
use Rattle.ooo_table.specs.WorkedTables.{TwoLoadsAtOnce}

pub shows : (args : List (List ℕ)) → TwoLoadsAtOnce args
unfolding start_state execution_of executed_at step_of effect_of operation_of latency_of calls_of fetch_answer data_answer fetch_way data_way through translated look_of last_access written_back first_access touch_of touched lines_of line_at
shows args = record { end = refl; rows = refl; counted = refl }
