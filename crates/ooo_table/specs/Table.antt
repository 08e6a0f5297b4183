-- What is fixed for a run, and what the table holds between two stages.
use Rattle.std.specs.Prelude.{ℕ, Bool, List}
use Rattle.pisa_isa.specs.declared.instr.Instr.{Instr}
use Rattle.sim_safe.specs.State.{State}
use Rattle.mem_hier.specs.Replay.{Reference}
use Rattle.bpred_unit.specs.History.{Event}
use Rattle.bpred_unit.specs.declared.predictor.Look.{Look}
use Rattle.ooo_table.specs.declared.config.OooConfig.{OooConfig}
use Rattle.ooo_table.specs.Row.{Row}
use Rattle.ooo_table.specs.Execution.{Execution}

-- The rules of the table are over any functional machine, latencies and predictions: `specs/Machine.antt` has those of
-- this processor. Histories have the newest item first.
pub record Setting : Type 0 where
  pub config : OooConfig
  -- the state at which the timed part of a run starts
  pub start : State
  -- what the hierarchy and the predictor were asked before
  pub start_references : List Reference
  pub start_events : List Event
  -- an instruction stands at the address
  pub is_text : ℕ → Bool
  -- the instruction that is looked up at an address
  pub instruction : ℕ → Instr
  -- what the instruction at an address does at a state
  pub execute : State → ℕ → Execution
  -- the latency of a reference after a history
  pub latency : Reference → List Reference → ℕ
  -- what a lookup of the first level of fetches takes
  pub fetch_hit : ℕ
  -- what a look-up of the instruction at an address answers after a history
  pub look : ℕ → List Event → Look

-- the row that is fetched next: its address, the earliest cycle of its fetch, whether it is right, the state on which it acts
pub record NextFetch : Type 0 where
  pub pc : ℕ
  pub earliest : ℕ
  pub right : Bool
  pub state : State

pub record Table : Type 0 where
  pub rows : List Row
  pub next_fetch : NextFetch
  -- the references and the predictor events of the cycles that are over
  pub references : List Reference
  pub predictor_events : List Event
