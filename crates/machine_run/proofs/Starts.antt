-- A machine that starts from a state, with a hierarchy and a predictor that were asked nothing.
use Rattle.std.specs.Prelude.{◌<◌, ◌^◌, [], Result, Ok, Err, IfOk}
use Rattle.std.proofs.Common.{refl, arith}
use Rattle.event_trace.specs.declared.trace.Trace.{Trace}
use Rattle.sim_safe.specs.State.{State, Storage, state_of}
use Rattle.mem_hier.specs.Stands as hierarchy
use Rattle.mem_hier.specs.Stands.{Held, references_of}
use Rattle.mem_hier.specs.declared.config.HierConfig.{HierConfig}
use Rattle.bpred_unit.specs.declared.predictor.Predictor.{Predictor}
use Rattle.bpred_unit.specs.Stands as predictor
use Rattle.ooo_table.specs.MachineLaws.{IsSound}
use Rattle.sim_outorder.specs.declared.machine.Core.{Core}
use Rattle.sim_outorder.specs.Running.{Begins, StandsFor}
use Rattle.machine_run.specs.declared.plan.MachineConfig.{MachineConfig}
use Rattle.machine_run.specs.Plan.{IsAllowed, given_at}

pub no_references : (h : Held) (c : HierConfig) → hierarchy.StandsFor h c [] → references_of h < 2 ^ 59
no_references h c stands = omega (arith, stands.references)

pub stands_at_start : (c : MachineConfig) (m : Storage) (h : Held) (v : Predictor) (core : Core) → hierarchy.StandsFor h c.hier [] → predictor.StandsFor v c.pred [] → Begins c.ooo m h v core
    → (trace : Trace) → StandsFor (given_at c trace (state_of m)) core
stands_at_start c m h v core caches branches begins trace =
    begins.stands (given_at c trace (state_of m)) (record { config = refl; start = refl; references = caches; events = branches })

pub all_stand : {E : Type 0} (c : MachineConfig) (m : Storage) (h : Held) (v : Predictor) (r : Result Core E) → hierarchy.StandsFor h c.hier [] → predictor.StandsFor v c.pred []
    → IfOk r (λ core. Begins c.ooo m h v core) → IfOk r (λ core. (trace : Trace) → StandsFor (given_at c trace (state_of m)) core)
all_stand c m h v (Ok core) caches branches begins = stands_at_start c m h v core caches branches begins
all_stand c m h v (Err e) caches branches begins = begins

pub is_sound : (c : MachineConfig) (trace : Trace) (s : State) → IsAllowed c → IsSound (given_at c trace s)
is_sound c trace s allowed = record { config = allowed.ooo; hier = allowed.hier; rise = tt }
