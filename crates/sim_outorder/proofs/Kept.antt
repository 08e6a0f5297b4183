-- What a core keeps from cycle to cycle.
use Rattle.std.proofs.Common.{◌≡◌, ℕ, ◌+◌, List, refl, sym, ap, ◌∙◌, subst}
use Rattle.std.specs.Prelude.{Result, Ok, Err}
use Rattle.event_trace.specs.declared.trace.Trace.{Trace}
use Rattle.sim_safe.specs.State.{Storage}
use Rattle.mem_hier.specs.Stands.{Held}
use Rattle.bpred_unit.specs.declared.predictor.Predictor.{Predictor}
use Rattle.ooo_table.specs.declared.config.OooConfig.{OooConfig}
use Rattle.core_parts.specs.declared.parts.Parts.{Parts}
use Rattle.core_parts.specs.Fits.{Fits}
use Rattle.core_start.specs.Start.{Starts}
use Rattle.core_watch.specs.Shown.{Shown}
use Rattle.core_statistics.specs.declared.stats.CoreStats.{CoreStats}
use Rattle.core_statistics.specs.Counted.{no_counts}
use Rattle.sim_outorder.specs.declared.answers.Turn.{Turn}
use Rattle.sim_outorder.specs.declared.answers.Turn.TheVariants as turn
use Rattle.sim_outorder.specs.declared.answers.CoreFault.{CoreFault}
use Rattle.sim_outorder.specs.declared.machine.Phase.TheVariants as phase
use Rattle.sim_outorder.specs.declared.machine.Core.{Core}
use Rattle.sim_outorder.specs.Cycle.{FitsNext, CycleSo}
use Rattle.sim_outorder.specs.Running.{phase_after, IsReady, StaysReady, LeftReady, Begins, Cycles}

-- ---- the start

pub ready_first : (parts : Parts) (stats : CoreStats) (core : Core) → core ≡ record { parts = parts; stats = stats; cycle = 0; phase = phase.Running } → Fits 0 0 parts → IsReady core
ready_first parts stats core e f = subst IsReady (sym e) (record { running = refl; fits = f })

pub begins_first : (c : OooConfig) (m : Storage) (h : Held) (v : Predictor) (parts : Parts) (stats : CoreStats) (core : Core)
    → core ≡ record { parts = parts; stats = stats; cycle = 0; phase = phase.Running } → stats ≡ no_counts → Starts c m h v parts → Begins c m h v core
begins_first c m h v parts stats core e none s =
    subst (Begins c m h v) (sym (e ∙ ap (λ (o : CoreStats). record { parts = parts; stats = o; cycle = 0; phase = phase.Running }) none))
    (record { none = refl; stands = λ g given. record { stands = s.stands g given; stats = refl } })

-- ---- a cycle

stays_ready : {F : Type 0} (old new : Core) (result : Result Turn (CoreFault F)) → new.phase ≡ phase_after result → new.cycle ≡ old.cycle + 1
    → FitsNext old.cycle new.parts result → StaysReady new result
stays_ready old new (Ok turn.Going) p e f = record { running = p; fits = subst (λ n. Fits n 0 new.parts) (sym e) f }
stays_ready old new (Ok turn.Spent) p e f = tt
stays_ready old new (Ok (turn.Ended why)) p e f = tt
stays_ready old new (Err x) p e f = tt

pub left_ready : {F : Type 0} (old new : Core) (result : Result Turn (CoreFault F)) → new.phase ≡ phase_after result → new.cycle ≡ old.cycle + 1
    → FitsNext old.cycle new.parts result → LeftReady old new result
left_ready old new result p e f = record { phase_is = p; cycles = e; ready = stays_ready old new result p e f }

pub cycles_on : {S F : Type 0} (took cut : S → List Shown → S → Type 0) (trace : Trace) (most : ℕ) (old new : Core) (before now : S) (result : Result Turn (CoreFault F))
    → CycleSo took cut trace old.cycle most old.parts new.parts old.stats new.stats before now result → Cycles took cut trace most old new before now result
cycles_on took cut trace most old new before now result so g sound same stands =
    let k = so g sound same stands.stands stands.stats in
    record { ends = k.ends; memory = k.memory; shown = k.shown }
