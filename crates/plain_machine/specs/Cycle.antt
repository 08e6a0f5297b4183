-- A machine over its cycles.
use Rattle.std.specs.Prelude.{◌≡◌, ℕ, suc, ◌+◌, Bool, List, true, false, Some, None, Result, Ok, Err, IfOk}
use Rattle.ss_base.specs.declared.fault.OutOfMemory.{OutOfMemory}
use Rattle.event_trace.specs.declared.trace.Trace.{Trace}
use Rattle.sim_safe.specs.State.{Storage}
use Rattle.mem_hier.specs.Stands as hierarchy
use Rattle.mem_hier.specs.Stands.{Held}
use Rattle.bpred_unit.specs.declared.predictor.Predictor.{Predictor}
use Rattle.bpred_unit.specs.Stands as prediction
use Rattle.ooo_table.specs.declared.config.OooConfig.{OooConfig}
use Rattle.ooo_table.specs.declared.event.Event.{Event}
use Rattle.ooo_table.specs.Ends.{Extent, Whole, AtCommit, AtStop, rows_at, recovered_cycles, end_in, stops_in}
use Rattle.ooo_table.specs.Cycle.{table, after_commit}
use Rattle.ooo_table.specs.References.{store_references, updates_of}
use Rattle.ooo_table.specs.Events.{events_in}
use Rattle.ooo_table.specs.Finish.{references_by, predictor_events_by}
use Rattle.ooo_table.specs.Machine.{Given, setting_of}
use Rattle.ooo_plain.specs.Kept.{AreKept}
use Rattle.plain_machine.specs.declared.cycle.PlainTurn.{PlainTurn}
use Rattle.plain_machine.specs.declared.cycle.PlainTurn.TheVariants as turn
use Rattle.plain_machine.specs.declared.machine.Plain.{Plain}
use Rattle.plain_machine.specs.Fits.{Fits}
use Rattle.plain_machine.specs.Standing.{Stands, StandsAt, IsGiven}

-- a machine that runs may do its next cycle
pub record IsReady (p : Plain) : Type 0 where
  pub is_running : p.running ≡ true
  pub counted : p.written ≡ p.cycles
  pub fits : Fits p.cycles 0 0 p

-- before its first cycle it stands for the table of every run that is given what it was made of
pub record Begins (c : OooConfig) (m : Storage) (h : Held) (v : Predictor) (p : Plain) : Type 0 where
  pub none : p.cycles ≡ 0
  pub stands : (g : Given) → IsGiven c m h v g → StandsAt g 0 p

-- ---- a cycle

-- before which cycle write-backs have happened, after cycle c
abbrev pub written_after : PlainTurn → ℕ → ℕ
written_after turn.Going c = c + 1
written_after (turn.Committed row) c = c
written_after turn.Stopped c = c + 1

abbrev pub goes_on : PlainTurn → Bool
goes_on turn.Going = true
goes_on (turn.Committed row) = false
goes_on turn.Stopped = false

abbrev pub LeftReady : Plain → Plain → Result PlainTurn OutOfMemory → Type 0
LeftReady old new (Ok turn.Going) = IsReady new × (new.cycles ≡ old.cycles + 1)
LeftReady old new (Ok (turn.Committed row)) = (new.running ≡ false) × (new.cycles ≡ old.cycles + 1)
LeftReady old new (Ok turn.Stopped) = (new.running ≡ false) × (new.cycles ≡ old.cycles + 1)
LeftReady old new (Err _) = new.running ≡ false

-- The machine stands for a run that ended so behind c whole cycles: its rows have the marks that have happened, and its hierarchy
-- and predictor stand for what the run has asked of them.
pub record StandsEnded (g : Given) (e : Extent) (c : ℕ) (p : Plain) : Type 0 where
  pub ended_rows : AreKept (setting_of g) p.rows.items (rows_at (setting_of g) e c)
  pub histories : hierarchy.StandsFor p.hier g.hier (references_by (setting_of g) e c)
  pub predictions : prediction.StandsFor p.predictor g.pred (predictor_events_by (setting_of g) e c)

-- and it knows which write-backs have happened
pub record EndsSo (g : Given) (e : Extent) (c : ℕ) (p : Plain) : Type 0 where
  pub ended : StandsEnded g e c p
  pub horizon : p.written ≡ recovered_cycles e c

-- ---- the stages of a cycle

-- it is ready for the next cycle where that comes
abbrev pub FitsNext : ℕ → Plain → Result PlainTurn OutOfMemory → Type 0
FitsNext c new (Ok turn.Going) = Fits (c + 1) 0 0 new
FitsNext c new (Ok (turn.Committed row)) = Unit {0}
FitsNext c new (Ok turn.Stopped) = Unit {0}
FitsNext c new (Err _) = Unit {0}

module _ (g : Given) (c : ℕ) where
  -- behind the commits, none of which ended the run
  abbrev pub BehindCommits : Plain → Type 0
  BehindCommits p =
      Stands g (after_commit (setting_of g) c).rows (table (setting_of g) c).next_fetch
      (store_references (setting_of g) c (after_commit (setting_of g) c).rows (table (setting_of g) c).references)
      (updates_of (setting_of g) c (after_commit (setting_of g) c).rows (table (setting_of g) c).predictor_events) p

  -- the cycle is over, or the machine stops in it
  abbrev pub EndsBehind : Plain → Result PlainTurn OutOfMemory → Type 0
  EndsBehind new (Ok turn.Going) = (stops_in (setting_of g) c (table (setting_of g) c) ≡ false) × StandsAt g (suc c) new
  EndsBehind new (Ok (turn.Committed row)) = ⊥
  EndsBehind new (Ok turn.Stopped) = (stops_in (setting_of g) c (table (setting_of g) c) ≡ true) × StandsEnded g AtStop c new
  EndsBehind new (Err _) = Unit {0}

  -- how the cycle ends in a run with a budget of commits
  abbrev pub StagesEnd : ℕ → Plain → Result PlainTurn OutOfMemory → Type 0
  StagesEnd most new (Ok turn.Going) = (end_in (setting_of g) most c ≡ None) × StandsAt g (suc c) new
  StagesEnd most new (Ok (turn.Committed row)) = (end_in (setting_of g) most c ≡ Some (AtCommit row)) × StandsEnded g (AtCommit row) c new
  StagesEnd most new (Ok turn.Stopped) = (end_in (setting_of g) most c ≡ Some AtStop) × StandsEnded g AtStop c new
  StagesEnd most new (Err _) = Unit {0}

-- how a cycle goes: as the table's, in a run with a budget of commits
abbrev pub CycleOf : Given → ℕ → ℕ → Plain → Result PlainTurn OutOfMemory → Type 0
CycleOf g most c new (Ok turn.Going) = (end_in (setting_of g) most c ≡ None) × StandsAt g (suc c) new
CycleOf g most c new (Ok (turn.Committed row)) = (end_in (setting_of g) most c ≡ Some (AtCommit row)) × EndsSo g (AtCommit row) c new
CycleOf g most c new (Ok turn.Stopped) = (end_in (setting_of g) most c ≡ Some AtStop) × EndsSo g AtStop c new
CycleOf g most c new (Err _) = Unit {0}

-- of every run over the trace for whose table the machine stands
abbrev pub Cycles : Trace → ℕ → Plain → Plain → Result PlainTurn OutOfMemory → Type 0
Cycles trace most old new result = (g : Given) → g.trace ≡ trace → StandsAt g old.cycles old → CycleOf g most old.cycles new result

-- ---- events

-- The events of its last cycle are the table's, where the machine stands for the table or for a run that ended.
pub record Shows (p : Plain) (result : Result (List Event) OutOfMemory) : Type 0 where
  pub going : (g : Given) (c : ℕ) → p.cycles ≡ suc c → p.written ≡ suc c → StandsAt g (suc c) p
      → IfOk result (λ events. events ≡ events_in (setting_of g) Whole (suc c) c)
  pub ended : (g : Given) (e : Extent) (c : ℕ) → p.cycles ≡ suc c → EndsSo g e c p
      → IfOk result (λ events. events ≡ events_in (setting_of g) e c c)
