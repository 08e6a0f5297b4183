-- What it means that a machine stands for rows of a run, within a cycle and between cycles.
use Rattle.std.specs.Prelude.{◌≡◌, ℕ, true, List, [], ◌∷◌, Option, Some, None, filter_map, option_map, if◌then◌else◌}
use Rattle.sim_safe.specs.State.{State, Storage, state_of}
use Rattle.mem_hier.specs.Replay.{Reference, SettleAll}
use Rattle.mem_hier.specs.Stands as hierarchy
use Rattle.mem_hier.specs.declared.config.HierConfig.{HierConfig}
use Rattle.mem_hier.specs.Stands.{Held, Settled}
use Rattle.bpred_unit.specs.declared.predictor.Predictor.{Predictor}
use Rattle.bpred_unit.specs.History.{Event, Recover}
use Rattle.bpred_unit.specs.Stands as prediction
use Rattle.ooo_table.specs.declared.config.OooConfig.{OooConfig}
use Rattle.ooo_table.specs.Row as table
use Rattle.ooo_table.specs.Table.{Setting, NextFetch, Table}
use Rattle.ooo_table.specs.Path.{execution_of}
use Rattle.ooo_table.specs.PathLaws.{newest}
use Rattle.ooo_table.specs.Recovery.{recovers}
use Rattle.ooo_table.specs.References.{references_of, predictor_events_of}
use Rattle.ooo_table.specs.Cycle.{table}
use Rattle.ooo_table.specs.Machine.{Given, setting_of}
use Rattle.ooo_plain.specs.Kept.{AreKept}
use Rattle.ooo_plain.specs.NextFetch.{kept_next}
use Rattle.plain_machine.specs.declared.machine.Plain.{Plain}
use Rattle.plain_machine.specs.Copied.{acting}

-- what was settled of the newest right row at its fetch
abbrev pub newest_fetched : List table.Row → Option table.Fetched
newest_fetched rows = option_map (λ r. r.fetched) (newest rows)

-- the state behind it, and the top of the return stack behind its look-up
abbrev pub state_after : Setting → Option table.Fetched → State
state_after set None = set.start
state_after set (Some f) = (execution_of set f).after

abbrev pub top_after : Option table.Fetched → Option ℕ
top_after o = option_map (λ f. f.top) o

-- The right rows left the state, and the wrong ones behind them the copy; the next row is fetched on these.
pub record OnPath (g : Given) (rows : List table.Row) (next : NextFetch) (p : Plain) : Type 0 where
  pub text : p.arch.text ≡ g.start.text
  pub behind : state_of p.arch ≡ state_after (setting_of g) (newest_fetched rows)
  pub top_is : p.top ≡ top_after (newest_fetched rows)
  pub state : next.state ≡ acting p.arch p.copy
  pub straight : next.right ≡ true → p.copy ≡ None
  pub there : next.right ≡ true → next.pc ≡ next.state.pc

-- the machine has these rows and this next row, and its hierarchy and predictor stand for these histories
pub record Stands (g : Given) (rows : List table.Row) (next : NextFetch) (h : List Reference) (e : List Event) (p : Plain) : Type 0 where
  pub config_is : p.config ≡ g.config
  pub kept_rows : AreKept (setting_of g) p.rows.items rows
  pub kept_to_fetch : p.next ≡ kept_next next
  pub path : OnPath g rows next p
  pub histories : hierarchy.StandsFor p.hier g.hier h
  pub predictions : prediction.StandsFor p.predictor g.pred e

-- after c whole cycles
abbrev pub StandsAt : Given → ℕ → Plain → Type 0
StandsAt g c p =
    Stands g (table (setting_of g) c).rows (table (setting_of g) c).next_fetch (table (setting_of g) c).references (table (setting_of g) c).predictor_events p

-- within cycle c, behind the recovery: with the references and events that the rows give in this cycle
abbrev pub StandsWithin : Given → ℕ → Table → Plain → Type 0
StandsWithin g c t p =
    Stands g t.rows t.next_fetch (references_of (setting_of g) c t.rows t.references) (predictor_events_of (setting_of g) c t.rows t.predictor_events) p

-- ---- the start

-- a run is given these: it has the configuration, starts at the state, and its earlier references and events are those that
-- the hierarchy and the predictor stand for
pub record IsGiven (c : OooConfig) (m : Storage) (h : Held) (v : Predictor) (g : Given) : Type 0 where
  pub config : c ≡ g.config
  pub start : state_of m ≡ g.start
  pub references : hierarchy.StandsFor h g.hier g.references
  pub events : prediction.StandsFor v g.pred g.events

-- all blocks that are held are there
pub record IsSettled (old new : Held) : Type 0 where
  pub counts : Settled old new
  pub references : (c : HierConfig) (h : List Reference) → hierarchy.StandsFor old c h → hierarchy.StandsFor new c (SettleAll ∷ h)

-- ---- the recovery

-- the recovery that these rows give the predictor in cycle c
abbrev pub recoveries : Setting → ℕ → List table.Row → List Event
recoveries set c rows = filter_map (λ r. if recovers set c r then Some (Recover r.fetched.top) else None) rows

-- The row that recovers, if there is one, is the newest right row, and no other recovers.
abbrev pub RecoversOnce : Setting → ℕ → List table.Row → Option table.Row → Type 0
RecoversOnce set c rows None = recoveries set c rows ≡ []
RecoversOnce set c rows (Some m) = (newest rows ≡ Some m) × (recoveries set c rows ≡ Recover m.fetched.top ∷ [])
