-- Where a run with its two budgets ends, and what it has asked of the hierarchy and of the predictor by then.
use Rattle.std.specs.Prelude.{◌≡◌, ℕ, zero, suc, ◌<◌, ◌≤◌, ◌⊎◌, List, Option, Some, None}
use Rattle.mem_hier.specs.Replay.{Reference}
use Rattle.bpred_unit.specs.History.{Event}
use Rattle.ooo_table.specs.Table.{Setting}
use Rattle.ooo_table.specs.References.{store_references, references_of, updates_of, predictor_events_of}
use Rattle.ooo_table.specs.Cycle.{table}
use Rattle.ooo_table.specs.Ends.{Extent, Whole, AtCommit, AtStop, rows_at, end_in}

-- how a run ended: how far it came behind so many whole cycles
pub record Finish : Type 0 where
  pub extent : Extent
  pub passed : ℕ

abbrev pub finish_or : ℕ → Finish → Option Extent → Finish
finish_or c later None = later
finish_or c later (Some e) = record { extent = e; passed = c }

module _ (set : Setting) where
  -- behind c whole cycles, where n more may come: the first cycle ends the run that has an end in it
  unfoldable pub finish_from : ℕ → ℕ → ℕ → Finish
  finish_from most zero c = record { extent = Whole; passed = c }
  finish_from most (suc n) c = finish_or c (finish_from most n (suc c)) (end_in set most c)

  -- The end of a run with a budget of commits and one of cycles. Where one of them is 0 there is no cycle.
  abbrev pub finish : ℕ → ℕ → Finish
  finish zero cycles = record { extent = Whole; passed = 0 }
  finish (suc most) cycles = finish_from (suc most) cycles 0

  -- The references that a run has made that ended so. In the cycle of its end they are those of the marks that have
  -- happened: up to the commit that ended it, or up to its stop.
  abbrev pub references_by : Extent → ℕ → List Reference
  references_by Whole c = (table set c).references
  references_by (AtCommit row) c = store_references set c (rows_at set (AtCommit row) c) (table set c).references
  references_by AtStop c = references_of set c (rows_at set AtStop c) (table set c).references

  -- and its predictor events. No recovery comes before the commit that ends a run in its cycle.
  abbrev pub predictor_events_by : Extent → ℕ → List Event
  predictor_events_by Whole c = (table set c).predictor_events
  predictor_events_by (AtCommit row) c = updates_of set c (rows_at set (AtCommit row) c) (table set c).predictor_events
  predictor_events_by AtStop c = predictor_events_of set c (rows_at set AtStop c) (table set c).predictor_events

  -- A run ends in the first cycle that has an end in it, and if none of those that it may take has one, behind the last.
  pub record IsFirstEnd (most cycles : ℕ) (f : Finish) : Type 0 where
    pub first : (x : ℕ) → x < f.passed → end_in set most x ≡ None
    pub ends : ((f.extent ≡ Whole) × (f.passed ≡ cycles)) ⊎ ((end_in set most f.passed ≡ Some f.extent) × (f.passed < cycles))
