-- The references and the predictor events that the rows of a table give in one cycle. They follow from the marks.
use Rattle.std.specs.Prelude.{ℕ, List, ◌++◌, Some, None, ◌==◌, ◌&&◌, if◌then◌else◌, filter_map}
use Rattle.mem_hier.specs.Replay.{Reference, Fetch, Load, Store}
use Rattle.bpred_unit.specs.History.{Event, LookUp, Update, Recover}
use Rattle.ooo_table.specs.Row.{Row, is_at, accessed, not_forwarded}
use Rattle.ooo_table.specs.Execution.{address}
use Rattle.ooo_table.specs.Table.{Setting}
use Rattle.ooo_table.specs.Path.{execution, stores}
use Rattle.ooo_table.specs.Recovery.{recovers}

module _ (set : Setting) where
  -- stores refer to memory when they commit
  abbrev pub store_references : ℕ → List Row → List Reference → List Reference
  store_references c rows before =
      filter_map (λ r. if stores set r && is_at c r.committed then Some (Store (address (execution set r).memory) c) else None) rows ++ before

  -- loads by their accesses, unless an older store gives the value
  abbrev pub load_references : ℕ → List Row → List Reference → List Reference
  load_references c rows before =
      filter_map (λ r. if is_at c (accessed r) && not_forwarded r.access then Some (Load (address (execution set r).memory) c) else None) rows ++ before

  -- fetches, where an instruction stands at the address
  abbrev pub fetch_references : ℕ → List Row → List Reference → List Reference
  fetch_references c rows before =
      filter_map (λ r. if (r.fetched.at == c) && set.is_text r.fetched.pc then Some (Fetch r.fetched.pc c) else None) rows ++ before

  -- the references of cycle c, onto those before it: stores, then loads, then fetches, each in row order
  abbrev pub references_of : ℕ → List Row → List Reference → List Reference
  references_of c rows before =
      fetch_references c rows (load_references c rows (store_references c rows before))

  -- updates of the predictor, by the branches and jumps that commit
  abbrev pub updates_of : ℕ → List Row → List Event → List Event
  updates_of c rows before =
      filter_map (λ r. if is_at c r.committed && (execution set r).control then Some (Update r.fetched.pc (set.instruction r.fetched.pc) (execution set r).taken (execution set r).next) else None) rows ++ before

  -- the predictor events of cycle c, onto those before it: updates, then the recovery, then look-ups by the rows that are
  -- fetched
  abbrev pub predictor_events_of : ℕ → List Row → List Event → List Event
  predictor_events_of c rows before =
      filter_map (λ r. if r.fetched.at == c then Some (LookUp r.fetched.pc (set.instruction r.fetched.pc)) else None) rows
      ++ (filter_map (λ r. if recovers set c r then Some (Recover r.fetched.top) else None) rows
      ++ updates_of c rows before)
