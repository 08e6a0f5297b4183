-- The fetch stage: rows along the predicted path.
use Rattle.std.specs.Prelude.{ℕ, zero, suc, ◌+◌, ◌-◌, Bool, List, ◌∷◌, None, nat_lt, nat_le, ◌&&◌, if◌then◌else◌, count_by}
use Rattle.mem_hier.specs.Replay.{Reference, Fetch}
use Rattle.bpred_unit.specs.declared.predictor.Look.{Look}
use Rattle.ooo_table.specs.Row.{Row}
use Rattle.ooo_table.specs.Table.{Setting, NextFetch, Table}
use Rattle.ooo_table.specs.Path.{next_fetch_after}
use Rattle.ooo_table.specs.Done.{waiting}
use Rattle.ooo_table.specs.References.{references_of, predictor_events_of}

module _ (set : Setting) where
  -- the earliest cycle of the next row has come, and a place among the waiting rows is left
  abbrev pub may_fetch : ℕ → Table → Bool
  may_fetch c t = nat_le t.next_fetch.earliest c && nat_lt (count_by waiting t.rows) set.config.ifq

  -- when the words at an address are there: at once where the lookup of the first level is all that they take, or where
  -- no instruction stands there
  abbrev pub queue_cycle : ℕ → ℕ → List Reference → ℕ
  queue_cycle c pc before = if set.is_text pc then c + (set.latency (Fetch pc c) before - set.fetch_hit) else c

  abbrev pub fetched_row : ℕ → NextFetch → Look → ℕ → Row
  fetched_row c n look queued =
      record {
        fetched = record { pc = n.pc; predicted = look.next; top = look.top; right = n.right; state = n.state; at = c; queued = queued };
        dispatched = None;
        issued = None;
        access = None;
        committed = None;
        squashed = None;
      }

  -- the look-up and the reference of a row come after all those before them, also of this cycle
  abbrev pub fetch_one : ℕ → Table → Table
  fetch_one c t =
      let r = fetched_row c t.next_fetch (set.look t.next_fetch.pc (predictor_events_of set c t.rows t.predictor_events))
      (queue_cycle c t.next_fetch.pc (references_of set c t.rows t.references)) in
      record t { rows = r ∷ t.rows; next_fetch = next_fetch_after set c r }

  abbrev pub fetch_up_to : ℕ → ℕ → Table → Table
  fetch_up_to zero c t = t
  fetch_up_to (suc n) c t = if may_fetch c t then fetch_up_to n c (fetch_one c t) else t

  abbrev pub fetch : ℕ → Table → Table
  fetch c t = fetch_up_to set.config.decode c t
