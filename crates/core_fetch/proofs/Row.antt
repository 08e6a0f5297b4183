-- A row that is fetched, and what it adds to the table and what it leaves as it was.
use Rattle.std.proofs.Common.{◌≡◌, ℕ, Bool, true, false, cond, List, [], ◌∷◌, ◌++◌, Option, Some, None, refl, sym, ap, ◌∙◌}
use Rattle.std.specs.Prelude.{◌&&◌, ◌||◌, ◌==◌, not, is_some, find, filter_map, count_by}
use Rattle.mem_hier.specs.Replay.{Reference, Fetch, Store}
use Rattle.bpred_unit.specs.History.{Event, LookUp, Recover}
use Rattle.bpred_unit.specs.declared.predictor.Look.{Look}
use Rattle.ooo_table.specs.Row.{Row, is_at}
use Rattle.ooo_table.specs.Execution.{Pool, Alus, Multipliers, Ports, is_of, address, uses_memory}
use Rattle.ooo_table.specs.Table.{Setting, NextFetch, Table}
use Rattle.ooo_table.specs.Path.{execution, loads, stores, mispredicted}
use Rattle.ooo_table.specs.Done.{live, waiting}
use Rattle.ooo_table.specs.Recovery.{recovers}
use Rattle.ooo_table.specs.References.{references_of, fetch_references, load_references, store_references, updates_of, predictor_events_of}
use Rattle.ooo_table.specs.Issue.{holds}
use Rattle.ooo_table.specs.Fetch.{fetched_row, fetch_one, queue_cycle}
use Rattle.ooo_table.specs.CycleLaws.{as_next}
use Rattle.core_parts.specs.Rows.{pick, newest_number, in_queue}
use Rattle.core_parts.specs.Stands.{next_of, settled, state_after}
use Rattle.core_parts.proofs.Lists.{and_false, same_number, map_some, map_none, count_skip}

-- what the next row to be dispatched acts on hangs on nothing else of the next fetch
pub next_same : (rows : List Row) (u v : NextFetch) → v.right ≡ u.right → v.state ≡ u.state
    → ((next_of rows v).right ≡ (next_of rows u).right) × ((next_of rows v).state ≡ (next_of rows u).state)
next_same [] u v e f = (e, f)
next_same (r ∷ older) u v e f = by_case (waiting r) (next_same older u v e f)
  where
    by_case : (b : Bool) → ((next_of older v).right ≡ (next_of older u).right) × ((next_of older v).state ≡ (next_of older u).state)
        → ((next_of older (cond b (as_next r) v)).right ≡ (next_of older (cond b (as_next r) u)).right)
        × ((next_of older (cond b (as_next r) v)).state ≡ (next_of older (cond b (as_next r) u)).state)
    by_case true ih = (refl, refl)
    by_case false ih = ih

module _ (set : Setting) where
  -- all that the fetch stage leaves as it was
  pub record Same (t u : Table) : Type 0 where
    pub unit : pick live u.rows ≡ pick live t.rows
    pub queue : pick (in_queue set) u.rows ≡ pick (in_queue set) t.rows
    pub held : (p : Pool) (x : ℕ) → count_by (holds set p x) u.rows ≡ count_by (holds set p x) t.rows
    pub last : newest_number (λ r. is_some r.dispatched) u.rows ≡ newest_number (λ r. is_some r.dispatched) t.rows
    pub last_memory : newest_number (λ r. is_some r.dispatched && uses_memory (execution set r).memory) u.rows
        ≡ newest_number (λ r. is_some r.dispatched && uses_memory (execution set r).memory) t.rows
    pub right : (next_of u.rows u.next_fetch).right ≡ (next_of t.rows t.next_fetch).right
    pub state : (next_of u.rows u.next_fetch).state ≡ (next_of t.rows t.next_fetch).state
    pub base : settled set u.rows ≡ settled set t.rows
    pub wrong : count_by (λ r. live r && not r.fetched.right) u.rows ≡ count_by (λ r. live r && not r.fetched.right) t.rows
    pub references : u.references ≡ t.references
    pub events : u.predictor_events ≡ t.predictor_events

  pub same_refl : (t : Table) → Same t t
  same_refl t =
      record {
        unit = refl;
        queue = refl;
        held = λ p x. refl;
        last = refl;
        last_memory = refl;
        right = refl;
        state = refl;
        base = refl;
        wrong = refl;
        references = refl;
        events = refl;
      }

  pub same_trans : (t u v : Table) → Same t u → Same u v → Same t v
  same_trans t u v a b =
      record {
        unit = b.unit ∙ a.unit;
        queue = b.queue ∙ a.queue;
        held = λ p x. b.held p x ∙ a.held p x;
        last = b.last ∙ a.last;
        last_memory = b.last_memory ∙ a.last_memory;
        right = b.right ∙ a.right;
        state = b.state ∙ a.state;
        base = b.base ∙ a.base;
        wrong = b.wrong ∙ a.wrong;
        references = b.references ∙ a.references;
        events = b.events ∙ a.events;
      }

  module _ (c : ℕ) (n : NextFetch) (look : Look) (queued : ℕ) where
    -- the row holds no unit
    holds_none : (p : Pool) (x : ℕ) → holds set p x (fetched_row set c n look queued) ≡ false
    holds_none Alus x = and_false (is_of Alus (execution set (fetched_row set c n look queued)).unit)
    holds_none Multipliers x = and_false (is_of Multipliers (execution set (fetched_row set c n look queued)).unit)
    holds_none Ports x =
        ap (λ b. b || (stores set (fetched_row set c n look queued) && false)) (and_false (loads set (fetched_row set c n look queued)))
        ∙ and_false (stores set (fetched_row set c n look queued))

    -- and makes no reference but its own
    pub references_more : (rows : List Row) (base : List Reference)
        → references_of set c (fetched_row set c n look queued ∷ rows) base
        ≡ cond (set.is_text n.pc) (Fetch n.pc c ∷ references_of set c rows base) (references_of set c rows base)
    references_more rows base =
        ap (λ l. fetch_references set c (fetched_row set c n look queued ∷ rows) (load_references set c rows (l ++ base))) no_store
        ∙ by_text (set.is_text n.pc) refl
      where
        store : Row → Option Reference
        store r = cond (stores set r && is_at c r.committed) (Some (Store (address (execution set r).memory) c)) None

        no_store : filter_map store (fetched_row set c n look queued ∷ rows) ≡ filter_map store rows
        no_store =
            map_none store (fetched_row set c n look queued) rows
            (ap (λ b. cond b (Some (Store (address (execution set (fetched_row set c n look queued)).memory) c)) None) (and_false (stores set (fetched_row set c n look queued))))

        fetches : Row → Option Reference
        fetches r = cond ((r.fetched.at == c) && set.is_text r.fetched.pc) (Some (Fetch r.fetched.pc c)) None

        rest : List Reference
        rest = load_references set c rows (store_references set c rows base)

        by_text : (d : Bool) → set.is_text n.pc ≡ d
            → filter_map fetches (fetched_row set c n look queued ∷ rows) ++ rest ≡ cond d (Fetch n.pc c ∷ (filter_map fetches rows ++ rest)) (filter_map fetches rows ++ rest)
        by_text true e =
            ap (λ l. l ++ rest)
            (map_some fetches (fetched_row set c n look queued) rows (Fetch n.pc c)
            (ap (λ b. cond (b && set.is_text n.pc) (Some (Fetch n.pc c)) None) (same_number c) ∙ ap (λ b. cond b (Some (Fetch n.pc c)) None) e))
        by_text false e =
            ap (λ l. l ++ rest)
            (map_none fetches (fetched_row set c n look queued) rows
            (ap (λ b. cond (b && set.is_text n.pc) (Some (Fetch n.pc c)) None) (same_number c) ∙ ap (λ b. cond b (Some (Fetch n.pc c)) None) e))

    pub events_more : (rows : List Row) (base : List Event)
        → predictor_events_of set c (fetched_row set c n look queued ∷ rows) base
        ≡ LookUp n.pc (set.instruction n.pc) ∷ predictor_events_of set c rows base
    events_more rows base =
        ap (λ l. filter_map looks (fetched_row set c n look queued ∷ rows) ++ (l ++ updates)) no_recovery
        ∙ ap (λ l. l ++ (filter_map recovery rows ++ updates))
        (map_some looks (fetched_row set c n look queued) rows (LookUp n.pc (set.instruction n.pc)) (ap (λ b. cond b (Some (LookUp n.pc (set.instruction n.pc))) None) (same_number c)))
      where
        looks : Row → Option Event
        looks r = cond (r.fetched.at == c) (Some (LookUp r.fetched.pc (set.instruction r.fetched.pc))) None

        recovery : Row → Option Event
        recovery r = cond (recovers set c r) (Some (Recover r.fetched.top)) None

        updates : List Event
        updates = updates_of set c rows base

        no_recovery : filter_map recovery (fetched_row set c n look queued ∷ rows) ≡ filter_map recovery rows
        no_recovery =
            map_none recovery (fetched_row set c n look queued) rows
            (ap (λ b. cond b (Some (Recover look.top)) None) (and_false (mispredicted set (fetched_row set c n look queued))))

    -- the rest is as it was
    same_row : (t : Table) (next : NextFetch) → t.next_fetch ≡ n
        → Same t (record t { rows = fetched_row set c n look queued ∷ t.rows; next_fetch = next })
    same_row t next e =
        record {
          unit = refl;
          queue = refl;
          held = λ p x. count_skip (holds set p x) (fetched_row set c n look queued) t.rows (holds_none p x);
          last = refl;
          last_memory = refl;
          right = ahead.0;
          state = ahead.1;
          base = ap (state_after set) (undispatched (n.right && false) (and_false n.right));
          wrong = count_skip (λ r. live r && not r.fetched.right) (fetched_row set c n look queued) t.rows refl;
          references = refl;
          events = refl;
        }
      where
        ahead : ((next_of t.rows (as_next (fetched_row set c n look queued))).right ≡ (next_of t.rows t.next_fetch).right)
            × ((next_of t.rows (as_next (fetched_row set c n look queued))).state ≡ (next_of t.rows t.next_fetch).state)
        ahead = next_same t.rows t.next_fetch (as_next (fetched_row set c n look queued)) (ap (λ (x : NextFetch). x.right) (sym e)) (ap (λ (x : NextFetch). x.state) (sym e))

        undispatched : (b : Bool) → b ≡ false
            → cond b (Some (fetched_row set c n look queued)) (find (λ r. r.fetched.right && is_some r.dispatched) t.rows) ≡ find (λ r. r.fetched.right && is_some r.dispatched) t.rows
        undispatched b f = ap (λ b. cond b (Some (fetched_row set c n look queued)) (find (λ r. r.fetched.right && is_some r.dispatched) t.rows)) f

  -- what the fetch of a row leaves as it was
  pub same_one : (c : ℕ) (t : Table) → Same t (fetch_one set c t)
  same_one c t =
      same_row c t.next_fetch (set.look t.next_fetch.pc (predictor_events_of set c t.rows t.predictor_events))
      (queue_cycle set c t.next_fetch.pc (references_of set c t.rows t.references)) t (fetch_one set c t).next_fetch refl
