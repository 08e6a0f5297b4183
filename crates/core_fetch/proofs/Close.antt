-- The cycle is over, and the next begins.
use Rattle.std.proofs.Common.{◌≡◌, ℕ, suc, true, false, cond, List, [], ◌∷◌, ◌++◌, Option, Some, None, refl, sym, ap, ◌∙◌, subst, arith}
use Rattle.std.specs.Prelude.{◌&&◌, ◌==◌, filter_map}
use Rattle.mem_hier.specs.Replay.{Reference, Fetch, Load, Store}
use Rattle.mem_hier.specs.Stands as hierarchy
use Rattle.bpred_unit.specs.History.{Event, Update}
use Rattle.bpred_unit.specs.Stands as predictor
use Rattle.ooo_table.specs.Row.{Row, is_at, accessed, not_forwarded}
use Rattle.ooo_table.specs.Execution.{address}
use Rattle.ooo_table.specs.Table.{Setting}
use Rattle.ooo_table.specs.Path.{execution, stores}
use Rattle.ooo_table.specs.References.{references_of, updates_of}
use Rattle.ooo_table.specs.Cycle.{table, after_fetch}
use Rattle.ooo_table.specs.Later.{Each, Past}
use Rattle.ooo_table.specs.Machine.{Given, setting_of}
use Rattle.ooo_table.proofs.Counts.{past_table}
use Rattle.ooo_table.proofs.Units.{not_at, not_at_access}
use Rattle.core_parts.specs.declared.parts.Parts.{Parts}
use Rattle.core_parts.specs.Stands.{Stands}
use Rattle.core_parts.proofs.Lists.{and_false, map_none}

module _ (set : Setting) (c : ℕ) where
  abbrev store : Row → Option Reference
  store r = cond (stores set r && is_at c r.committed) (Some (Store (address (execution set r).memory) c)) None

  abbrev load : Row → Option Reference
  load r = cond (is_at c (accessed r) && not_forwarded r.access) (Some (Load (address (execution set r).memory) c)) None

  abbrev fetched : Row → Option Reference
  fetched r = cond ((r.fetched.at == c) && set.is_text r.fetched.pc) (Some (Fetch r.fetched.pc c)) None

  abbrev update : Row → Option Event
  update r = cond (is_at c r.committed && (execution set r).control) (Some (Update r.fetched.pc (set.instruction r.fetched.pc) (execution set r).taken (execution set r).next)) None

  -- no reference and no update is of a cycle to come
  none_to_come : (rows : List Row) → Each (λ _. Past c) rows
      → (filter_map fetched rows ≡ []) × (filter_map load rows ≡ []) × (filter_map store rows ≡ []) × (filter_map update rows ≡ [])
  none_to_come [] h = (refl, refl, refl, refl)
  none_to_come (r ∷ rows) h =
      let ih : (filter_map fetched rows ≡ []) × (filter_map load rows ≡ []) × (filter_map store rows ≡ []) × (filter_map update rows ≡ []) = none_to_come rows h.1 in (
        map_none fetched r rows (ap (λ b. cond (b && set.is_text r.fetched.pc) (Some (Fetch r.fetched.pc c)) None) (not_at c (Some r.fetched.at) h.0.fetched)) ∙ ih.0,
        map_none load r rows (ap (λ b. cond (b && not_forwarded r.access) (Some (Load (address (execution set r).memory) c)) None) (not_at_access c r.access h.0.access)) ∙ ih.1,
        map_none store r rows
            (ap (λ b. cond (stores set r && b) (Some (Store (address (execution set r).memory) c)) None) (not_at c r.committed h.0.committed)
            ∙ ap (λ b. cond b (Some (Store (address (execution set r).memory) c)) None) (and_false (stores set r)))
            ∙ ih.2,
        map_none update r rows
            (ap (λ b. cond (b && (execution set r).control) (Some (Update r.fetched.pc (set.instruction r.fetched.pc) (execution set r).taken (execution set r).next)) None) (not_at c r.committed h.0.committed))
            ∙ ih.3,
      )

  references_begin : (rows : List Row) (base : List Reference) → Each (λ _. Past c) rows → references_of set c rows base ≡ base
  references_begin rows base h =
      let n = none_to_come rows h in
      ap (λ l. l ++ (filter_map load rows ++ (filter_map store rows ++ base))) n.0 ∙ (ap (λ l. l ++ (filter_map store rows ++ base)) n.1 ∙ ap (λ l. l ++ base) n.2)

  updates_begin : (rows : List Row) (base : List Event) → Each (λ _. Past c) rows → updates_of set c rows base ≡ base
  updates_begin rows base h = ap (λ l. l ++ base) (none_to_come rows h).3

-- the end of a cycle is the beginning of the next one
pub close : (g : Given) (c : ℕ) (parts : Parts) → Stands g c true parts (after_fetch (setting_of g) c) → Stands g (suc c) false parts (table (setting_of g) (suc c))
close g c parts st =
    record {
      run = st.run;
      rows = record { unit = st.rows.unit; queue = st.rows.queue; addresses = st.rows.addresses; front = st.rows.front };
      next = record { row = st.next.row; pc = st.next.pc; earliest = st.next.earliest; last = st.next.last; last_memory = st.next.last_memory };
      pools = λ p x le. st.pools p x (omega (arith, le));
      states = record { wrong = st.states.wrong; base = st.states.base; view = st.states.view; applied = st.states.applied; clean = st.states.clean };
      histories = record {
        hierarchy =
            subst (hierarchy.StandsFor parts.hier g.hier)
            (sym (references_begin (setting_of g) (suc c) (table (setting_of g) (suc c)).rows (table (setting_of g) (suc c)).references (past_table (setting_of g) (suc c))))
            st.histories.hierarchy;
        predictor =
            subst (predictor.StandsFor parts.predictor g.pred)
            (sym (updates_begin (setting_of g) (suc c) (table (setting_of g) (suc c)).rows (table (setting_of g) (suc c)).predictor_events (past_table (setting_of g) (suc c))))
            st.histories.predictor;
      };
    }
