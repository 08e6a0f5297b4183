-- The hierarchy and the predictor are those of all that a run has asked so far: no row of the next cycle has asked yet.
use Rattle.std.proofs.Common.{◌≡◌, ℕ, ◌<◌, Bool, true, false, cond, List, [], ◌∷◌, ◌++◌, Option, Some, None, refl, ap, ◌∙◌, subst, arith}
use Rattle.std.specs.Prelude.{◌&&◌, ◌==◌, filter_map}
use Rattle.std.proofs.lemmas.Bool.Decides.{nat_tests}
use Rattle.mem_hier.specs.Replay.{Reference, Fetch, Load, Store}
use Rattle.mem_hier.specs.Stands as hierarchy
use Rattle.bpred_unit.specs.History.{Event, Update}
use Rattle.bpred_unit.specs.Stands as predictor
use Rattle.ooo_table.specs.Row.{Row, is_at, accessed, not_forwarded}
use Rattle.ooo_table.specs.Execution.{address}
use Rattle.ooo_table.specs.Table.{Setting}
use Rattle.ooo_table.specs.Path.{execution, stores}
use Rattle.ooo_table.specs.References.{store_references, load_references, fetch_references, references_of, updates_of}
use Rattle.ooo_table.specs.Cycle.{table}
use Rattle.ooo_table.specs.Ends.{Extent, Whole, AtCommit, AtStop, rows_at}
use Rattle.ooo_table.specs.Later.{Each, Past}
use Rattle.ooo_table.specs.Legal.{Happened}
use Rattle.ooo_table.specs.Machine.{Given, setting_of}
use Rattle.ooo_table.proofs.Counts.{access_past, past_table}
use Rattle.ooo_table.proofs.Ends.{happened_at}
use Rattle.ooo_table.proofs.Kept.{each_of}
use Rattle.ooo_table.proofs.Over.{not_at}
use Rattle.core_parts.specs.declared.parts.Parts.{Parts}
use Rattle.core_parts.proofs.Lists.{map_none}
use Rattle.core_ends.specs.Extents.{StandsAt, HasHistories}

-- all marks but commits are of earlier cycles
abbrev Early : ℕ → Row → Type 0
Early c r = Past c (record r { committed = None })

none_given : {X : Type 0} (f : Row → Option X) (P : Row → Type 0) → ((r : Row) → P r → f r ≡ None) → (rows : List Row) → Each (λ _. P) rows → filter_map f rows ≡ []
none_given f P none [] h = refl
none_given f P none (r ∷ rows) h = map_none f r rows (none r h.0) ∙ none_given f P none rows h.1

not_then : (c n : ℕ) → n < c → (n == c) ≡ false
not_then c n lt = grind (arith, nat_tests)

both_false : (a b : Bool) → a ≡ false → (a && b) ≡ false
both_false a b e = ap (λ x. x && b) e

module _ (set : Setting) (c : ℕ) where
  no_stores : (rows : List Row) → Each (λ _. Past c) rows → (before : List Reference) → store_references set c rows before ≡ before
  no_stores rows h before =
      ap (λ l. l ++ before) (none_given (λ r. cond (stores set r && is_at c r.committed) (Some (Store (address (execution set r).memory) c)) None) (Past c) none rows h)
    where
      never : (b : Bool) → (b && false) ≡ false
      never true = refl
      never false = refl

      none : (r : Row) → Past c r → cond (stores set r && is_at c r.committed) (Some (Store (address (execution set r).memory) c)) None ≡ None
      none r p =
          ap (λ b. cond b (Some (Store (address (execution set r).memory) c)) None)
          (ap (λ b. stores set r && b) (not_at c r.committed p.committed) ∙ never (stores set r))

  no_loads : (rows : List Row) → Each (λ _. Early c) rows → (before : List Reference) → load_references set c rows before ≡ before
  no_loads rows h before =
      ap (λ l. l ++ before) (none_given (λ r. cond (is_at c (accessed r) && not_forwarded r.access) (Some (Load (address (execution set r).memory) c)) None) (Early c) none rows h)
    where
      none : (r : Row) → Early c r → cond (is_at c (accessed r) && not_forwarded r.access) (Some (Load (address (execution set r).memory) c)) None ≡ None
      none r p = ap (λ b. cond b (Some (Load (address (execution set r).memory) c)) None) (both_false (is_at c (accessed r)) (not_forwarded r.access) (not_at c (accessed r) (access_past c r.access p.access)))

  no_fetches : (rows : List Row) → Each (λ _. Early c) rows → (before : List Reference) → fetch_references set c rows before ≡ before
  no_fetches rows h before =
      ap (λ l. l ++ before) (none_given (λ r. cond ((r.fetched.at == c) && set.is_text r.fetched.pc) (Some (Fetch r.fetched.pc c)) None) (Early c) none rows h)
    where
      none : (r : Row) → Early c r → cond ((r.fetched.at == c) && set.is_text r.fetched.pc) (Some (Fetch r.fetched.pc c)) None ≡ None
      none r p = ap (λ b. cond b (Some (Fetch r.fetched.pc c)) None) (both_false (r.fetched.at == c) (set.is_text r.fetched.pc) (not_then c r.fetched.at p.fetched))

  -- of rows that have only committed in the cycle
  stores_alone : (rows : List Row) → Each (λ _. Early c) rows → (before : List Reference) → references_of set c rows before ≡ store_references set c rows before
  stores_alone rows h before =
      no_fetches rows h (load_references set c rows (store_references set c rows before)) ∙ no_loads rows h (store_references set c rows before)

  no_updates : (rows : List Row) → Each (λ _. Past c) rows → (before : List Event) → updates_of set c rows before ≡ before
  no_updates rows h before =
      ap (λ l. l ++ before)
      (none_given (λ r. cond (is_at c r.committed && (execution set r).control) (Some (Update r.fetched.pc (set.instruction r.fetched.pc) (execution set r).taken (execution set r).next)) None) (Past c) none rows h)
    where
      none : (r : Row) → Past c r → cond (is_at c r.committed && (execution set r).control) (Some (Update r.fetched.pc (set.instruction r.fetched.pc) (execution set r).taken (execution set r).next)) None ≡ None
      none r p =
          ap (λ b. cond b (Some (Update r.fetched.pc (set.instruction r.fetched.pc) (execution set r).taken (execution set r).next)) None)
          (both_false (is_at c r.committed) (execution set r).control (not_at c r.committed p.committed))

early_past : (c : ℕ) (rows : List Row) → Each (λ _. Past c) rows → Each (λ _. Early c) rows
early_past c rows h =
    each_of (λ _. Past c) (λ _. Early c)
    (λ older r p. record { fetched = p.fetched; dispatched = p.dispatched; issued = p.issued; access = p.access; committed = tt; squashed = p.squashed }) rows h

pub has_histories : (g : Given) (e : Extent) (c : ℕ) (parts : Parts) → StandsAt g e c parts → HasHistories g e c parts
has_histories g Whole c parts stands =
    let set : Setting = setting_of g in
    let rows : List Row = (table set c).rows in
    let past : Each (λ _. Past c) rows = past_table set c in
    record {
      hierarchy = subst (hierarchy.StandsFor parts.hier g.hier)
          (stores_alone set c rows (early_past c rows past) (table set c).references ∙ no_stores set c rows past (table set c).references) stands.histories.hierarchy;
      predictor = subst (predictor.StandsFor parts.predictor g.pred) (no_updates set c rows past (table set c).predictor_events) stands.histories.predictor;
    }
has_histories g (AtCommit row) c parts stands =
    let set : Setting = setting_of g in
    let rows : List Row = rows_at set (AtCommit row) c in
    let early : Each (λ _. Early c) rows = each_of (Happened (AtCommit row) c) (λ _. Early c) (λ older r h. h.0) rows (happened_at set (AtCommit row) c) in
    record {
      hierarchy = subst (hierarchy.StandsFor parts.hier g.hier) (stores_alone set c rows early (table set c).references) stands.histories.hierarchy;
      predictor = stands.histories.predictor;
    }
has_histories g AtStop c parts stands = record { hierarchy = stands.histories.hierarchy; predictor = stands.histories.predictor }
