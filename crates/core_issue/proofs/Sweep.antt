-- A sweep of the issue stage leaves what is done by its cycle, and what the queue holds.
use Rattle.std.proofs.Common.{◌≡◌, ℕ, suc, ◌+◌, ◌/◌, ◌≤◌, Bool, true, false, cond, List, [], ◌∷◌, Option, Some, None, refl, sym, ap, ◌∙◌, subst, arith, length}
use Rattle.std.specs.Prelude.{◌&&◌, not, nat_lt, is_some, is_none, find, option_map}
use Rattle.std.specs.List.{AllZip, list_any}
use Rattle.std.proofs.lemmas.Bool.{and_parts, le-ltb}
use Rattle.pisa_isa.specs.declared.places.Place.{Place}
use Rattle.mem_hier.specs.Replay.{Reference, Load}
use Rattle.lsq_core.specs.Queue.{Entry}
use Rattle.ooo_table.specs.Row.{Row, Fetched, MemoryAccess, is_before, returned, sweep}
use Rattle.ooo_table.specs.Execution.{is_load, is_store, address, same_place, unit_latency}
use Rattle.ooo_table.specs.Table.{Setting}
use Rattle.ooo_table.specs.Path.{execution, execution_of, loads}
use Rattle.ooo_table.specs.Done.{live, waiting, written, finished, unsquashed_before, producer, has_produced, have_produced}
use Rattle.ooo_table.specs.References.{load_references}
use Rattle.ooo_table.specs.Issue.{issues, accesses, issue_row, access_of, is_forwarded}
use Rattle.ooo_table.specs.Bound.{Rises}
use Rattle.ooo_table.proofs.Marks as marks
use Rattle.ooo_table.proofs.Route.{latency_some}
use Rattle.ooo_table.proofs.Rising.{rises_loads}
use Rattle.core_parts.specs.declared.addresses.MemoryRow.{MemoryRow}
use Rattle.core_parts.specs.Rows.{pick, in_queue, Placed, Holds, HasAddress}

-- a load takes a cycle at least
abbrev pub Slow : Setting → Type 0
Slow set = (a c : ℕ) (h : List Reference) → Rises c h → 1 ≤ set.latency (Load a c) h

module _ (set : Setting) (slow : Slow set) (c : ℕ) (base : List Reference) (rising : Rises c base) (start : List Row) where
  abbrev pub turn_of : List Row → Row → Row
  turn_of = issue_row set c base start

  -- a row's turn is one of three
  pub turn_cases : (P : Row → Type 0) (before : List Row) (r : Row)
      → (issues set c start before r ≡ true → P (record r { issued = Some c }))
      → (issues set c start before r ≡ false → accesses set c start before r ≡ true → P (record r { access = Some (access_of set c base before r) }))
      → (issues set c start before r ≡ false → accesses set c start before r ≡ false → P r) → P (turn_of before r)
  turn_cases P before r f g h = by_test (issues set c start before r) (accesses set c start before r) refl refl
    where
      by_test : (b d : Bool) → issues set c start before r ≡ b → accesses set c start before r ≡ d → P (cond b (record r { issued = Some c }) (cond d (record r { access = Some (access_of set c base before r) }) r))
      by_test true d e e' = f e
      by_test false true e e' = g e e'
      by_test false false e e' = h e e'

  pub unissued : (before : List Row) (r : Row) → issues set c start before r ≡ true → r.issued ≡ None
  unissued before r e = grind (arith, marks.none_of, and_parts)

  pub unread : (before : List Row) (r : Row) → accesses set c start before r ≡ true → r.access ≡ None
  unread before r e = grind (arith, marks.none_of, and_parts)

  pub is_loaded : (before : List Row) (r : Row) → accesses set c start before r ≡ true → loads set r ≡ true
  is_loaded before r e = grind (arith, and_parts)

  -- what is done by c is so before and after
  written_same : (before : List Row) (r : Row) → is_before (suc c) (written set (turn_of before r)) ≡ is_before (suc c) (written set r)
  written_same before r =
      turn_cases (λ x. is_before (suc c) (written set x) ≡ is_before (suc c) (written set r)) before r
      (λ e. le-ltb (c + unit_latency (execution set r).unit) (suc c) (omega (arith, latency_some (execution set r).unit)) ∙ sym (ap (λ m. is_before (suc c) (option_map (λ i. i + unit_latency (execution set r).unit) m)) (unissued before r e)))
      (λ e e'. refl) (λ e e'. refl)

  late_back : (before : List Row) (r : Row) → is_before (suc c) (Some (access_of set c base before r).back) ≡ false
  late_back before r = by_forward (is_forwarded set before r)
    where
      by_forward : (b : Bool) → nat_lt (c + cond b 1 (set.latency (Load (address (execution set r).memory) c) (load_references set c before base))) (suc c) ≡ false
      by_forward true = le-ltb (c + 1) (suc c) (omega arith)
      by_forward false =
          let least = slow (address (execution set r).memory) c (load_references set c before base) (rises_loads set c before base rising) in
          le-ltb (c + set.latency (Load (address (execution set r).memory) c) (load_references set c before base)) (suc c) (omega arith)

  pub fetched_same : (before : List Row) (r : Row) → (turn_of before r).fetched ≡ r.fetched
  fetched_same before r = turn_cases (λ x. x.fetched ≡ r.fetched) before r (λ _. refl) (λ _ _. refl) (λ _ _. refl)

  finished_same : (before : List Row) (r : Row) → is_before (suc c) (finished set (turn_of before r)) ≡ is_before (suc c) (finished set r)
  finished_same before r = by_load (loads set r) refl
    where
      moved : (b : Bool) → loads set r ≡ b → (x : Row) → x.fetched ≡ r.fetched → is_before (suc c) (finished set x) ≡ is_before (suc c) (cond b (returned x) (written set x))
      moved b e x w = ap (λ d. is_before (suc c) (cond d (returned x) (written set x))) (ap (λ w. is_load (execution_of set w).memory) w ∙ e)

      by_load : (b : Bool) → loads set r ≡ b → is_before (suc c) (finished set (turn_of before r)) ≡ is_before (suc c) (finished set r)
      by_load true e =
          moved true e (turn_of before r) (fetched_same before r)
          ∙ (turn_cases (λ x. is_before (suc c) (returned x) ≡ is_before (suc c) (returned r)) before r (λ _. refl)
          (λ _ a. late_back before r ∙ sym (ap (λ m. is_before (suc c) (option_map (λ (a : MemoryAccess). a.back) m)) (unread before r a))) (λ _ _. refl)
          ∙ sym (moved true e r refl))
      by_load false e = moved false e (turn_of before r) (fetched_same before r) ∙ (written_same before r ∙ sym (moved false e r refl))

  pub dispatched_same : (before : List Row) (r : Row) → (turn_of before r).dispatched ≡ r.dispatched
  dispatched_same before r = turn_cases (λ x. x.dispatched ≡ r.dispatched) before r (λ _. refl) (λ _ _. refl) (λ _ _. refl)

  pub squashed_same : (before : List Row) (r : Row) → (turn_of before r).squashed ≡ r.squashed
  squashed_same before r = turn_cases (λ x. x.squashed ≡ r.squashed) before r (λ _. refl) (λ _ _. refl) (λ _ _. refl)

  pub live_same : (before : List Row) (r : Row) → live (turn_of before r) ≡ live r
  live_same before r = turn_cases (λ x. live x ≡ live r) before r (λ _. refl) (λ _ _. refl) (λ _ _. refl)

  pub waiting_same : (before : List Row) (r : Row) → waiting (turn_of before r) ≡ waiting r
  waiting_same before r = turn_cases (λ x. waiting x ≡ waiting r) before r (λ _. refl) (λ _ _. refl) (λ _ _. refl)

  -- whether the row produces the place for one that was dispatched at this mark
  abbrev makes : Option ℕ → Place → Row → Bool
  makes m p o = list_any (λ w. same_place w p) (execution set o).writes && is_some o.dispatched && unsquashed_before m o

  -- so are producers
  produced_same : (m : Option ℕ) (p : Place) (older : List Row) → has_produced set (suc c) (find (makes m p) (sweep turn_of older)) ≡ has_produced set (suc c) (find (makes m p) older)
  produced_same m p [] = refl
  produced_same m p (o ∷ older) = by_made (made (turn_of (sweep turn_of older) o) (fetched_same (sweep turn_of older) o) (dispatched_same (sweep turn_of older) o) (squashed_same (sweep turn_of older) o)) (produced_same m p older)
    where
      stands : (m : Option ℕ) (x : Row) → x.squashed ≡ o.squashed → unsquashed_before m x ≡ unsquashed_before m o
      stands None x e = ap is_none e
      stands (Some d) x e = ap (λ q. not (is_before d q)) e

      made : (x : Row) → x.fetched ≡ o.fetched → x.dispatched ≡ o.dispatched → x.squashed ≡ o.squashed → makes m p x ≡ makes m p o
      made x w d q =
          ap (λ (w : Fetched). list_any (λ w. same_place w p) (execution_of set w).writes && is_some x.dispatched && unsquashed_before m x) w
          ∙ (ap (λ d. list_any (λ w. same_place w p) (execution set o).writes && is_some d && unsquashed_before m x) d ∙ ap (λ b. list_any (λ w. same_place w p) (execution set o).writes && is_some o.dispatched && b) (stands m x q))

      by_made : {b : Bool} → b ≡ makes m p o → has_produced set (suc c) (find (makes m p) (sweep turn_of older)) ≡ has_produced set (suc c) (find (makes m p) older)
          → has_produced set (suc c) (cond b (Some (turn_of (sweep turn_of older) o)) (find (makes m p) (sweep turn_of older)))
          ≡ has_produced set (suc c) (cond (makes m p o) (Some o) (find (makes m p) older))
      by_made e ih =
          ap (λ b. has_produced set (suc c) (cond b (Some (turn_of (sweep turn_of older) o)) (find (makes m p) (sweep turn_of older)))) e ∙ by_value (makes m p o)
        where
          by_value : (b : Bool) → has_produced set (suc c) (cond b (Some (turn_of (sweep turn_of older) o)) (find (makes m p) (sweep turn_of older)))
              ≡ has_produced set (suc c) (cond b (Some o) (find (makes m p) older))
          by_value true = finished_same (sweep turn_of older) o
          by_value false = ih

  pub have_same : (older : List Row) (r r' : Row) (places : List Place) → r'.dispatched ≡ r.dispatched → have_produced set (suc c) (sweep turn_of older) r' places ≡ have_produced set (suc c) older r places
  have_same older r r' [] e = refl
  have_same older r r' (p ∷ places) e =
      ap (λ b. b && have_produced set (suc c) (sweep turn_of older) r' places) (ap (λ m. has_produced set (suc c) (find (makes m p) (sweep turn_of older))) e ∙ produced_same r.dispatched p older)
      ∙ ap (λ b. has_produced set (suc c) (producer set older r p) && b) (have_same older r r' places e)

  long : (rows : List Row) → length (sweep turn_of rows) ≡ length rows
  long [] = refl
  long (x ∷ rows) = omega (arith, long rows)

  -- an entry of the queue holds still
  holds_same : (older : List Row) (r : Row) (e : Entry) → Holds set (suc c) e (record { row = r; older = older }) → Holds set (suc c) e (record { row = turn_of (sweep turn_of older) r; older = sweep turn_of older })
  holds_same older r e h =
      record {
        row = h.row ∙ sym (long older);
        store = h.store ∙ sym (ap (λ w. is_store (execution_of set w).memory) w);
        block = h.block ∙ sym (ap (λ w. address (execution_of set w).memory / 8) w);
        address = h.address ∙ ap (λ b. e.store && b) (sym (written_same (sweep turn_of older) r));
        data_done = h.data_done ∙ ap (λ b. e.store && b) (sym (ap (λ w. have_produced set (suc c) (sweep turn_of older) (turn_of (sweep turn_of older) r) (execution_of set w).second) w ∙ have_same older r (turn_of (sweep turn_of older) r) (execution set r).second (dispatched_same (sweep turn_of older) r)));
        address_by = h.address_by;
        data_by = h.data_by;
      }
    where
      w : (turn_of (sweep turn_of older) r).fetched ≡ r.fetched
      w = fetched_same (sweep turn_of older) r

  address_same : (older : List Row) (r : Row) (x : MemoryRow) → HasAddress set x (record { row = r; older = older }) → HasAddress set x (record { row = turn_of (sweep turn_of older) r; older = sweep turn_of older })
  address_same older r x h =
      record {
        row = h.row ∙ sym (long older);
        store = h.store ∙ sym (ap (λ w. is_store (execution_of set w).memory) w);
        addr = h.addr ∙ sym (ap (λ w. address (execution_of set w).memory) w);
      }
    where
      w : (turn_of (sweep turn_of older) r).fetched ≡ r.fetched
      w = fetched_same (sweep turn_of older) r

  -- what holds of rows of a kind holds of them still
  pub zip_turns : {X : Type 0} (R : X → Placed → Type 0) (p : Row → Bool) → ((before : List Row) (r : Row) → p (turn_of before r) ≡ p r)
      → ((older : List Row) (r : Row) (x : X) → R x (record { row = r; older = older }) → R x (record { row = turn_of (sweep turn_of older) r; older = sweep turn_of older }))
      → (rows : List Row) (xs : List X) → AllZip R xs (pick p rows) → AllZip R xs (pick p (sweep turn_of rows))
  zip_turns R p same moved [] xs z = z
  zip_turns {X = X} R p same moved (r ∷ older) xs z =
      subst (λ b. AllZip R xs (cond b (record { row = turn_of (sweep turn_of older) r; older = sweep turn_of older } ∷ pick p (sweep turn_of older)) (pick p (sweep turn_of older)))) (sym (same (sweep turn_of older) r))
      (by_case (p r) xs z (zip_turns R p same moved older))
    where
      by_case : (b : Bool) (xs : List X) → AllZip R xs (cond b (record { row = r; older = older } ∷ pick p older) (pick p older))
          → ((xs : List X) → AllZip R xs (pick p older) → AllZip R xs (pick p (sweep turn_of older)))
          → AllZip R xs (cond b (record { row = turn_of (sweep turn_of older) r; older = sweep turn_of older } ∷ pick p (sweep turn_of older)) (pick p (sweep turn_of older)))
      by_case true [] z ih = absurd z
      by_case true (x ∷ xs) z ih = (moved older r x z.0, ih xs z.1)
      by_case false xs z ih = ih xs z

  in_queue_same : (before : List Row) (r : Row) → in_queue set (turn_of before r) ≡ in_queue set r
  in_queue_same before r = turn_cases (λ x. in_queue set x ≡ in_queue set r) before r (λ _. refl) (λ _ _. refl) (λ _ _. refl)

  pub queue_same : (rows : List Row) (es : List Entry) → AllZip (Holds set (suc c)) es (pick (in_queue set) rows) → AllZip (Holds set (suc c)) es (pick (in_queue set) (sweep turn_of rows))
  queue_same = zip_turns (Holds set (suc c)) (in_queue set) in_queue_same holds_same

  pub addresses_same : (rows : List Row) (xs : List MemoryRow) → AllZip (HasAddress set) xs (pick (in_queue set) rows) → AllZip (HasAddress set) xs (pick (in_queue set) (sweep turn_of rows))
  addresses_same = zip_turns (HasAddress set) (in_queue set) in_queue_same address_same
