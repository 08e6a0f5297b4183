-- One row more has committed: what that changes, and what it leaves as it was.
use Rattle.std.proofs.Common.{◌≡◌, ℕ, ◌+◌, Bool, true, false, cond, List, [], ◌∷◌, ◌++◌, Option, Some, None, refl, sym, ap, ◌∙◌, arith, length, length-append}
use Rattle.std.specs.Prelude.{◌&&◌, ◌==◌, is_some, find, filter_map, count_by}
use Rattle.std.specs.List.{list_any}
use Rattle.pisa_isa.specs.declared.places.Place.{Place}
use Rattle.mem_hier.specs.Replay.{Reference, Fetch, Load, Store}
use Rattle.bpred_unit.specs.History.{Event, Update}
use Rattle.lsq_core.specs.Queue.{Entry}
use Rattle.ruu_core.specs.Window as unit
use Rattle.core_parts.specs.declared.addresses.MemoryRow.{MemoryRow}
use Rattle.ooo_front.specs.declared.row.FetchRow.{FetchRow}
use Rattle.ooo_table.specs.Row.{Row, is_at, accessed, not_forwarded}
use Rattle.ooo_table.specs.Execution.{address, same_place}
use Rattle.ooo_table.specs.Table.{Setting, NextFetch}
use Rattle.ooo_table.specs.Path.{execution, stores}
use Rattle.ooo_table.specs.Done.{waiting, unsquashed_before, has_produced, have_produced, producer}
use Rattle.ooo_table.specs.References.{references_of, store_references, updates_of}
use Rattle.ooo_table.specs.Later.{Each}
use Rattle.ooo_table.specs.CycleLaws.{as_next}
use Rattle.ooo_table.specs.Machine.{Given}
use Rattle.ooo_table.proofs.Units.{not_at, not_at_access}
use Rattle.core_parts.specs.Rows.{newest_number, Lives, Holds, HasAddress, Waits}
use Rattle.core_parts.specs.Stands.{next_of, settled, state_after}
use Rattle.core_parts.proofs.Lists.{and_false, map_some, map_none, count_cons}
use Rattle.core_commit.proofs.Partial.{Fit}

-- the row as it is once it has committed
abbrev pub marked : ℕ → Row → Row
marked c r = record r { committed = Some c }

module _ (c : ℕ) (rest : List Row) (r : Row) where
  pub long : (ys : List Row) → length (ys ++ (r ∷ rest)) ≡ length (ys ++ (marked c r ∷ rest))
  long ys = omega (arith, length-append ys (r ∷ rest), length-append ys (marked c r ∷ rest))

  pub newest_marked : (p : Row → Bool) → p (marked c r) ≡ p r → (left : List Row) → newest_number p (left ++ (marked c r ∷ rest)) ≡ newest_number p (left ++ (r ∷ rest))
  newest_marked p e [] = ap (λ b. cond b (Some (length rest)) (newest_number p rest)) e
  newest_marked p e (y ∷ left) =
      ap (λ n. cond (p y) (Some n) (newest_number p (left ++ (marked c r ∷ rest)))) (sym (long left))
      ∙ ap (λ m. cond (p y) (Some (length (left ++ (r ∷ rest)))) m) (newest_marked p e left)

  pub next_marked : (left : List Row) (n : NextFetch) → next_of (left ++ (marked c r ∷ rest)) n ≡ next_of (left ++ (r ∷ rest)) n
  next_marked [] n = refl
  next_marked (y ∷ left) n = next_marked left (cond (waiting y) (as_next y) n)

  pub count_marked : (p : Row → Bool) → p (marked c r) ≡ p r → (left : List Row) → count_by p (left ++ (marked c r ∷ rest)) ≡ count_by p (left ++ (r ∷ rest))
  count_marked p e [] =
      let k : cond {A = ℕ} (p (marked c r)) 1 0 ≡ cond {A = ℕ} (p r) 1 0 = ap (λ b. cond {A = ℕ} b 1 0) e in
      omega (arith, count_cons p (marked c r) rest, count_cons p r rest, k)
  count_marked p e (y ∷ left) = omega (arith, count_cons p y (left ++ (marked c r ∷ rest)), count_cons p y (left ++ (r ∷ rest)), count_marked p e left)

  pub count_more : (p : Row → Bool) (n : ℕ) → cond {A = ℕ} (p (marked c r)) 1 0 ≡ n → p r ≡ false → (left : List Row)
      → count_by p (left ++ (marked c r ∷ rest)) ≡ count_by p (left ++ (r ∷ rest)) + n
  count_more p n e f [] =
      let k : cond {A = ℕ} (p r) 1 0 ≡ 0 = ap (λ b. cond {A = ℕ} b 1 0) f in
      omega (arith, count_cons p (marked c r) rest, count_cons p r rest, k, e)
  count_more p n e f (y ∷ left) = omega (arith, count_cons p y (left ++ (marked c r ∷ rest)), count_cons p y (left ++ (r ∷ rest)), count_more p n e f left)

  pub map_marked : {Y : Type 0} (f : Row → Option Y) → f (marked c r) ≡ f r → (left : List Row) → filter_map f (left ++ (marked c r ∷ rest)) ≡ filter_map f (left ++ (r ∷ rest))
  map_marked {Y = Y} f e left = by_left left
    where
      here : (o o' : Option Y) → o' ≡ o → f r ≡ o → f (marked c r) ≡ o' → filter_map f (marked c r ∷ rest) ≡ filter_map f (r ∷ rest)
      here None o' e g h = map_none f (marked c r) rest (h ∙ e) ∙ sym (map_none f r rest g)
      here (Some y) o' e g h = map_some f (marked c r) rest y (h ∙ e) ∙ sym (map_some f r rest y g)

      more : (y : Row) (xs zs : List Row) → filter_map f xs ≡ filter_map f zs → (o : Option Y) → f y ≡ o → filter_map f (y ∷ xs) ≡ filter_map f (y ∷ zs)
      more y xs zs e None g = map_none f y xs g ∙ (e ∙ sym (map_none f y zs g))
      more y xs zs e (Some v) g = map_some f y xs v g ∙ (ap (λ l. v ∷ l) e ∙ sym (map_some f y zs v g))

      by_left : (left : List Row) → filter_map f (left ++ (marked c r ∷ rest)) ≡ filter_map f (left ++ (r ∷ rest))
      by_left [] = here (f r) (f (marked c r)) e refl refl
      by_left (y ∷ left) = more y (left ++ (marked c r ∷ rest)) (left ++ (r ∷ rest)) (by_left left) (f y) refl

  -- of rows of which the first ones give nothing
  pub map_more : {Y : Type 0} (f : Row → Option Y) (y : Y) → f (marked c r) ≡ Some y → f r ≡ None → (left : List Row) → Each (λ _ o. f o ≡ None) left
      → filter_map f (left ++ (marked c r ∷ rest)) ≡ y ∷ filter_map f (left ++ (r ∷ rest))
  map_more f y e g [] h = map_some f (marked c r) rest y e ∙ ap (λ l. y ∷ l) (sym (map_none f r rest g))
  map_more f y e g (w ∷ left) h = map_none f w (left ++ (marked c r ∷ rest)) h.0 ∙ (map_more f y e g left h.1 ∙ ap (λ l. y ∷ l) (sym (map_none f w (left ++ (r ∷ rest)) h.0)))

  module _ (set : Setting) where
    pub settled_marked : (left : List Row) → settled set (left ++ (marked c r ∷ rest)) ≡ settled set (left ++ (r ∷ rest))
    settled_marked [] = by_case (r.fetched.right && is_some r.dispatched)
      where
        by_case : (b : Bool) → state_after set (cond b (Some (marked c r)) (find (λ r. r.fetched.right && is_some r.dispatched) rest))
            ≡ state_after set (cond b (Some r) (find (λ r. r.fetched.right && is_some r.dispatched) rest))
        by_case true = refl
        by_case false = refl
    settled_marked (y ∷ left) = by_case (y.fetched.right && is_some y.dispatched) (settled_marked left)
      where
        by_case : (b : Bool) → settled set (left ++ (marked c r ∷ rest)) ≡ settled set (left ++ (r ∷ rest))
            → state_after set (cond b (Some y) (find (λ r. r.fetched.right && is_some r.dispatched) (left ++ (marked c r ∷ rest))))
            ≡ state_after set (cond b (Some y) (find (λ r. r.fetched.right && is_some r.dispatched) (left ++ (r ∷ rest))))
        by_case true ih = refl
        by_case false ih = ih

    -- what rows find done hangs on no commit
    abbrev makes : Option ℕ → Place → Row → Bool
    makes m p o = list_any (λ w. same_place w p) (execution set o).writes && is_some o.dispatched && unsquashed_before m o

    produced : (n : ℕ) (m : Option ℕ) (p : Place) (ys : List Row)
        → has_produced set n (find (makes m p) (ys ++ (marked c r ∷ rest))) ≡ has_produced set n (find (makes m p) (ys ++ (r ∷ rest)))
    produced n m p [] = by_mark m
      where
        by_mark : (m : Option ℕ) → has_produced set n (find (makes m p) (marked c r ∷ rest)) ≡ has_produced set n (find (makes m p) (r ∷ rest))
        by_mark None = by_made (makes None p r)
          where
            by_made : (b : Bool) → has_produced set n (cond b (Some (marked c r)) (find (makes None p) rest)) ≡ has_produced set n (cond b (Some r) (find (makes None p) rest))
            by_made true = refl
            by_made false = refl
        by_mark (Some d) = by_made (makes (Some d) p r)
          where
            by_made : (b : Bool) → has_produced set n (cond b (Some (marked c r)) (find (makes (Some d) p) rest)) ≡ has_produced set n (cond b (Some r) (find (makes (Some d) p) rest))
            by_made true = refl
            by_made false = refl
    produced n m p (y ∷ ys) = by_made (makes m p y) (produced n m p ys)
      where
        by_made : (b : Bool) → has_produced set n (find (makes m p) (ys ++ (marked c r ∷ rest))) ≡ has_produced set n (find (makes m p) (ys ++ (r ∷ rest)))
            → has_produced set n (cond b (Some y) (find (makes m p) (ys ++ (marked c r ∷ rest)))) ≡ has_produced set n (cond b (Some y) (find (makes m p) (ys ++ (r ∷ rest))))
        by_made true ih = refl
        by_made false ih = ih

    have_marked : (n : ℕ) (y : Row) (places : List Place) (ys : List Row)
        → have_produced set n (ys ++ (marked c r ∷ rest)) y places ≡ have_produced set n (ys ++ (r ∷ rest)) y places
    have_marked n y [] ys = refl
    have_marked n y (p ∷ places) ys =
        ap (λ b. b && have_produced set n (ys ++ (marked c r ∷ rest)) y places) (produced n y.dispatched p ys)
        ∙ ap (λ b. has_produced set n (producer set (ys ++ (r ∷ rest)) y p) && b) (have_marked n y places ys)

    pub holds_marked : (n : ℕ) (e : Entry) (y : Row) (ys : List Row) → Holds set n e (record { row = y; older = ys ++ (r ∷ rest) })
        → Holds set n e (record { row = y; older = ys ++ (marked c r ∷ rest) })
    holds_marked n e y ys h =
        record {
          row = h.row ∙ long ys;
          store = h.store;
          block = h.block;
          address = h.address;
          data_done = h.data_done ∙ ap (λ b. e.store && b) (sym (have_marked n y (execution set y).second ys));
          address_by = h.address_by;
          data_by = h.data_by;
        }

    pub address_marked : (x : MemoryRow) (y : Row) (ys : List Row) → HasAddress set x (record { row = y; older = ys ++ (r ∷ rest) })
        → HasAddress set x (record { row = y; older = ys ++ (marked c r ∷ rest) })
    address_marked x y ys h = record { row = h.row ∙ long ys; store = h.store; addr = h.addr }

  module _ (g : Given) where
    pub lives_marked : (u : unit.Row) (y : Row) (ys : List Row) → Lives g u (record { row = y; older = ys ++ (r ∷ rest) })
        → Lives g u (record { row = y; older = ys ++ (marked c r ∷ rest) })
    lives_marked u y ys h =
        record { row = h.row ∙ long ys; station = h.station; dispatched = h.dispatched; issued = h.issued; written = h.written; accessed = h.accessed; returned = h.returned }

    pub waits_marked : (w : FetchRow) (y : Row) (ys : List Row) → Waits g w (record { row = y; older = ys ++ (r ∷ rest) })
        → Waits g w (record { row = y; older = ys ++ (marked c r ∷ rest) })
    waits_marked w y ys h =
        record { row = h.row ∙ long ys; pc = h.pc; a = h.a; b = h.b; next = h.next; top = h.top; fetched = h.fetched; queued = h.queued }

-- ---- histories

module _ (set : Setting) (c : ℕ) where
  abbrev store : Row → Option Reference
  store r = cond (stores set r && is_at c r.committed) (Some (Store (address (execution set r).memory) c)) None

  abbrev load : Row → Option Reference
  load r = cond (is_at c (accessed r) && not_forwarded r.access) (Some (Load (address (execution set r).memory) c)) None

  abbrev fetched : Row → Option Reference
  fetched r = cond ((r.fetched.at == c) && set.is_text r.fetched.pc) (Some (Fetch r.fetched.pc c)) None

  abbrev update : Row → Option Event
  update r = cond (is_at c r.committed && (execution set r).control) (Some (Update r.fetched.pc (set.instruction r.fetched.pc) (execution set r).taken (execution set r).next)) None

  -- nothing was loaded or fetched in this cycle yet
  none_of : (rows : List Row) → Each (Fit set c) rows → (filter_map fetched rows ≡ []) × (filter_map load rows ≡ [])
  none_of [] h = (refl, refl)
  none_of (r ∷ rows) h =
      let ih : (filter_map fetched rows ≡ []) × (filter_map load rows ≡ []) = none_of rows h.1 in (
        map_none fetched r rows (ap (λ b. cond (b && set.is_text r.fetched.pc) (Some (Fetch r.fetched.pc c)) None) (not_at c (Some r.fetched.at) h.0.own.at)) ∙ ih.0,
        map_none load r rows (ap (λ b. cond (b && not_forwarded r.access) (Some (Load (address (execution set r).memory) c)) None) (not_at_access c r.access h.0.own.access)) ∙ ih.1,
      )

  stores_alone : (rows : List Row) (base : List Reference) → Each (Fit set c) rows → references_of set c rows base ≡ store_references set c rows base
  stores_alone rows base fit =
      let n = none_of rows fit in
      ap (λ l. l ++ (filter_map load rows ++ store_references set c rows base)) n.0 ∙ ap (λ l. l ++ store_references set c rows base) n.1

  store_none : (rows : List Row) → Each (λ _ o. is_at c o.committed ≡ false) rows → Each (λ _ o. store o ≡ None) rows
  store_none [] h = tt
  store_none (r ∷ rows) h = (
    ap (λ b. cond (stores set r && b) (Some (Store (address (execution set r).memory) c)) None) h.0
        ∙ ap (λ b. cond b (Some (Store (address (execution set r).memory) c)) None) (and_false (stores set r)),
    store_none rows h.1,
  )

  update_none : (rows : List Row) → Each (λ _ o. is_at c o.committed ≡ false) rows → Each (λ _ o. update o ≡ None) rows
  update_none [] h = tt
  update_none (r ∷ rows) h =
      (ap (λ b. cond (b && (execution set r).control) (Some (Update r.fetched.pc (set.instruction r.fetched.pc) (execution set r).taken (execution set r).next)) None) h.0, update_none rows h.1)

  module _ (left rest : List Row) (r : Row) where
    -- a store that commits makes one more reference
    pub references_more : (base : List Reference) → Each (Fit set c) (left ++ (r ∷ rest)) → Each (Fit set c) (left ++ (marked c r ∷ rest))
        → Each (λ _ o. is_at c o.committed ≡ false) left → is_at c r.committed ≡ false → stores set r ≡ true → (c == c) ≡ true
        → references_of set c (left ++ (marked c r ∷ rest)) base ≡ Store (address (execution set r).memory) c ∷ references_of set c (left ++ (r ∷ rest)) base
    references_more base fit fit' young none is same =
        stores_alone (left ++ (marked c r ∷ rest)) base fit'
        ∙ (ap (λ l. l ++ base)
        (map_more c rest r store (Store (address (execution set r).memory) c)
        (ap (λ b. cond (b && (c == c)) (Some (Store (address (execution set r).memory) c)) None) is ∙ ap (λ b. cond b (Some (Store (address (execution set r).memory) c)) None) same)
        (ap (λ b. cond (stores set r && b) (Some (Store (address (execution set r).memory) c)) None) none
        ∙ ap (λ b. cond b (Some (Store (address (execution set r).memory) c)) None) (and_false (stores set r)))
        left (store_none left young))
        ∙ ap (λ l. Store (address (execution set r).memory) c ∷ l) (sym (stores_alone (left ++ (r ∷ rest)) base fit)))

    -- any other none
    pub references_same : (base : List Reference) → Each (Fit set c) (left ++ (r ∷ rest)) → Each (Fit set c) (left ++ (marked c r ∷ rest)) → stores set r ≡ false
        → references_of set c (left ++ (marked c r ∷ rest)) base ≡ references_of set c (left ++ (r ∷ rest)) base
    references_same base fit fit' is =
        stores_alone (left ++ (marked c r ∷ rest)) base fit'
        ∙ (ap (λ l. l ++ base) (map_marked c rest r store (by_store (stores set r) is) left) ∙ sym (stores_alone (left ++ (r ∷ rest)) base fit))
      where
        by_store : (b : Bool) → b ≡ false
            → cond (b && (c == c)) (Some (Store (address (execution set r).memory) c)) None ≡ cond (b && is_at c r.committed) (Some (Store (address (execution set r).memory) c)) None
        by_store true e = absurd cc
        by_store false e = refl

    pub updates_more : (base : List Event) → Each (λ _ o. is_at c o.committed ≡ false) left → is_at c r.committed ≡ false → (execution set r).control ≡ true → (c == c) ≡ true
        → updates_of set c (left ++ (marked c r ∷ rest)) base
        ≡ Update r.fetched.pc (set.instruction r.fetched.pc) (execution set r).taken (execution set r).next ∷ updates_of set c (left ++ (r ∷ rest)) base
    updates_more base young none is same =
        ap (λ l. l ++ base)
        (map_more c rest r update (Update r.fetched.pc (set.instruction r.fetched.pc) (execution set r).taken (execution set r).next)
        (ap (λ b. cond (b && (execution set r).control) (Some (Update r.fetched.pc (set.instruction r.fetched.pc) (execution set r).taken (execution set r).next)) None) same
        ∙ ap (λ b. cond b (Some (Update r.fetched.pc (set.instruction r.fetched.pc) (execution set r).taken (execution set r).next)) None) is)
        (ap (λ b. cond (b && (execution set r).control) (Some (Update r.fetched.pc (set.instruction r.fetched.pc) (execution set r).taken (execution set r).next)) None) none)
        left (update_none left young))

    pub updates_same : (base : List Event) → (execution set r).control ≡ false
        → updates_of set c (left ++ (marked c r ∷ rest)) base ≡ updates_of set c (left ++ (r ∷ rest)) base
    updates_same base is = ap (λ l. l ++ base) (map_marked c rest r update (same (c == c) (is_at c r.committed) (execution set r).control is) left)
      where
        same : (a b d : Bool) → d ≡ false
            → cond (a && d) (Some (Update r.fetched.pc (set.instruction r.fetched.pc) (execution set r).taken (execution set r).next)) None
            ≡ cond (b && d) (Some (Update r.fetched.pc (set.instruction r.fetched.pc) (execution set r).taken (execution set r).next)) None
        same a b true e = absurd cc
        same a b false e = by_values a b
          where
            by_values : (a b : Bool)
                → cond (a && false) (Some (Update r.fetched.pc (set.instruction r.fetched.pc) (execution set r).taken (execution set r).next)) None
                ≡ cond (b && false) (Some (Update r.fetched.pc (set.instruction r.fetched.pc) (execution set r).taken (execution set r).next)) None
            by_values true true = refl
            by_values true false = refl
            by_values false true = refl
            by_values false false = refl
