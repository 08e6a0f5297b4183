-- The oldest waiting row is dispatched: what that changes, and what it leaves as it was.
use Rattle.std.proofs.Common.{◌≡◌, ℕ, ◌+◌, Bool, true, false, cond, List, [], ◌∷◌, ◌++◌, Option, Some, None, refl, sym, ap, ◌∙◌, subst, arith, length, length-append}
use Rattle.std.specs.Prelude.{◌&&◌, ◌==◌, is_some, is_none, find, filter_map, count_by}
use Rattle.std.proofs.lemmas.Bool.{and_parts}
use Rattle.mem_hier.specs.Replay.{Reference, Fetch, Load, Store}
use Rattle.bpred_unit.specs.History.{Event, LookUp, Update, Recover}
use Rattle.ooo_front.specs.declared.row.FetchRow.{FetchRow}
use Rattle.ooo_table.specs.Row.{Row, is_at, accessed, not_forwarded}
use Rattle.ooo_table.specs.Execution.{address}
use Rattle.ooo_table.specs.Table.{Setting, NextFetch}
use Rattle.ooo_table.specs.Path.{execution, stores}
use Rattle.ooo_table.specs.Done.{live, waiting}
use Rattle.ooo_table.specs.Recovery.{recovers}
use Rattle.ooo_table.specs.References.{references_of, predictor_events_of}
use Rattle.ooo_table.specs.Later.{Each}
use Rattle.ooo_table.specs.CycleLaws.{as_next, Leads, Linked, Newest}
use Rattle.ooo_table.specs.Machine.{Given}
use Rattle.core_parts.specs.Rows.{pick, newest_number, Waits}
use Rattle.core_parts.specs.Stands.{next_of, settled, state_after}
use Rattle.core_parts.proofs.Lists.{and_false, map_some, map_none, count_cons}

-- the row as it is once it is dispatched
abbrev pub marked : ℕ → Row → Row
marked c r = record r { dispatched = Some c }

pub both : {b : Bool} → b ≡ true → b ≡ false → ⊥
both e f = cc

pub not_picked : (p : Row → Bool) (o : Row) (older : List Row) → pick p (o ∷ older) ≡ [] → (p o ≡ false) × (pick p older ≡ [])
not_picked p o older e = by_case (p o) e
  where
    by_case : (b : Bool) → cond b (record { row = o; older = older } ∷ pick p older) (pick p older) ≡ [] → (b ≡ false) × (pick p older ≡ [])
    by_case true e = absurd cc
    by_case false e = (refl, e)

-- a row in the middle of others that pass
pub in_middle : (P : List Row → Row → Type 0) (left older : List Row) (r : Row) → Each P (left ++ (r ∷ older)) → P older r × Each P older
in_middle P [] older r h = (h.0, h.1)
in_middle P (y ∷ left) older r h = in_middle P left older r h.1

-- ---- rows that weren't dispatched

abbrev pub Fresh : List Row → Type 0
Fresh rows = Each (λ _ o. o.dispatched ≡ None) rows

-- a test that only dispatched rows pass
abbrev pub OfDispatched : (Row → Bool) → Type 0
OfDispatched p = (r : Row) → p r ≡ true → is_some r.dispatched ≡ true

fails : (p : Row → Bool) → OfDispatched p → (o : Row) → o.dispatched ≡ None → p o ≡ false
fails p sub o e = by_value (p o) refl
  where
    by_value : (b : Bool) → p o ≡ b → p o ≡ false
    by_value true h = absurd (both (sub o h) (ap is_some e))
    by_value false h = h

pub live_dispatched : OfDispatched live
live_dispatched r h = (and_parts _ _ (and_parts _ _ h).0).0

pub pick_young : (p : Row → Bool) → OfDispatched p → (left rest : List Row) → Fresh left → pick p (left ++ rest) ≡ pick p rest
pick_young p sub [] rest h = refl
pick_young p sub (y ∷ left) rest h =
    ap (λ b. cond b (record { row = y; older = left ++ rest } ∷ pick p (left ++ rest)) (pick p (left ++ rest))) (fails p sub y h.0) ∙ pick_young p sub left rest h.1

pub newest_young : (p : Row → Bool) → OfDispatched p → (left rest : List Row) → Fresh left → newest_number p (left ++ rest) ≡ newest_number p rest
newest_young p sub [] rest h = refl
newest_young p sub (y ∷ left) rest h =
    ap (λ b. cond b (Some (length (left ++ rest))) (newest_number p (left ++ rest))) (fails p sub y h.0) ∙ newest_young p sub left rest h.1

-- rows behind which one waits wait too
pub waits_all : (left rest : List Row) (r : Row) → Each Newest (left ++ (r ∷ rest)) → waiting r ≡ true → Each (λ _ o. waiting o ≡ true) left
waits_all [] rest r n w = tt
waits_all (y ∷ left) rest r n w = (by_value (waiting y) refl, waits_all left rest r n.1 w)
  where
    passed : (left : List Row) → Each (λ _ o. waiting o ≡ false) (left ++ (r ∷ rest)) → waiting r ≡ false
    passed [] h = h.0
    passed (z ∷ left) h = passed left h.1

    by_value : (b : Bool) → waiting y ≡ b → waiting y ≡ true
    by_value true e = e
    by_value false e = absurd (both w (passed left (n.0.passed e)))

pub unset : (r : Row) → waiting r ≡ true → (r.dispatched ≡ None) × (r.squashed ≡ None)
unset r w = by_marks r.dispatched r.squashed w
  where
    by_marks : (d s : Option ℕ) → (is_none d && is_none s) ≡ true → (d ≡ None) × (s ≡ None)
    by_marks None None w = (refl, refl)
    by_marks (Some x) s w = absurd cc
    by_marks None (Some x) w = absurd cc

pub fresh_left : (left : List Row) → Each (λ _ o. waiting o ≡ true) left → Fresh left
fresh_left [] h = tt
fresh_left (y ∷ left) h = ((unset y h.0).0, fresh_left left h.1)

-- ---- the next row

module _ (set : Setting) where
  no_next : (rows : List Row) (n : NextFetch) → pick waiting rows ≡ [] → next_of rows n ≡ n
  no_next [] n e = refl
  no_next (r ∷ rows) n e =
      let k = not_picked waiting r rows e in
      ap (λ b. next_of rows (cond b (as_next r) n)) k.0 ∙ no_next rows n k.1

  -- the oldest waiting row is the next to be dispatched
  pub next_oldest : (left rest : List Row) (r : Row) (n : NextFetch) → waiting r ≡ true → pick waiting rest ≡ [] → next_of (left ++ (r ∷ rest)) n ≡ as_next r
  next_oldest [] rest r n w none = ap (λ b. next_of rest (cond b (as_next r) n)) w ∙ no_next rest (as_next r) none
  next_oldest (y ∷ left) rest r n w none = next_oldest left rest r (cond (waiting y) (as_next y) n) w none

  -- and once it is dispatched, the next one goes on where it leads
  pub next_after : (left rest : List Row) (r r' : Row) (n : NextFetch) → Each (λ _ o. waiting o ≡ true) left → Linked set (left ++ (r ∷ rest)) n → waiting r ≡ true → pick waiting rest ≡ []
      → waiting r' ≡ false → Leads set r (next_of (left ++ (r' ∷ rest)) n)
  next_after [] rest r r' n all l w none gone =
      subst (Leads set r) (sym (ap (λ b. next_of rest (cond b (as_next r') n)) gone ∙ no_next rest n none)) (l w).0
  next_after (y ∷ left) rest r r' n all l w none gone =
      subst (λ b. Leads set r (next_of (left ++ (r' ∷ rest)) (cond b (as_next y) n))) (sym all.0)
      (next_after left rest r r' (as_next y) all.1 (l all.0).1 w none gone)

  -- ---- the last dispatched right row

  abbrev is_last : Row → Bool
  is_last r = r.fetched.right && is_some r.dispatched

  pub settled_young : (left rest : List Row) → Fresh left → settled set (left ++ rest) ≡ settled set rest
  settled_young [] rest h = refl
  settled_young (y ∷ left) rest h =
      ap (λ b. state_after set (cond b (Some y) (find is_last (left ++ rest)))) (ap (λ m. y.fetched.right && is_some m) h.0 ∙ and_false y.fetched.right) ∙ settled_young left rest h.1

  -- a right row that is dispatched behind them is the last one
  pub settled_right : (left rest : List Row) (r : Row) (c : ℕ) → Fresh left → r.fetched.right ≡ true → settled set (left ++ (marked c r ∷ rest)) ≡ (execution set r).after
  settled_right left rest r c h w =
      settled_young left (marked c r ∷ rest) h ∙ ap (λ b. state_after set (cond (b && true) (Some (marked c r)) (find is_last rest))) w

  -- and a wrong one leaves what the last one left
  pub settled_wrong : (left rest : List Row) (r : Row) (c : ℕ) → Fresh left → r.dispatched ≡ None → r.fetched.right ≡ false
      → settled set (left ++ (marked c r ∷ rest)) ≡ settled set (left ++ (r ∷ rest))
  settled_wrong left rest r c h d w =
      settled_young left (marked c r ∷ rest) h
      ∙ (ap (λ b. state_after set (cond (b && true) (Some (marked c r)) (find is_last rest))) w
      ∙ (sym (ap (λ b. state_after set (cond b (Some r) (find is_last rest))) (ap (λ m. r.fetched.right && is_some m) d ∙ and_false r.fetched.right))
      ∙ sym (settled_young left (r ∷ rest) h)))

-- ---- one row in the middle

module _ (c : ℕ) (rest : List Row) (r : Row) where
  pub long : (ys : List Row) → length (ys ++ (r ∷ rest)) ≡ length (ys ++ (marked c r ∷ rest))
  long ys = omega (arith, length-append ys (r ∷ rest), length-append ys (marked c r ∷ rest))

  pub count_marked : (p : Row → Bool) → p (marked c r) ≡ p r → (left : List Row) → count_by p (left ++ (marked c r ∷ rest)) ≡ count_by p (left ++ (r ∷ rest))
  count_marked p e [] =
      let k : cond {A = ℕ} (p (marked c r)) 1 0 ≡ cond {A = ℕ} (p r) 1 0 = ap (λ b. cond {A = ℕ} b 1 0) e in
      omega (arith, count_cons p (marked c r) rest, count_cons p r rest, k)
  count_marked p e (y ∷ left) = omega (arith, count_cons p y (left ++ (marked c r ∷ rest)), count_cons p y (left ++ (r ∷ rest)), count_marked p e left)

  pub count_more : (p : Row → Bool) (n : ℕ) → cond {A = ℕ} (p (marked c r)) 1 0 ≡ n → p r ≡ false → (left : List Row)
      → count_by p (left ++ (marked c r ∷ rest)) ≡ count_by p (left ++ (r ∷ rest)) + n
  count_more p n e f [] =
      let k : cond {A = ℕ} (p r) 1 0 ≡ 0 = ap (λ b. cond {A = ℕ} b 1 0) f in
      omega (arith, count_cons p (marked c r) rest, count_cons p r rest, k, e)
  count_more p n e f (y ∷ left) = omega (arith, count_cons p y (left ++ (marked c r ∷ rest)), count_cons p y (left ++ (r ∷ rest)), count_more p n e f left)

  map_marked : {Y : Type 0} (f : Row → Option Y) → f (marked c r) ≡ f r → (left : List Row) → filter_map f (left ++ (marked c r ∷ rest)) ≡ filter_map f (left ++ (r ∷ rest))
  map_marked {Y = Y} f e left = by_left left
    where
      here : (o o' : Option Y) → o' ≡ o → f r ≡ o → f (marked c r) ≡ o' → filter_map f (marked c r ∷ rest) ≡ filter_map f (r ∷ rest)
      here None o' e g h = map_none f (marked c r) rest (h ∙ e) ∙ sym (map_none f r rest g)
      here (Some y) o' e g h = map_some f (marked c r) rest y (h ∙ e) ∙ sym (map_some f r rest y g)

      more : (y : Row) (xs zs : List Row) → filter_map f xs ≡ filter_map f zs → (o : Option Y) → f y ≡ o → filter_map f (y ∷ xs) ≡ filter_map f (y ∷ zs)
      more y xs zs e None g = map_none f y xs g ∙ (e ∙ sym (map_none f y zs g))
      more y xs zs e (Some v) g = map_some f y xs v g ∙ (ap (λ l. v ∷ l) e ∙ sym (map_some f y zs v g))

      by_left : (left : List Row) → filter_map f (left ++ (marked c r ∷ rest)) ≡ filter_map f (left ++ (r ∷ rest))
      by_left [] = here (f r) (f (marked c r)) e refl refl
      by_left (y ∷ left) = more y (left ++ (marked c r ∷ rest)) (left ++ (r ∷ rest)) (by_left left) (f y) refl

  pub waits_marked : (g : Given) (w : FetchRow) (y : Row) (ys : List Row) → Waits g w (record { row = y; older = ys ++ (r ∷ rest) })
      → Waits g w (record { row = y; older = ys ++ (marked c r ∷ rest) })
  waits_marked g w y ys h =
      record { row = h.row ∙ long ys; pc = h.pc; a = h.a; b = h.b; next = h.next; top = h.top; fetched = h.fetched; queued = h.queued }

  -- ---- histories

  module _ (set : Setting) (n : ℕ) where
    abbrev store : Row → Option Reference
    store r = cond (stores set r && is_at n r.committed) (Some (Store (address (execution set r).memory) n)) None

    abbrev load : Row → Option Reference
    load r = cond (is_at n (accessed r) && not_forwarded r.access) (Some (Load (address (execution set r).memory) n)) None

    abbrev fetched : Row → Option Reference
    fetched r = cond ((r.fetched.at == n) && set.is_text r.fetched.pc) (Some (Fetch r.fetched.pc n)) None

    pub references_marked : (left : List Row) (base : List Reference) → references_of set n (left ++ (marked c r ∷ rest)) base ≡ references_of set n (left ++ (r ∷ rest)) base
    references_marked left base =
        joined (map_marked fetched refl left) (map_marked load refl left) (map_marked store refl left)
      where
        joined : {a a' b b' d d' : List Reference} → a ≡ a' → b ≡ b' → d ≡ d' → a ++ (b ++ (d ++ base)) ≡ a' ++ (b' ++ (d' ++ base))
        joined f g h = rw (f, g, h) refl

    abbrev update : Row → Option Event
    update r = cond (is_at n r.committed && (execution set r).control) (Some (Update r.fetched.pc (set.instruction r.fetched.pc) (execution set r).taken (execution set r).next)) None

    abbrev recovery : Row → Option Event
    recovery r = cond (recovers set n r) (Some (Recover r.fetched.top)) None

    abbrev look : Row → Option Event
    look r = cond (r.fetched.at == n) (Some (LookUp r.fetched.pc (set.instruction r.fetched.pc))) None

    pub events_marked : (left : List Row) (base : List Event) → predictor_events_of set n (left ++ (marked c r ∷ rest)) base ≡ predictor_events_of set n (left ++ (r ∷ rest)) base
    events_marked left base =
        joined (map_marked look refl left) (map_marked recovery refl left) (map_marked update refl left)
      where
        joined : {a a' b b' d d' : List Event} → a ≡ a' → b ≡ b' → d ≡ d' → a ++ (b ++ (d ++ base)) ≡ a' ++ (b' ++ (d' ++ base))
        joined f g h = rw (f, g, h) refl
