-- How a cycle may change a row, and that what was done stays done.
use Rattle.std.proofs.Common.{◌≡◌, ℕ, ◌+◌, ◌≤◌, Bool, true, false, cond, List, [], ◌∷◌, Option, Some, None, refl, ap, arith, inl, inr}
use Rattle.std.specs.Prelude.{◌&&◌, not, if◌then◌else◌, nat_lt, is_some, option_map, ◌⊎◌, find}
use Rattle.std.specs.List.{AllZip, list_any}
use Rattle.std.proofs.lemmas.Bool.{and_parts, and_from, le-ltb}
use Rattle.pisa_isa.specs.declared.places.Place.{Place}
use Rattle.ooo_table.specs.Row.{Row, is_before, returned}
use Rattle.ooo_table.specs.Execution.{unit_latency, is_store, same_place}
use Rattle.ooo_table.specs.Table.{Setting}
use Rattle.ooo_table.specs.Path.{execution, execution_of, stores, loads}
use Rattle.ooo_table.specs.Done.{producer, have_produced, done_before, finished, written, waiting, has_produced, unsquashed_before}
use Rattle.ooo_table.specs.Later.{Each, Where}

-- a mark is unchanged, or is one of cycle c
abbrev pub Now : {A : Type 0} → (A → Type 0) → Option A → Option A → Type 0
Now At old new = (new ≡ old) ⊎ ((old ≡ None) × (is_some new ≡ true) × Where new At)

-- the changes that a cycle may make in a row
pub record Changed (c : ℕ) (r s : Row) : Type 0 where
  pub fetched : s.fetched ≡ r.fetched
  pub dispatched : (s.dispatched ≡ r.dispatched) ⊎ ((waiting r ≡ true) × (s.dispatched ≡ Some c))
  pub issued : Now (λ d. d ≡ c) r.issued s.issued
  pub access : Now (λ a. a.at ≡ c) r.access s.access
  pub committed : Now (λ d. d ≡ c) r.committed s.committed
  pub squashed : Now (λ d. d ≡ c) r.squashed s.squashed

-- what was set before n is set before n
pub below_stays : (n : ℕ) {A : Type 0} (At : A → Type 0) (f : A → ℕ) (old new : Option A) → Now At old new
    → is_before n (option_map f old) ≡ true → is_before n (option_map f new) ≡ true
below_stays n At f old new (inl e) h = rw e h
below_stays n At f old new (inr (e, i, at)) h = absurd (none-below n f old e h)
  where
    none-below : {A : Type 0} (n : ℕ) (f : A → ℕ) (old : Option A) → old ≡ None → is_before n (option_map f old) ≡ true → ⊥
    none-below n f None e h = cc
    none-below n f (Some a) e h = cc

module _ (set : Setting) where
  finished_stays : (c n : ℕ) (o o' : Row) → Changed c o o' → is_before n (finished set o) ≡ true → is_before n (finished set o') ≡ true
  finished_stays c n o o' ch h = rw ch.fetched (by_kind (loads set o) h)
    where
      f : ℕ → ℕ
      f i = i + unit_latency (execution set o).unit

      by_kind : (b : Bool) → is_before n (if b then returned o else written set o) ≡ true
          → is_before n (if b then returned o' else option_map (λ i. i + unit_latency (execution set o).unit) o'.issued) ≡ true
      by_kind true h = below_stays n _ (λ a. a.back) o.access o'.access ch.access h
      by_kind false h = below_stays n _ (λ i. i + unit_latency (execution set o).unit) o.issued o'.issued ch.issued h

  -- a row is a producer for one that was dispatched at d
  abbrev made_for : ℕ → Place → Row → Bool
  made_for d p o = list_any (λ w. same_place w p) (execution set o).writes && is_some o.dispatched && unsquashed_before (Some d) o

  stands_stays : (c d : ℕ) (o o' : Row) → Changed c o o' → d ≤ c → unsquashed_before (Some d) o' ≡ unsquashed_before (Some d) o
  stands_stays c d o o' ch le = by_case o.squashed o'.squashed ch.squashed
    where
      by_case : (m m' : Option ℕ) → Now (λ x. x ≡ c) m m' → not (is_before d m') ≡ not (is_before d m)
      by_case m m' (inl e) = rw e refl
      by_case None None (inr h) = refl
      by_case None (Some x) (inr (e, i, at)) = let h : nat_lt x d ≡ false = le-ltb x d (omega arith) in ap not h
      by_case (Some y) m' (inr h) = absurd cc (h.0)

  made_stays : (c d : ℕ) (p : Place) (o o' : Row) → Changed c o o' → d ≤ c → waiting o ≡ false → made_for d p o' ≡ made_for d p o
  made_stays c d p o o' ch le passed = rw (ch.fetched, stands_stays c d o o' ch le) (by_case ch.dispatched)
    where
      by_case : (o'.dispatched ≡ o.dispatched) ⊎ ((waiting o ≡ true) × (o'.dispatched ≡ Some c))
          → (list_any (λ w. same_place w p) (execution set o).writes && is_some o'.dispatched && unsquashed_before (Some d) o) ≡ made_for d p o
      by_case (inl e) = rw e refl
      by_case (inr (w, e)) = absurd cc

  -- a producer that has produced has produced later too
  producer_stays : (c d : ℕ) (p : Place) (n : ℕ) (older before : List Row) → AllZip (Changed c) older before → d ≤ c → Each (λ _ o. waiting o ≡ false) older
      → has_produced set n (find (made_for d p) older) ≡ true → has_produced set n (find (made_for d p) before) ≡ true
  producer_stays c d p n [] [] zip le passed h = refl
  producer_stays c d p n (o ∷ older) (o' ∷ before) zip le passed h =
      rw (made_stays c d p o o' zip.0 le passed.0) (by_case (made_for d p o) (producer_stays c d p n older before zip.1 le passed.1) h)
    where
      by_case : (b : Bool) → (has_produced set n (find (made_for d p) older) ≡ true → has_produced set n (find (made_for d p) before) ≡ true)
          → has_produced set n (cond b (Some o) (find (made_for d p) older)) ≡ true → has_produced set n (cond b (Some o') (find (made_for d p) before)) ≡ true
      by_case true ih h = finished_stays c n o o' zip.0 h
      by_case false ih h = ih h
  producer_stays c d p n [] (o' ∷ before) zip le passed h = absurd zip
  producer_stays c d p n (o ∷ older) [] zip le passed h = absurd zip

  -- and so for all places that a row reads
  pub have_stays : (c d n : ℕ) (older before : List Row) (r s : Row) (places : List Place) → AllZip (Changed c) older before → d ≤ c
      → Each (λ _ o. waiting o ≡ false) older → r.dispatched ≡ Some d → s.dispatched ≡ Some d
      → have_produced set n older r places ≡ true → have_produced set n before s places ≡ true
  have_stays c d n older before r s [] zip le passed e f h = refl
  have_stays c d n older before r s (p ∷ places) zip le passed e f h =
      let parts : (has_produced set n (producer set older r p) ≡ true) × (have_produced set n older r places ≡ true) = and_parts _ _ h in
      and_from _ _ (rw f (producer_stays c d p n older before zip le passed (rw e at parts.0)))
      (have_stays c d n older before r s places zip le passed e f parts.1)

  pub below_written : (c n : ℕ) (r s : Row) → Changed c r s → is_before n (written set r) ≡ true → is_before n (written set s) ≡ true
  below_written c n r s ch h = rw ch.fetched (below_stays n _ (λ i. i + unit_latency (execution set r).unit) r.issued s.issued ch.issued h)

  pub done_stays : (c d n : ℕ) (older before : List Row) (r s : Row) → AllZip (Changed c) older before → Changed c r s → d ≤ c
      → Each (λ _ o. waiting o ≡ false) older → r.dispatched ≡ Some d → s.dispatched ≡ Some d
      → done_before set n older r ≡ true → done_before set n before s ≡ true
  done_stays c d n older before r s zip ch le passed e f h =
      rw (ap (λ w. is_store (execution_of set w).memory) ch.fetched) (by_kind (stores set r) h)
    where
      by_kind : (b : Bool)
          → cond b (is_before n (written set r) && have_produced set n older r (execution set r).second) (is_before n (finished set r)) ≡ true
          → cond b (is_before n (written set s) && have_produced set n before s (execution set s).second) (is_before n (finished set s)) ≡ true
      by_kind true h =
          let parts : (is_before n (written set r) ≡ true) × (have_produced set n older r (execution set r).second ≡ true) = and_parts _ _ h in
          and_from _ _ (below_written c n r s ch parts.0)
          (rw ch.fetched (have_stays c d n older before r s (execution set r).second zip le passed e f parts.1))
      by_kind false h = finished_stays c n r s ch h
