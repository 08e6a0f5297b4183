-- The walk over the rows that complete at a cycle.
use Rattle.std.proofs.Common.{◌≡◌, ℕ, ◌+◌, ◌<◌, ◌≤◌, Bool, true, false, cond, List, [], ◌∷◌, ◌++◌, Option, Some, None, refl, sym, ap, ◌∙◌, subst, arith, eq-eqb}
use Rattle.std.specs.Prelude.{◌&&◌, ◌==◌, nat_lt}
use Rattle.std.specs.Option.{option_and_then}
use Rattle.std.proofs.lemmas.Bool.{and_parts, ltb-true, lt-ltb, le-ltb}
use Rattle.std.proofs.lemmas.Bool.Decides.{nat_tests}
use Rattle.ruu_core.specs.Window.{Row, is_above, row_of, written_of, completes, least, next, falls_below, rises_to, or_else}
use Rattle.ooo_table.specs.declared.event.Event.{Event}
use Rattle.watched_stages.specs.Watched.{completion_mark, completion_event, completions_above}

-- ---- numbers of rows

other_number : (m n : ℕ) → n < m → (m == n) ≡ false
other_number m n lt = grind (arith, nat_tests)

above_more : (after : Option ℕ) (n m : ℕ) → is_above after n ≡ true → n ≤ m → is_above after m ≡ true
above_more None n m e le = refl
above_more (Some k) n m e le = let less : k < n = ltb-true k n e in lt-ltb k m (omega (arith, less, le))

-- a row that is found is below what all rows are below
pub found_below : (test : List Row → Row → Bool) (m : ℕ) (rows : List Row) (n : ℕ) → falls_below m rows ≡ true → least test rows ≡ Some n → n < m
found_below test m [] n f e = absurd cc
found_below test m (r ∷ older) n f e = by_older (least test older) refl e (λ k g. found_below test r.station.row older k parts.1 g)
  where
    parts : (nat_lt r.station.row m ≡ true) × (falls_below r.station.row older ≡ true)
    parts = and_parts (nat_lt r.station.row m) (falls_below r.station.row older) f

    here : r.station.row < m
    here = ltb-true r.station.row m parts.0

    by_test : (b : Bool) → cond b (Some r.station.row) None ≡ Some n → n < m
    by_test true h = let same : r.station.row ≡ n = cc in omega (arith, here, same)
    by_test false h = absurd cc

    by_older : (o : Option ℕ) → least test older ≡ o → or_else o (cond (test older r) (Some r.station.row) None) ≡ Some n
        → ((k : ℕ) → least test older ≡ Some k → k < r.station.row) → n < m
    by_older (Some k) g h ih =
        let lt : k < r.station.row = ih k g in
        let same : k ≡ n = cc in
        omega (arith, lt, here, same)
    by_older None g h ih = by_test (test older r) h

-- and above the number from which on it was looked for
found_above : (test : List Row → Row → Bool) (after : Option ℕ) (rows : List Row) (n : ℕ) → next test after rows ≡ Some n → is_above after n ≡ true
found_above test after [] n e = absurd cc
found_above test after (r ∷ older) n e = by_older (next test after older) refl e (found_above test after older n)
  where
    by_test : (b : Bool) → (is_above after r.station.row && test older r) ≡ b → cond b (Some r.station.row) None ≡ Some n → is_above after n ≡ true
    by_test true t h = let same : r.station.row ≡ n = cc in ap (is_above after) (sym same) ∙ (and_parts (is_above after r.station.row) (test older r) t).0
    by_test false t h = absurd cc

    by_older : (o : Option ℕ) → next test after older ≡ o → or_else o (cond (is_above after r.station.row && test older r) (Some r.station.row) None) ≡ Some n
        → (next test after older ≡ Some n → is_above after n ≡ true) → is_above after n ≡ true
    by_older (Some k) g h ih = let same : k ≡ n = cc in ih (g ∙ ap Some same)
    by_older None g h ih = by_test (is_above after r.station.row && test older r) refl h

-- ---- the events that are left

module _ (c : ℕ) where
  -- the event of the row with this number
  abbrev pub named : ℕ → List Row → Event
  named n rows = record { cycle = c; row = n; mark = completion_mark c (written_of n rows) }

  none_above : (n m : ℕ) (rows : List Row) → m ≤ n → falls_below m rows ≡ true → completions_above c (Some n) rows ≡ []
  none_above n m [] le f = refl
  none_above n m (r ∷ older) le f =
      let parts = and_parts (nat_lt r.station.row m) (falls_below r.station.row older) f in
      let lt : r.station.row < m = ltb-true r.station.row m parts.0 in
      let off : nat_lt n r.station.row ≡ false = le-ltb n r.station.row (omega (arith, lt, le)) in
      ap (λ es. es ++ cond (nat_lt n r.station.row && completes c older r) (completion_event c r ∷ []) []) (none_above n r.station.row older (omega (arith, lt, le)) parts.1)
      ∙ ap (λ b. cond (b && completes c older r) (completion_event c r ∷ []) []) off

  none_left : (after : Option ℕ) (rows : List Row) → next (completes c) after rows ≡ None → completions_above c after rows ≡ []
  none_left after [] e = refl
  none_left after (r ∷ older) e = by_older (next (completes c) after older) refl e (none_left after older)
    where
      by_test : (b : Bool) → (is_above after r.station.row && completes c older r) ≡ b → cond b (Some r.station.row) None ≡ None → completions_above c after older ≡ []
          → completions_above c after (r ∷ older) ≡ []
      by_test true t h none = absurd cc
      by_test false t h none =
          ap (λ es. es ++ cond (is_above after r.station.row && completes c older r) (completion_event c r ∷ []) []) none
          ∙ ap (λ b. cond b (completion_event c r ∷ []) []) t

      by_older : (o : Option ℕ) → next (completes c) after older ≡ o → or_else o (cond (is_above after r.station.row && completes c older r) (Some r.station.row) None) ≡ None
          → (next (completes c) after older ≡ None → completions_above c after older ≡ []) → completions_above c after (r ∷ older) ≡ []
      by_older (Some k) g h ih = absurd cc
      by_older None g h ih = by_test (is_above after r.station.row && completes c older r) refl h (ih g)

  -- the newest row is found
  here : (r : Row) (older : List Row) → falls_below r.station.row older ≡ true
      → completion_event c r ∷ [] ≡ named r.station.row (r ∷ older) ∷ completions_above c (Some r.station.row) (r ∷ older)
  here r older f =
      ap (λ b. record { cycle = c; row = r.station.row; mark = completion_mark c (option_and_then (λ (x : Row). x.written) (cond b (Some r) (row_of r.station.row older))) } ∷ []) (sym (eq-eqb r.station.row r.station.row refl))
      ∙ ap (λ es. named r.station.row (r ∷ older) ∷ es) (sym none)
    where
      none : completions_above c (Some r.station.row) (r ∷ older) ≡ []
      none =
          ap (λ es. es ++ cond (nat_lt r.station.row r.station.row && completes c older r) (completion_event c r ∷ []) []) (none_above r.station.row r.station.row older (omega arith) f)
          ∙ ap (λ b. cond (b && completes c older r) (completion_event c r ∷ []) []) (le-ltb r.station.row r.station.row (omega arith))

  next_first : (after : Option ℕ) (m : ℕ) (rows : List Row) (n : ℕ) → falls_below m rows ≡ true → next (completes c) after rows ≡ Some n
      → completions_above c after rows ≡ named n rows ∷ completions_above c (Some n) rows
  next_first after m [] n f e = absurd cc
  next_first after m (r ∷ older) n f e = by_older (next (completes c) after older) refl e (next_first after r.station.row older n below)
    where
      below : falls_below r.station.row older ≡ true
      below = (and_parts (nat_lt r.station.row m) (falls_below r.station.row older) f).1

      by_test : (b : Bool) → (is_above after r.station.row && completes c older r) ≡ b → cond b (Some r.station.row) None ≡ Some n → next (completes c) after older ≡ None
          → completions_above c after (r ∷ older) ≡ named n (r ∷ older) ∷ completions_above c (Some n) (r ∷ older)
      by_test true t h g =
          let same : r.station.row ≡ n = cc in
          ap (λ es. es ++ cond (is_above after r.station.row && completes c older r) (completion_event c r ∷ []) []) (none_left after older g)
          ∙ (ap (λ b. cond b (completion_event c r ∷ []) []) t
          ∙ subst (λ k. completion_event c r ∷ [] ≡ named k (r ∷ older) ∷ completions_above c (Some k) (r ∷ older)) same (here r older below))
      by_test false t h g = absurd cc

      found : next (completes c) after older ≡ Some n → completions_above c after older ≡ named n older ∷ completions_above c (Some n) older
          → completions_above c after (r ∷ older) ≡ named n (r ∷ older) ∷ completions_above c (Some n) (r ∷ older)
      found g first =
          let lt : n < r.station.row = found_below (λ older r. is_above after r.station.row && completes c older r) r.station.row older n below g in
          let on : is_above after r.station.row ≡ nat_lt n r.station.row =
          above_more after n r.station.row (found_above (completes c) after older n g) (omega (arith, lt)) ∙ sym (lt-ltb n r.station.row lt) in
          ap (λ es. es ++ cond (is_above after r.station.row && completes c older r) (completion_event c r ∷ []) []) first
          ∙ (ap (λ b. named n older ∷ (completions_above c (Some n) older ++ cond (b && completes c older r) (completion_event c r ∷ []) [])) on
          ∙ ap (λ b. record { cycle = c; row = n; mark = completion_mark c (option_and_then (λ (x : Row). x.written) (cond b (Some r) (row_of n older))) } ∷ completions_above c (Some n) (r ∷ older)) (sym (other_number r.station.row n lt)))

      by_older : (o : Option ℕ) → next (completes c) after older ≡ o → or_else o (cond (is_above after r.station.row && completes c older r) (Some r.station.row) None) ≡ Some n
          → (next (completes c) after older ≡ Some n → completions_above c after older ≡ named n older ∷ completions_above c (Some n) older)
          → completions_above c after (r ∷ older) ≡ named n (r ∷ older) ∷ completions_above c (Some n) (r ∷ older)
      by_older (Some k) g h ih = let same : k ≡ n = cc in let at : next (completes c) after older ≡ Some n = g ∙ ap Some same in found at (ih at)
      by_older None g h ih = by_test (is_above after r.station.row && completes c older r) refl h g

  -- the row that is found has the next event
  pub completion_next : (after : Option ℕ) (last : Option ℕ) (rows : List Row) (n : ℕ) → rises_to last rows ≡ true → next (completes c) after rows ≡ Some n
      → completions_above c after rows ≡ named n rows ∷ completions_above c (Some n) rows
  completion_next after (Some l) rows n f e = next_first after (l + 1) rows n f e
  completion_next after None [] n f e = absurd cc
  completion_next after None (r ∷ older) n f e = absurd cc

  pub completion_none : (after : Option ℕ) (rows : List Row) → next (completes c) after rows ≡ None → completions_above c after rows ≡ []
  completion_none after rows e = none_left after rows e
