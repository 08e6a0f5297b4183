-- The least row that recovers, and the walk to it.
use Rattle.std.proofs.Common.{◌≡◌, ℕ, ◌<◌, ◌≤◌, Bool, true, false, cond, List, [], ◌∷◌, Option, Some, None, refl, ap, ◌∙◌, arith, eq-eqb}
use Rattle.std.specs.Prelude.{◌&&◌, ◌||◌, ◌==◌, not, nat_lt, option_map, count_by}
use Rattle.std.specs.Option.{option_and_then}
use Rattle.std.proofs.lemmas.Bool.{and_parts, ltb-true, lt-ltb, eqb-true}
use Rattle.ruu_core.specs.declared.station.Station.{Station}
use Rattle.ruu_core.specs.Window.{Row, Window, is_above, is_at, is_row, is_live, row_of, written_of, completes, least, next, passes, rises_to, or_else}
use Rattle.ruu_core.specs.Laws.{AnswersTheLeast}
use Rattle.ruu_core.proofs.LawProofs.{answers_the_least}
use Rattle.core_parts.proofs.Lists.{count_cons}
use Rattle.core_recovery.specs.Recovery.{recovers, recovering_in}

pub both : {b : Bool} → b ≡ true → b ≡ false → ⊥
both e f = cc

or_true : (b : Bool) → (b || true) ≡ true
or_true true = refl
or_true false = refl

-- ---- one row

pub recovers_by : (c row : ℕ) (rows : List Row) (s : Station) → option_map (λ (r : Row). r.station) (row_of row rows) ≡ Some s
    → passes (recovers c) row rows ≡ (not s.wrong && not (s.predicted == s.actual) && is_at c (written_of row rows))
recovers_by c row [] s e = absurd cc
recovers_by c row (r ∷ older) s e = by_row (is_row row r) e (recovers_by c row older s)
  where
    by_row : (b : Bool) → option_map (λ (r : Row). r.station) (cond b (Some r) (row_of row older)) ≡ Some s
        → (option_map (λ (r : Row). r.station) (row_of row older) ≡ Some s → passes (recovers c) row older ≡ (not s.wrong && not (s.predicted == s.actual) && is_at c (written_of row older)))
        → cond b (recovers c older r) (passes (recovers c) row older) ≡ (not s.wrong && not (s.predicted == s.actual) && is_at c (option_and_then (λ (r : Row). r.written) (cond b (Some r) (row_of row older))))
    by_row true e ih =
        let same : r.station ≡ s = cc in ap (λ (x : Station). not x.wrong && not (x.predicted == x.actual) && is_at c r.written) same
    by_row false e ih = ih e

least_live : (test : List Row → Row → Bool) (rows : List Row) (n : ℕ) → least test rows ≡ Some n → is_live n rows ≡ true
least_live test [] n e = absurd cc
least_live test (r ∷ older) n e = by_older (least test older) refl e (least_live test older n)
  where
    by_test : (b : Bool) → cond b (Some r.station.row) None ≡ Some n → (is_row n r || is_live n older) ≡ true
    by_test true e = let same : r.station.row ≡ n = cc in ap (λ b. b || is_live n older) (eq-eqb r.station.row n same)
    by_test false e = absurd cc

    by_older : (o : Option ℕ) → least test older ≡ o → or_else o (cond (test older r) (Some r.station.row) None) ≡ Some n → (least test older ≡ Some n → is_live n older ≡ true) → (is_row n r || is_live n older) ≡ true
    by_older (Some m) f e ih = ap (λ b. is_row n r || b) (ih (f ∙ e)) ∙ or_true (is_row n r)
    by_older None f e ih = by_test (test older r) e

pub recovering_live : (c n : ℕ) (rows : List Row) → recovering_in c rows ≡ Some n → is_live n rows ≡ true
recovering_live c n rows e = least_live (λ older r. is_above None r.station.row && recovers c older r) rows n e

pub done_live : (c : ℕ) (after : Option ℕ) (n : ℕ) (rows : List Row) → next (completes c) after rows ≡ Some n → is_live n rows ≡ true
done_live c after n rows e = least_live (λ older r. is_above after r.station.row && completes c older r) rows n e

passes_sub : (c k : ℕ) (rows : List Row) → passes (recovers c) k rows ≡ true → passes (completes c) k rows ≡ true
passes_sub c k [] e = absurd cc
passes_sub c k (r ∷ older) e = by_row (is_row k r) e (passes_sub c k older)
  where
    by_row : (b : Bool) → cond b (recovers c older r) (passes (recovers c) k older) ≡ true → (passes (recovers c) k older ≡ true → passes (completes c) k older ≡ true)
        → cond b (completes c older r) (passes (completes c) k older) ≡ true
    by_row true e ih = ap (λ b. b || is_at c r.returned) (and_parts _ _ e).1
    by_row false e ih = ih e

passes_live : (test : List Row → Row → Bool) (k : ℕ) (rows : List Row) → passes test k rows ≡ true → is_live k rows ≡ true
passes_live test k [] e = absurd cc
passes_live test k (r ∷ older) e = by_row (is_row k r) e (passes_live test k older)
  where
    by_row : (b : Bool) → cond b (test older r) (passes test k older) ≡ true → (passes test k older ≡ true → is_live k older ≡ true) → (b || is_live k older) ≡ true
    by_row true e ih = refl
    by_row false e ih = ih e

-- ---- the walk

above_more : (after : Option ℕ) (n m : ℕ) → is_above after n ≡ true → n ≤ m → is_above after m ≡ true
above_more None n m e le = refl
above_more (Some k) n m e le = let less : k < n = ltb-true k n e in lt-ltb k m (omega (arith, less, le))

abbrev pub above_count : Option ℕ → List Row → ℕ
above_count after rows = count_by (λ (r : Row). is_above after r.station.row) rows

own : (n : ℕ) → nat_lt n n ≡ false
own n = by_test (nat_lt n n) refl
  where
    by_test : (b : Bool) → nat_lt n n ≡ b → b ≡ false
    by_test true e = let less : n < n = ltb-true n n e in absurd (omega (arith, less))
    by_test false e = refl

module _ (c : ℕ) (after : Option ℕ) (w : Window) (rises : rises_to w.last w.rows ≡ true) where
  done_law : AnswersTheLeast (completes c) after w
  done_law = answers_the_least (completes c) after w rises

  law : AnswersTheLeast (recovers c) after w
  law = answers_the_least (recovers c) after w rises

  further : (n : ℕ) → AnswersTheLeast (recovers c) (Some n) w
  further n = answers_the_least (recovers c) (Some n) w rises

  -- the next row that completes recovers
  pub found : (n : ℕ) → next (completes c) after w.rows ≡ Some n → passes (recovers c) n w.rows ≡ true → next (recovers c) after w.rows ≡ Some n
  found n e p = by_value (next (recovers c) after w.rows) refl
    where
      by_value : (o : Option ℕ) → next (recovers c) after w.rows ≡ o → o ≡ Some n
      by_value None f = absurd (both p (law.none n f (done_law.found n e).0))
      by_value (Some m) f =
          let first : n ≤ m = done_law.older_first n m e (law.found m f).0 (passes_sub c m w.rows (law.found m f).1) in
          let last : m ≤ n = law.older_first m n f (done_law.found n e).0 p in
          let same : m ≡ n = omega (arith, first, last) in
          ap Some same

  behind : (n m : ℕ) → next (completes c) after w.rows ≡ Some n → passes (recovers c) n w.rows ≡ false → next (recovers c) after w.rows ≡ Some m → n < m
  behind n m e off f =
      let first : n ≤ m = done_law.older_first n m e (law.found m f).0 (passes_sub c m w.rows (law.found m f).1) in
      let differ : n ≡ m → ⊥ = λ h. both (ap (λ k. passes (recovers c) k w.rows) h ∙ (law.found m f).1) off in
      omega (arith, first, differ)

  -- it doesn't
  pub onward : (n : ℕ) → next (completes c) after w.rows ≡ Some n → passes (recovers c) n w.rows ≡ false → next (recovers c) (Some n) w.rows ≡ next (recovers c) after w.rows
  onward n e off = by_values (next (recovers c) (Some n) w.rows) (next (recovers c) after w.rows) refl refl
    where
      above_after : (m : ℕ) → next (recovers c) (Some n) w.rows ≡ Some m → is_above after m ≡ true
      above_after m f =
          let less : n < m = ltb-true n m ((further n).found m f).0 in
          above_more after n m (done_law.found n e).0 (omega (arith, less))

      by_values : (o p : Option ℕ) → next (recovers c) (Some n) w.rows ≡ o → next (recovers c) after w.rows ≡ p → o ≡ p
      by_values None None f g = refl
      by_values (Some m) None f g = absurd (both ((further n).found m f).1 (law.none m g (above_after m f)))
      by_values None (Some m) f g = absurd (both (law.found m g).1 ((further n).none m f (lt-ltb n m (behind n m e off g))))
      by_values (Some k) (Some m) f g =
          let first : k ≤ m = (further n).older_first k m f (lt-ltb n m (behind n m e off g)) (law.found m g).1 in
          let last : m ≤ k = law.older_first m k g (above_after k f) ((further n).found k f).1 in
          let same : k ≡ m = omega (arith, first, last) in
          ap Some same

  -- no row completes any more
  pub over : next (completes c) after w.rows ≡ None → next (recovers c) after w.rows ≡ None
  over e = by_value (next (recovers c) after w.rows) refl
    where
      by_value : (o : Option ℕ) → next (recovers c) after w.rows ≡ o → o ≡ None
      by_value None f = refl
      by_value (Some m) f = absurd (both (passes_sub c m w.rows (law.found m f).1) (done_law.none m e (law.found m f).0))

-- ---- it ends

module _ (after : Option ℕ) (n : ℕ) (above : is_above after n ≡ true) where
  at_most : (r : Row) → cond {A = ℕ} (is_above (Some n) r.station.row) 1 0 ≤ cond {A = ℕ} (is_above after r.station.row) 1 0
  at_most r = by_test (nat_lt n r.station.row) refl
    where
      by_test : (b : Bool) → nat_lt n r.station.row ≡ b → cond {A = ℕ} b 1 0 ≤ cond {A = ℕ} (is_above after r.station.row) 1 0
      by_test true h =
          let m : n < r.station.row = ltb-true n r.station.row h in
          let k : cond {A = ℕ} (is_above after r.station.row) 1 0 ≡ 1 = ap (λ b. cond {A = ℕ} b 1 0) (above_more after n r.station.row above (omega (arith, m))) in
          omega (arith, k)
      by_test false h = omega arith

  no_more : (rows : List Row) → above_count (Some n) rows ≤ above_count after rows
  no_more [] = omega arith
  no_more (r ∷ older) =
      omega (arith, count_cons (λ (x : Row). is_above (Some n) x.station.row) r older, count_cons (λ (x : Row). is_above after x.station.row) r older, at_most r, no_more older)

  less : (rows : List Row) → is_live n rows ≡ true → above_count (Some n) rows < above_count after rows
  less [] h = absurd cc
  less (r ∷ older) h = by_row (is_row n r) refl h (less older)
    where
      by_row : (b : Bool) → is_row n r ≡ b → (b || is_live n older) ≡ true → (is_live n older ≡ true → above_count (Some n) older < above_count after older)
          → above_count (Some n) (r ∷ older) < above_count after (r ∷ older)
      by_row true is h ih =
          let same : r.station.row ≡ n = eqb-true r.station.row n is in
          let here : cond {A = ℕ} (is_above after r.station.row) 1 0 ≡ 1 = ap (λ b. cond {A = ℕ} b 1 0) (ap (is_above after) same ∙ above) in
          let there : cond {A = ℕ} (is_above (Some n) r.station.row) 1 0 ≡ 0 = ap (λ b. cond {A = ℕ} b 1 0) (ap (nat_lt n) same ∙ own n) in
          omega (arith, count_cons (λ (x : Row). is_above (Some n) x.station.row) r older, count_cons (λ (x : Row). is_above after x.station.row) r older, here, there, no_more older)
      by_row false is h ih =
          omega (arith, count_cons (λ (x : Row). is_above (Some n) x.station.row) r older, count_cons (λ (x : Row). is_above after x.station.row) r older, at_most r, ih h)

pub fewer : (c : ℕ) (after : Option ℕ) (w : Window) → rises_to w.last w.rows ≡ true → (n : ℕ) → next (completes c) after w.rows ≡ Some n
    → above_count (Some n) w.rows < above_count after w.rows
fewer c after w rises n e =
    let law = answers_the_least (completes c) after w rises in
    less after n (law.found n e).0 w.rows (passes_live (completes c) n w.rows (law.found n e).1)
