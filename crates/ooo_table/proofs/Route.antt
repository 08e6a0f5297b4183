-- How rows follow the path: the right ones are in one line, and wrong ones are squashed before it goes on.
use Rattle.std.proofs.Common.{◌≡◌, ℕ, zero, suc, ◌+◌, ◌<◌, ◌≤◌, Bool, true, false, cond, List, [], ◌∷◌, Option, Some, None, refl, sym, ap, ◌∙◌, subst, arith, inl, inr}
use Rattle.std.specs.Prelude.{◌==◌, ◌&&◌, ◌||◌, not, is_none, is_some, option_map, ◌⊎◌, find}
use Rattle.std.specs.List.{AllZip, list_any}
use Rattle.std.proofs.lemmas.Bool.{cond_both, and_parts, and_from, ltb-true, leb-true, eqb-true, le-ltb, lt-ltb, not-true, not-false}
use Rattle.std.proofs.lemmas.Bool.Decides.{nat_tests}
use Rattle.pisa_isa.specs.declared.classes.UnitClass.{UnitClass}
use Rattle.pisa_isa.specs.declared.classes.UnitClass.TheVariants.{Free, Alu, Multiply, Divide}
use Rattle.bpred_unit.specs.declared.predictor.Look.{Look}
use Rattle.ooo_table.specs.Row.{Row, Fetched, is_at, is_before, sweep}
use Rattle.ooo_table.specs.Execution.{unit_latency}
use Rattle.ooo_table.specs.Table.{Setting, Table, NextFetch}
use Rattle.ooo_table.specs.Path.{execution, execution_of, mispredicted, next_fetch_after, redirected}
use Rattle.ooo_table.specs.Done.{written}
use Rattle.ooo_table.specs.Commit.{commit, commit_row}
use Rattle.ooo_table.specs.Recovery.{recover, squash_row, recovers}
use Rattle.ooo_table.specs.References.{predictor_events_of, references_of, store_references}
use Rattle.ooo_table.specs.Issue.{issue, issue_row}
use Rattle.ooo_table.specs.Dispatch.{dispatch, dispatch_row}
use Rattle.ooo_table.specs.Fetch.{fetch_up_to, fetch_one, may_fetch, fetched_row, queue_cycle}
use Rattle.ooo_table.specs.Cycle.{table, cycle}
use Rattle.ooo_table.specs.Later.{Each}
use Rattle.ooo_table.specs.PathLaws.{newest, Starts, IsPath}
use Rattle.ooo_table.proofs.Order.{Changed, Now}
use Rattle.ooo_table.proofs.RowFacts.{sweep_keeps, changed_commit, changed_squash, changed_dispatch, changed_issue}

pub latency_some : (u : UnitClass) → 1 ≤ unit_latency u
latency_some Free = omega arith
latency_some Alu = omega arith
latency_some Multiply = omega arith
latency_some Divide = omega arith

pub second_false : (x y : Bool) → x ≡ true → (x && y) ≡ false → y ≡ false
second_false true y e h = h
second_false false y e h = absurd cc

-- all wrong rows are squashed
abbrev pub Clean : List Row → Type 0
Clean rows = Each (λ _ o. o.fetched.right ≡ false → is_some o.squashed ≡ true) rows

module _ (set : Setting) where
  -- what comes behind the right row m is wrong, and it hasn't recovered before cycle n
  abbrev pub Strays : ℕ → Option Row → Type 0
  Strays n None = ⊥
  Strays n (Some m) = ((execution set m).stops ≡ true) ⊎ ((mispredicted set m ≡ true) × (is_before n (written set m) ≡ false))

  pub record Route (n : ℕ) (older : List Row) (r : Row) : Type 0 where
    pub early : r.fetched.at < n
    pub follows : r.fetched.right ≡ true → Starts set (newest older) r.fetched
    pub clean : r.fetched.right ≡ true → Clean older
    pub strays : r.fetched.right ≡ false → r.squashed ≡ None → Strays n (newest older)

  -- the newest right row stays the newest in a change
  data Same (c : ℕ) : Option Row → Option Row → Type 0 where
    none : Same c None None
    some : (m m' : Row) → Changed c m m' → Same c (Some m) (Some m')

  newest_same : (c : ℕ) (older before : List Row) → AllZip (Changed c) older before → Same c (newest older) (newest before)
  newest_same c [] [] zip = none
  newest_same c (o ∷ older) (o' ∷ before) zip =
      by_case o.fetched.right o'.fetched.right (ap (λ w. w.right) zip.0.fetched) (newest_same c older before zip.1)
    where
      by_case : (b b' : Bool) → b' ≡ b → Same c (newest older) (newest before) → Same c (cond b (Some o) (newest older)) (cond b' (Some o') (newest before))
      by_case true true e ih = some o o' zip.0
      by_case false false e ih = ih
      by_case true false e ih = absurd cc
      by_case false true e ih = absurd cc
  newest_same c [] (o' ∷ before) zip = absurd zip
  newest_same c (o ∷ older) [] zip = absurd zip

  -- W is unchanged, or new and behind c
  pub written_now : (c : ℕ) (m m' : Row) → Changed c m m' → (written set m' ≡ written set m) ⊎ ((written set m ≡ None) × (written set m' ≡ Some (c + unit_latency (execution set m).unit)))
  written_now c m m' ch = rw ch.fetched (by_case m.issued m'.issued ch.issued)
    where
      f : ℕ → ℕ
      f i = i + unit_latency (execution set m).unit

      by_case : (a b : Option ℕ) → Now (λ d. d ≡ c) a b
          → (option_map (λ i. i + unit_latency (execution set m).unit) b ≡ option_map (λ i. i + unit_latency (execution set m).unit) a)
          ⊎ ((option_map (λ i. i + unit_latency (execution set m).unit) a ≡ None) × (option_map (λ i. i + unit_latency (execution set m).unit) b ≡ Some (c + unit_latency (execution set m).unit)))
      by_case a b (inl e) = inl (rw e refl)
      by_case None None (inr (e, i, at)) = inl refl
      by_case None (Some y) (inr (e, i, at)) = inr (refl, rw at refl)
      by_case (Some x) b (inr (e, i, at)) = absurd cc

  none_below : (n : ℕ) (m : Option ℕ) → m ≡ None → is_before n m ≡ true → ⊥
  none_below n None e h = cc
  none_below n (Some x) e h = cc

  -- both facts hold on in a change
  starts_stays : (c : ℕ) {o o' : Option Row} (f : Fetched) → Same c o o' → Starts set o f → Starts set o' f
  starts_stays c f none h = h
  starts_stays c f (some m m' ch) h = (
    ap (λ w. (execution_of set w).stops) ch.fetched ∙ h.0,
    h.1 ∙ ap (λ w. (execution_of set w).after) (sym ch.fetched),
    h.2 ∙ ap (λ w. (execution_of set w).next) (sym ch.fetched),
    λ e. by_case (written_now c m m' ch) (h.3 (same_misprediction e)),
  )
    where
      same_misprediction : mispredicted set m' ≡ true → mispredicted set m ≡ true
      same_misprediction e = ap (λ w. w.right && not (execution_of set w).stops && not (w.predicted == (execution_of set w).next)) (sym ch.fetched) ∙ e

      by_case : (written set m' ≡ written set m) ⊎ ((written set m ≡ None) × (written set m' ≡ Some (c + unit_latency (execution set m).unit)))
          → is_before f.at (written set m) ≡ true → is_before f.at (written set m') ≡ true
      by_case (inl e) h = rw e h
      by_case (inr (e, g)) h = absurd (none_below f.at (written set m) e h)

  strays_stay : (c n : ℕ) {o o' : Option Row} → n ≤ suc c → Same c o o' → Strays n o → Strays n o'
  strays_stay c n le none h = absurd h
  strays_stay c n le (some m m' ch) (inl h) = inl (ap (λ w. (execution_of set w).stops) ch.fetched ∙ h)
  strays_stay c n le (some m m' ch) (inr h) = inr (ap (λ w. w.right && not (execution_of set w).stops && not (w.predicted == (execution_of set w).next)) ch.fetched ∙ h.0, by_case (written_now c m m' ch) h.1)
    where
      by_case : (written set m' ≡ written set m) ⊎ ((written set m ≡ None) × (written set m' ≡ Some (c + unit_latency (execution set m).unit)))
          → is_before n (written set m) ≡ false → is_before n (written set m') ≡ false
      by_case (inl e) h = rw e h
      by_case (inr (e, g)) h = rw g (le-ltb (c + unit_latency (execution set m).unit) n (omega (arith, latency_some (execution set m).unit)))

  squash_stays : (c : ℕ) (r s : Row) → Changed c r s → is_some r.squashed ≡ true → is_some s.squashed ≡ true
  squash_stays c r s ch h = by_case ch.squashed
    where
      by_case : Now (λ d. d ≡ c) r.squashed s.squashed → is_some s.squashed ≡ true
      by_case (inl e) = rw e h
      by_case (inr (e, i, at)) = i

  unsquashed : (c : ℕ) (r s : Row) → Changed c r s → s.squashed ≡ None → r.squashed ≡ None
  unsquashed c r s ch e = by_case ch.squashed
    where
      by_case : Now (λ d. d ≡ c) r.squashed s.squashed → r.squashed ≡ None
      by_case (inl f) = sym f ∙ e
      by_case (inr (f, i, at)) = f

  clean_stays : (c : ℕ) (older before : List Row) → AllZip (Changed c) older before → Clean older → Clean before
  clean_stays c [] [] zip p = tt
  clean_stays c (o ∷ older) (o' ∷ before) zip p =
      (λ w. squash_stays c o o' zip.0 (p.0 (ap (λ w. w.right) (sym zip.0.fetched) ∙ w)), clean_stays c older before zip.1 p.1)
  clean_stays c [] (o' ∷ before) zip p = absurd zip
  clean_stays c (o ∷ older) [] zip p = absurd zip

  route_stays : (c n : ℕ) (older before : List Row) (r s : Row) → n ≤ suc c → AllZip (Changed c) older before → Changed c r s → Route n older r → Route n before s
  route_stays c n older before r s le zip ch t =
      record {
        early = rw ch.fetched t.early;
        follows = λ w. let k : Starts set (newest older) r.fetched = t.follows (ap (λ w. w.right) (sym ch.fetched) ∙ w) in
            rw ch.fetched (starts_stays c r.fetched (newest_same c older before zip) k);
        clean = λ w. clean_stays c older before zip (t.clean (ap (λ w. w.right) (sym ch.fetched) ∙ w));
        strays = λ w e. strays_stay c n le (newest_same c older before zip) (t.strays (ap (λ w. w.right) (sym ch.fetched) ∙ w) (unsquashed c r s ch e));
      }

  pub record Ahead (n : ℕ) (rows : List Row) (u : NextFetch) : Type 0 where
    pub follows : u.right ≡ true → Starts set (newest rows) (record { pc = u.pc; predicted = 0; top = 0; right = true; state = u.state; at = u.earliest; queued = 0 })
    pub clean : u.right ≡ true → Clean rows
    pub strays : u.right ≡ false → Strays n (newest rows)

  ahead_stays : (c n : ℕ) (rows new : List Row) (u : NextFetch) → n ≤ suc c → AllZip (Changed c) rows new → Ahead n rows u → Ahead n new u
  ahead_stays c n rows new u le zip a =
      record {
        follows = λ w. starts_stays c _ (newest_same c rows new zip) (a.follows w);
        clean = λ w. clean_stays c rows new zip (a.clean w);
        strays = λ w. strays_stay c n le (newest_same c rows new zip) (a.strays w);
      }

  -- a stage that only sets marks keeps all this
  pub stage_keeps : (c n : ℕ) (f : List Row → Row → Row) (rows : List Row) (u : NextFetch) → n ≤ suc c → ((older : List Row) (r : Row) → Changed c r (f older r))
      → Each (Route n) rows × Ahead n rows u → Each (Route n) (sweep f rows) × Ahead n (sweep f rows) u
  stage_keeps c n f rows u le changed (t, a) =
      let both : AllZip (Changed c) rows (sweep f rows) × Each (Route n) (sweep f rows) =
      sweep_keeps (Route n) (Changed c) f changed (λ older before r zip below g. route_stays c n older before r _ le zip (changed before r) g) rows t in
      (both.1, ahead_stays c n rows (sweep f rows) u le both.0 a)

  pub at_below : (c n : ℕ) (m : Option ℕ) → is_at c m ≡ true → is_before n m ≡ true → c < n
  at_below c n None h k = absurd cc
  at_below c n (Some t) h k = let e : t ≡ c = eqb-true _ _ h in omega (arith, ltb-true _ _ k)

  -- only the newest right row can recover
  pub recovers_newest : (c : ℕ) (rows : List Row) (m : Row) → Each (Route c) rows → find (recovers set c) rows ≡ Some m → (newest rows ≡ Some m) × (recovers set c m ≡ true)
  recovers_newest c [] m t e = absurd cc
  recovers_newest c (r ∷ older) m t e = by_self (recovers set c r) r.fetched.right refl refl (recovers_newest c older m t.1) e
    where
      wrong : recovers set c r ≡ true → r.fetched.right ≡ false → ⊥
      wrong f g = let k : r.fetched.right ≡ true = (and_parts _ _ (and_parts _ _ (and_parts _ _ f).0).0).0 in cc

      late : r.fetched.right ≡ true → (newest older ≡ Some m) × (recovers set c m ≡ true) → ⊥
      late w (n, k) =
          let parts : (mispredicted set m ≡ true) × (is_at c (written set m) ≡ true) = and_parts _ _ k in
          let start : Starts set (newest older) r.fetched = t.0.follows w in
          let at : Starts set (Some m) r.fetched = subst (λ o. Starts set o r.fetched) n start in
          let after : c < r.fetched.at = at_below c r.fetched.at (written set m) parts.1 (at.3 parts.0) in
          omega (arith, after, t.0.early)

      by_self : (b d : Bool) → recovers set c r ≡ b → r.fetched.right ≡ d
          → (find (recovers set c) older ≡ Some m → (newest older ≡ Some m) × (recovers set c m ≡ true))
          → cond b (Some r) (find (recovers set c) older) ≡ Some m → (cond d (Some r) (newest older) ≡ Some m) × (recovers set c m ≡ true)
      by_self true true f g ih e = let k : r ≡ m = cc in (e, subst (λ x. recovers set c x ≡ true) k f)
      by_self true false f g ih e = absurd (wrong f g)
      by_self false true f g ih e = absurd (late g (ih e))
      by_self false false f g ih e = ih e

  -- without a recovery in this cycle, a wrong row is still wrong
  pub find_none : (c : ℕ) (rows : List Row) → list_any (recovers set c) rows ≡ false → find (recovers set c) rows ≡ None
  find_none c [] e = refl
  find_none c (r ∷ rows) e = by_case (recovers set c r) e (find_none c rows)
    where
      by_case : (b : Bool) → (b || list_any (recovers set c) rows) ≡ false → (list_any (recovers set c) rows ≡ false → find (recovers set c) rows ≡ None)
          → cond b (Some r) (find (recovers set c) rows) ≡ None
      by_case true e ih = absurd cc
      by_case false e ih = ih e

  none_recovers : (c : ℕ) (rows : List Row) (m : Row) → newest rows ≡ Some m → find (recovers set c) rows ≡ None → recovers set c m ≡ false
  none_recovers c [] m n e = absurd cc
  none_recovers c (r ∷ rows) m n e = by_case r.fetched.right (recovers set c r) refl n e (none_recovers c rows m)
    where
      by_case : (b d : Bool) → recovers set c r ≡ d → cond b (Some r) (newest rows) ≡ Some m → cond d (Some r) (find (recovers set c) rows) ≡ None
          → (newest rows ≡ Some m → find (recovers set c) rows ≡ None → recovers set c m ≡ false) → recovers set c m ≡ false
      by_case true false f n e ih = let k : r ≡ m = cc in subst (λ x. recovers set c x ≡ false) k f
      by_case false false f n e ih = ih n e
      by_case b true f n e ih = absurd cc

  strays_on : (c : ℕ) (rows : List Row) → find (recovers set c) rows ≡ None → Strays c (newest rows) → Strays (suc c) (newest rows)
  strays_on c rows e s = by_newest (newest rows) refl s
    where
      by_newest : (o : Option Row) → newest rows ≡ o → Strays c o → Strays (suc c) o
      by_newest None n s = absurd s
      by_newest (Some m) n (inl s) = inl s
      by_newest (Some m) n (inr s) = inr (s.0, not_yet c (written set m) s.1 (apart s.0 (none_recovers c rows m n e)))
        where
          apart : mispredicted set m ≡ true → recovers set c m ≡ false → is_at c (written set m) ≡ false
          apart h k = second_false _ _ h k

          not_yet : (c : ℕ) (w : Option ℕ) → is_before c w ≡ false → is_at c w ≡ false → is_before (suc c) w ≡ false
          not_yet c None h k = refl
          not_yet c (Some t) h k = grind (arith, nat_tests)

  recovers_same : (c : ℕ) (before : List Row) (r : Row) → recovers set c (squash_row set c before r) ≡ recovers set c r
  recovers_same c before r =
      cond_both (list_any (recovers set c) before && is_none r.squashed) (record r { squashed = Some c }) r (λ s. recovers set c s ≡ recovers set c r)
      (λ _. refl) (λ _. refl)

  pub any_same : (c : ℕ) (rows : List Row) → list_any (recovers set c) (sweep (squash_row set c) rows) ≡ list_any (recovers set c) rows
  any_same c [] = refl
  any_same c (r ∷ rows) =
      ap (λ b. b || list_any (recovers set c) (sweep (squash_row set c) rows)) (recovers_same c (sweep (squash_row set c) rows) r)
      ∙ ap (λ b. recovers set c r || b) (any_same c rows)

  -- a row is left unsquashed only where no older row recovers
  squash_turn : (c : ℕ) (before : List Row) (r : Row) → (squash_row set c before r).squashed ≡ None → list_any (recovers set c) before ≡ false
  squash_turn c before r = by_any (list_any (recovers set c) before) (is_none r.squashed) refl
    where
      by_any : (b d : Bool) → is_none r.squashed ≡ d → (cond (b && d) (record r { squashed = Some c }) r).squashed ≡ None → b ≡ false
      by_any false d f e = refl
      by_any true true f e = absurd cc
      by_any true false f e = absurd cc (sym f ∙ ap is_none e)

  squashed_turn : (c : ℕ) (before : List Row) (r : Row) → list_any (recovers set c) before ≡ true → is_some (squash_row set c before r).squashed ≡ true
  squashed_turn c before r = by_any (list_any (recovers set c) before) (is_none r.squashed) refl
    where
      by_any : (b d : Bool) → is_none r.squashed ≡ d → b ≡ true → is_some (cond (b && d) (record r { squashed = Some c }) r).squashed ≡ true
      by_any true true f e = refl
      by_any true false f e = not-false _ f
      by_any false d f e = absurd cc

  squash_route : (c : ℕ) (older before : List Row) (r : Row) → AllZip (Changed c) older before → Route c older r → Route (suc c) before (squash_row set c before r)
  squash_route c older before r zip t =
      let k : Route c before (squash_row set c before r) = route_stays c c older before r _ (omega arith) zip (changed_squash set c before r) t in
      record {
        early = omega (arith, k.early);
        follows = k.follows;
        clean = k.clean;
        strays = λ w e. strays_on c before (find_none c before (squash_turn c before r e)) (k.strays w e);
      }

  pub zip_of : (f : List Row → Row → Row) {c : ℕ} → ((older : List Row) (r : Row) → Changed c r (f older r)) → (rows : List Row) → AllZip (Changed c) rows (sweep f rows)
  zip_of f changed [] = tt
  zip_of f changed (r ∷ rows) = (changed (sweep f rows) r, zip_of f changed rows)

  pub not_both : {b : Bool} → b ≡ true → b ≡ false → ⊥
  not_both e f = cc

  some_any : (c : ℕ) (rows : List Row) (m : Row) → find (recovers set c) rows ≡ Some m → list_any (recovers set c) rows ≡ true
  some_any c [] m e = absurd cc
  some_any c (r ∷ rows) m e = by_case (recovers set c r) e (some_any c rows m)
    where
      by_case : (b : Bool) → cond b (Some r) (find (recovers set c) rows) ≡ Some m → (find (recovers set c) rows ≡ Some m → list_any (recovers set c) rows ≡ true)
          → (b || list_any (recovers set c) rows) ≡ true
      by_case true e ih = refl
      by_case false e ih = ih e

  cleaned : (c : ℕ) (rows : List Row) (m : Row) → Each (Route c) rows → find (recovers set c) rows ≡ Some m → Clean (sweep (squash_row set c) rows)
  cleaned c [] m t e = absurd cc
  cleaned c (r ∷ older) m t e = by_self (recovers set c r) refl e (cleaned c older m t.1)
    where
      before : List Row
      before = sweep (squash_row set c) older

      zip : AllZip (Changed c) older before
      zip = zip_of (squash_row set c) (changed_squash set c) older

      right_of : recovers set c r ≡ true → r.fetched.right ≡ true
      right_of f = (and_parts _ _ (and_parts _ _ (and_parts _ _ f).0).0).0

      by_self : (b : Bool) → recovers set c r ≡ b → cond b (Some r) (find (recovers set c) older) ≡ Some m
          → (find (recovers set c) older ≡ Some m → Clean before) → Clean (squash_row set c before r ∷ before)
      by_self true f e ih =
          ((λ w. absurd (not_both (right_of f) (ap (λ x. x.right) (sym (changed_squash set c before r).fetched) ∙ w))), clean_stays c older before zip (t.0.clean (right_of f)))
      by_self false f e ih =
          ((λ w. squashed_turn c before r (any_same c older ∙ some_any c older m e)), ih e)

  -- the next fetch after a recovery
  redirect_ahead : (c : ℕ) (rows : List Row) (u : NextFetch) → 1 ≤ set.config.penalty → Each (Route c) rows → Ahead c rows u
      → Ahead (suc c) (sweep (squash_row set c) rows) (redirected set c (find (recovers set c) rows) u)
  redirect_ahead c rows u pen t a = by_find (find (recovers set c) rows) refl
    where
      zip : AllZip (Changed c) rows (sweep (squash_row set c) rows)
      zip = zip_of (squash_row set c) (changed_squash set c) rows

      by_find : (o : Option Row) → find (recovers set c) rows ≡ o → Ahead (suc c) (sweep (squash_row set c) rows) (redirected set c o u)
      by_find None e =
          ahead_stays c (suc c) rows (sweep (squash_row set c) rows) u (omega arith) zip
          (record { follows = a.follows; clean = a.clean; strays = λ w. strays_on c rows e (a.strays w) })
      by_find (Some m) e =
          let new : (newest rows ≡ Some m) × (recovers set c m ≡ true) = recovers_newest c rows m t e in
          let parts : (mispredicted set m ≡ true) × (is_at c (written set m) ≡ true) = and_parts _ _ new.1 in
          let off : ((m.fetched.right && not (execution set m).stops) ≡ true) × (not (m.fetched.predicted == (execution set m).next) ≡ true) = and_parts _ _ parts.0 in
          let next : Fetched = record { pc = (execution set m).next; predicted = 0; top = 0; right = true; state = (execution set m).after; at = c + set.config.penalty; queued = 0 } in
          let start : Starts set (Some m) next =
          (not-true _ (and_parts _ _ off.0).1, refl, refl, λ h. later c (c + set.config.penalty) (written set m) (omega arith) parts.1) in
          record {
            follows = λ w. starts_stays c next (newest_same c rows (sweep (squash_row set c) rows) zip) (subst (λ o. Starts set o next) (sym new.0) start);
            clean = λ w. cleaned c rows m t e;
            strays = λ w. absurd (not_both refl w);
          }
        where
          later : (c n : ℕ) (w : Option ℕ) → c < n → is_at c w ≡ true → is_before n w ≡ true
          later c n None h k = absurd cc
          later c n (Some t) h k = let e : t ≡ c = eqb-true _ _ k in lt-ltb t n (omega arith)

  pub recover_keeps : (c : ℕ) (t : Table) → 1 ≤ set.config.penalty → Each (Route c) t.rows × Ahead c t.rows t.next_fetch
      → Each (Route (suc c)) (recover set c t).rows × Ahead (suc c) (recover set c t).rows (recover set c t).next_fetch
  recover_keeps c t pen (route, ahead) = (swept t.rows route, redirect_ahead c t.rows t.next_fetch pen route ahead)
    where
      swept : (rows : List Row) → Each (Route c) rows → Each (Route (suc c)) (sweep (squash_row set c) rows)
      swept [] t = tt
      swept (r ∷ older) t =
          (squash_route c older (sweep (squash_row set c) older) r (zip_of (squash_row set c) (changed_squash set c) older) t.0, swept older t.1)

  -- in the fetch stage
  starts_later : (o : Option Row) (f g : Fetched) → f.state ≡ g.state → f.pc ≡ g.pc → f.at ≤ g.at → Starts set o f → Starts set o g
  starts_later None f g e p le h = (sym e ∙ h.0, sym p ∙ h.1)
  starts_later (Some m) f g e p le h = (h.0, sym e ∙ h.1, sym p ∙ h.2, λ k. below_later f.at g.at (written set m) le (h.3 k))
    where
      below_later : (n k : ℕ) (w : Option ℕ) → n ≤ k → is_before n w ≡ true → is_before k w ≡ true
      below_later n k None le h = absurd cc
      below_later n k (Some t) le h = let lt : t < n = ltb-true _ _ h in lt-ltb t k (omega arith)

  pub fetched_route : (c : ℕ) (rows : List Row) (u : NextFetch) (look : Look) (q : ℕ) → u.earliest ≤ c → Ahead (suc c) rows u → Route (suc c) rows (fetched_row set c u look q)
  fetched_route c rows u look q le a =
      record {
        early = omega arith;
        follows = λ w. starts_later (newest rows) _ (fetched_row set c u look q).fetched refl refl le (a.follows w);
        clean = a.clean;
        strays = λ w e. a.strays w;
      }

  pub fetched_ahead : (c : ℕ) (rows : List Row) (r : Row) → r.issued ≡ None → Route (suc c) rows r → (r.fetched.right ≡ false → Strays (suc c) (newest rows))
      → Ahead (suc c) (r ∷ rows) (next_fetch_after set c r)
  fetched_ahead c rows r fresh t wrong =
      record { follows = λ w. follows w (on_path w); clean = λ w. (λ v. absurd (not_both (on_path w) v), t.clean (on_path w)); strays = strays r.fetched.right refl }
    where
      on_path : (r.fetched.right && not (execution set r).stops && (r.fetched.predicted == (execution set r).next)) ≡ true → r.fetched.right ≡ true
      on_path w = (and_parts r.fetched.right (not (execution set r).stops) (and_parts (r.fetched.right && not (execution set r).stops) (r.fetched.predicted == (execution set r).next) w).0).0

      after : Fetched
      after = record { pc = r.fetched.predicted; predicted = 0; top = 0; right = true; state = (execution set r).after; at = (next_fetch_after set c r).earliest; queued = 0 }

      follows : (next_fetch_after set c r).right ≡ true → r.fetched.right ≡ true → Starts set (newest (r ∷ rows)) after
      follows w right =
          let parts : ((r.fetched.right && not (execution set r).stops) ≡ true) × ((r.fetched.predicted == (execution set r).next) ≡ true) = and_parts _ _ w in
          let here : Starts set (Some r) after = (
            not-true (execution set r).stops (and_parts r.fetched.right (not (execution set r).stops) parts.0).1,
            refl,
            eqb-true r.fetched.predicted (execution set r).next parts.1,
            λ m. let k : ((r.fetched.right && not (execution set r).stops) ≡ true) × (not (r.fetched.predicted == (execution set r).next) ≡ true) = and_parts _ _ m in
                absurd (not_both parts.1 (not-true (r.fetched.predicted == (execution set r).next) k.1)),
          ) in
          subst (λ b. Starts set (cond b (Some r) (newest rows)) after) (sym right) here

      strays : (b : Bool) → r.fetched.right ≡ b → (r.fetched.right && not (execution set r).stops && (r.fetched.predicted == (execution set r).next)) ≡ false → Strays (suc c) (newest (r ∷ rows))
      strays false e w = subst (λ b. Strays (suc c) (cond b (Some r) (newest rows))) (sym e) (wrong e)
      strays true e w = subst (λ b. Strays (suc c) (cond b (Some r) (newest rows))) (sym e) (here (execution set r).stops (r.fetched.predicted == (execution set r).next) refl refl)
        where
          here : (b d : Bool) → (execution set r).stops ≡ b → (r.fetched.predicted == (execution set r).next) ≡ d → Strays (suc c) (Some r)
          here true d f g = inl f
          here false true f g = absurd (not_both (and_from (r.fetched.right && not (execution set r).stops) (r.fetched.predicted == (execution set r).next) (and_from r.fetched.right (not (execution set r).stops) e (ap not f)) g) w)
          here false false f g = inr (and_from (r.fetched.right && not (execution set r).stops) (not (r.fetched.predicted == (execution set r).next)) (and_from r.fetched.right (not (execution set r).stops) e (ap not f)) (ap not g), ap (λ m. is_before (suc c) (option_map (λ i. i + unit_latency (execution set r).unit) m)) fresh)

  fetches_keep : (n c : ℕ) (t : Table) → Each (Route (suc c)) t.rows × Ahead (suc c) t.rows t.next_fetch
      → Each (Route (suc c)) (fetch_up_to set n c t).rows × Ahead (suc c) (fetch_up_to set n c t).rows (fetch_up_to set n c t).next_fetch
  fetches_keep zero c t k = k
  fetches_keep (suc n) c t (route, ahead) =
      cond_both (may_fetch set c t) (fetch_up_to set n c (fetch_one set c t)) t (λ u. Each (Route (suc c)) u.rows × Ahead (suc c) u.rows u.next_fetch)
      (λ e. let le : t.next_fetch.earliest ≤ c = leb-true _ _ (and_parts _ _ e).0 in
      let row : Route (suc c) t.rows (fetched_row set c t.next_fetch (set.look t.next_fetch.pc (predictor_events_of set c t.rows t.predictor_events)) (queue_cycle set c t.next_fetch.pc (references_of set c t.rows t.references)))
      = fetched_route c t.rows t.next_fetch (set.look t.next_fetch.pc (predictor_events_of set c t.rows t.predictor_events)) _ le ahead in
      fetches_keep n c (fetch_one set c t) ((row, route), fetched_ahead c t.rows _ refl row ahead.strays))
      (λ _. (route, ahead))

  route_cycle : (c : ℕ) (t : Table) → 1 ≤ set.config.penalty → Each (Route c) t.rows × Ahead c t.rows t.next_fetch
      → Each (Route (suc c)) (cycle set c t).rows × Ahead (suc c) (cycle set c t).rows (cycle set c t).next_fetch
  route_cycle c t pen k =
      let one = commit set c t in
      let two = recover set c one in
      let three = issue set c two in
      let k1 = stage_keeps c c (commit_row set c) t.rows t.next_fetch (omega arith) (changed_commit set c) k in
      let k2 = recover_keeps c one pen k1 in
      let base = store_references set c two.rows two.references in
      let k3 = stage_keeps c (suc c) (issue_row set c base two.rows) two.rows two.next_fetch (omega arith) (changed_issue set c base two.rows) k2 in
      let k4 = stage_keeps c (suc c) (dispatch_row set c) three.rows three.next_fetch (omega arith) (changed_dispatch set c) k3 in
      fetches_keep set.config.decode c (dispatch set c three) k4

  pub route_table : (c : ℕ) → 1 ≤ set.config.penalty → Each (Route c) (table set c).rows × Ahead c (table set c).rows (table set c).next_fetch
  route_table zero pen = (tt, record { follows = λ w. (refl, refl); clean = λ w. tt; strays = λ w. absurd cc })
  route_table (suc c) pen = route_cycle c (table set c) pen (route_table c pen)

  pub path_of : (c : ℕ) (rows : List Row) → Each (Route c) rows → Each (IsPath set) rows
  path_of c [] t = tt
  path_of c (r ∷ rows) t = (t.0.follows, path_of c rows t.1)

  pub one_path : (c : ℕ) → 1 ≤ set.config.penalty → Each (IsPath set) (table set c).rows
  one_path c pen = path_of c _ (route_table c pen).0

  any_find : (c : ℕ) (rows : List Row) → list_any (recovers set c) rows ≡ true → (m : Row) × (find (recovers set c) rows ≡ Some m)
  any_find c [] e = absurd cc
  any_find c (r ∷ rows) e = by_case (recovers set c r) e (any_find c rows)
    where
      by_case : (b : Bool) → (b || list_any (recovers set c) rows) ≡ true → (list_any (recovers set c) rows ≡ true → (m : Row) × (find (recovers set c) rows ≡ Some m))
          → (m : Row) × (cond b (Some r) (find (recovers set c) rows) ≡ Some m)
      by_case true e ih = (r, refl)
      by_case false e ih = ih e

  -- behind no right row does an older row recover
  pub right_stands : (c : ℕ) (older : List Row) (r : Row) → Each (Route c) older → Route c older r → r.fetched.right ≡ true → list_any (recovers set c) older ≡ true → ⊥
  right_stands c older r below t w e =
      let found : (m : Row) × (find (recovers set c) older ≡ Some m) = any_find c older e in
      let new : (newest older ≡ Some found.0) × (recovers set c found.0 ≡ true) = recovers_newest c older found.0 below found.1 in
      let parts : (mispredicted set found.0 ≡ true) × (is_at c (written set found.0) ≡ true) = and_parts _ _ new.1 in
      let start : Starts set (newest older) r.fetched = t.follows w in
      let at : Starts set (Some found.0) r.fetched = subst (λ o. Starts set o r.fetched) new.0 start in
      let after : c < r.fetched.at = at_below c r.fetched.at (written set found.0) parts.1 (at.3 parts.0) in
      omega (arith, after, t.early)
