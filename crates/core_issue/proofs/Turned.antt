-- A turn by the number of its row is the turn of the row where it stands, and turns one after another are those of all rows.
use Rattle.std.proofs.Common.{◌≡◌, ℕ, ◌+◌, ◌<◌, ◌≤◌, Some, None, cond, Bool, true, false, List, [], ◌∷◌, ◌++◌, length, refl, sym, ap, ◌∙◌, subst, arith, append_assoc, append-nil}
use Rattle.std.specs.Prelude.{Option, option_map, option_to_list, ◌&&◌, ◌||◌, not, is_none, nat_le, nat_lt}
use Rattle.std.specs.List.{list_all}
use Rattle.std.proofs.lemmas.Bool.{eqb-true, ltb-true, lt-ltb, le-leb}
use Rattle.std.proofs.lemmas.Bool.Decides.{nat_tests}
use Rattle.fu_pool.specs.declared.pools.Pool.TheVariants as pool
use Rattle.lsq_core.specs.Queue.{load_answer}
use Rattle.ruu_core.specs.declared.station.Station.{Station}
use Rattle.ruu_core.specs.Window.{Row, Window, is_above, is_row, is_live, is_ready, may_access, is_unissued, or_else, least, passes, row_of, at_row, issuing, accessing, falls_below, rises_to}
use Rattle.ruu_core.specs.Laws as law
use Rattle.ruu_core.proofs.LawProofs.{stands_at}
use Rattle.ooo_table.specs.Execution.{unit_latency}
use Rattle.core_parts.specs.declared.answers.Issued.{Issued}
use Rattle.core_parts.specs.declared.parts.Parts.{Parts}
use Rattle.core_parts.specs.Rows.{unit_class}
use Rattle.core_issue.specs.declared.turns.Turn.{Turn}
use Rattle.core_issue.specs.Turns.{pool_for, has_free, has_unit, is_ok, may_go, reaches, main_allowed, access_allowed, TurnBy, TurnOf}
use Rattle.core_issue.specs.Stage.{Rules, Shared, rules_of, shared_of, main_issues, access_issues, is_ordered, StepBy, Ran, RanAll}
use Rattle.core_issue.proofs.Next.{IsNext, apart}

-- ---- rows above a number and rows that aren't

abbrev pub Over : Option ℕ → List Row → Type 0
Over after [] = Unit {0}
Over after (r ∷ rows) = (is_above after r.station.row ≡ true) × Over after rows

abbrev pub Under : Option ℕ → List Row → Type 0
Under after [] = Unit {0}
Under after (r ∷ rows) = (is_above after r.station.row ≡ false) × Under after rows

under_live : (after : Option ℕ) (k : ℕ) (rows : List Row) → is_live k rows ≡ true → Under after rows → is_above after k ≡ false
under_live after k [] e u = absurd cc
under_live after k (r ∷ rows) e u = by_row (is_row k r) refl e (λ h. under_live after k rows h u.1)
  where
    by_row : (b : Bool) → is_row k r ≡ b → (b || is_live k rows) ≡ true → (is_live k rows ≡ true → is_above after k ≡ false) → is_above after k ≡ false
    by_row true is e ih = ap (is_above after) (sym (eqb-true r.station.row k is)) ∙ u.0
    by_row false is e ih = ih e

-- a row with this number, among these
pub record Split (k : ℕ) (rows : List Row) : Type 0 where
  pub front : List Row
  pub row : Row
  pub rest : List Row
  pub is : rows ≡ front ++ (row ∷ rest)
  pub number : row.station.row ≡ k

find_in : (after : Option ℕ) (k : ℕ) (younger left : List Row) → is_live k (younger ++ left) ≡ true → Under after left → is_above after k ≡ true → Split k younger
find_in after k [] left e u above = absurd (apart above (under_live after k left e u))
find_in after k (y ∷ younger) left e u above = by_row (is_row k y) refl e (λ h. find_in after k younger left h u above)
  where
    by_row : (b : Bool) → is_row k y ≡ b → (b || is_live k (younger ++ left)) ≡ true → (is_live k (younger ++ left) ≡ true → Split k younger) → Split k (y ∷ younger)
    by_row true is e ih = record { front = []; row = y; rest = younger; is = refl; number = eqb-true y.station.row k is }
    by_row false is e ih =
        let s : Split k younger = ih e in
        record { front = y ∷ s.front; row = s.row; rest = s.rest; is = ap (λ l. y ∷ l) s.is; number = s.number }

and_left : (a b : Bool) → (a && b) ≡ true → a ≡ true
and_left true b e = refl
and_left false b e = absurd cc

and_right : (a b : Bool) → (a && b) ≡ true → b ≡ true
and_right true b e = e
and_right false b e = absurd cc

falls_of : (w : Window) → rises_to w.last w.rows ≡ true → (m : ℕ) × (falls_below m w.rows ≡ true)
falls_of w e = by_last w.last w.rows e
  where
    by_last : (last : Option ℕ) (rows : List Row) → rises_to last rows ≡ true → (m : ℕ) × (falls_below m rows ≡ true)
    by_last (Some m) rows r = (m + 1, r)
    by_last None [] r = (0, refl)
    by_last None (y ∷ rows) r = absurd cc

falls_more : (m n : ℕ) (rows : List Row) → m ≤ n → falls_below m rows ≡ true → falls_below n rows ≡ true
falls_more m n [] le h = refl
falls_more m n (r ∷ rows) le h =
    let less : r.station.row < m = ltb-true r.station.row m (and_left _ _ h) in
    ap (λ b. b && falls_below r.station.row rows) (lt-ltb r.station.row n (omega arith)) ∙ and_right _ _ h

falls_mid : (m : ℕ) (younger older : List Row) (r : Row) → falls_below m (younger ++ (r ∷ older)) ≡ true → (r.station.row < m) × (falls_below r.station.row older ≡ true)
falls_mid m [] older r h = (ltb-true r.station.row m (and_left _ _ h), and_right _ _ h)
falls_mid m (y ∷ ys) older r h =
    let here : y.station.row < m = ltb-true y.station.row m (and_left _ _ h) in
    let both : (r.station.row < y.station.row) × (falls_below r.station.row older ≡ true) = falls_mid y.station.row ys older r (and_right _ _ h) in
    let less : r.station.row < y.station.row = both.0 in
    (omega arith, both.1)

over_front : (m : ℕ) (younger older : List Row) (r : Row) → falls_below m (younger ++ (r ∷ older)) ≡ true → Over (Some r.station.row) younger
over_front m [] older r h = tt
over_front m (y ∷ ys) older r h =
    (lt-ltb r.station.row y.station.row (falls_mid y.station.row ys older r (and_right _ _ h)).0, over_front y.station.row ys older r (and_right _ _ h))

not_less : (a b : ℕ) → b ≤ a → nat_lt a b ≡ false
not_less a b le = grind (arith, nat_tests)

under_rest : (k m : ℕ) (rows : List Row) → m ≤ k → falls_below m rows ≡ true → Under (Some k) rows
under_rest k m [] le h = tt
under_rest k m (r ∷ rows) le h =
    let less : r.station.row < m = ltb-true r.station.row m (and_left _ _ h) in
    (not_less k r.station.row (omega arith), under_rest k r.station.row rows (omega arith) (and_right _ _ h))

-- ---- rows that have no turn

abbrev pub Quiet : ℕ → List Row → List Row → Type 0
Quiet c all [] = Unit {0}
Quiet c all (r ∷ rows) =
    (passes (is_ready c) r.station.row all ≡ false) × (passes (may_access c) r.station.row all ≡ false) × Quiet c all rows

abbrev pub Idle : ℕ → List Row → List Row → Type 0
Idle c [] left = Unit {0}
Idle c (r ∷ rows) left = (is_ready c (rows ++ left) r ≡ false) × (may_access c (rows ++ left) r ≡ false) × Idle c rows left

quiet_mid : (c : ℕ) (after : Option ℕ) (all : List Row) (t : Turn) (mid left : List Row) → IsNext c after all t → Over after mid → falls_below t.row (mid ++ left) ≡ true → Quiet c all mid
quiet_mid c after all t [] left n o h = tt
quiet_mid c after all t (r ∷ mid) left n o h =
    let less : r.station.row < t.row = ltb-true r.station.row t.row (and_left _ _ h) in (
      n.ready_before r.station.row o.0 less,
      n.access_before r.station.row o.0 less,
      quiet_mid c after all t mid left n o.1 (falls_more r.station.row t.row (mid ++ left) (omega arith) (and_right _ _ h)),
    )

quiet_all : (c : ℕ) (after : Option ℕ) (all younger : List Row) → ((k : ℕ) → is_above after k ≡ true → (passes (is_ready c) k all ≡ false) × (passes (may_access c) k all ≡ false)) → Over after younger → Quiet c all younger
quiet_all c after all [] h o = tt
quiet_all c after all (r ∷ rows) h o = ((h r.station.row o.0).0, (h r.station.row o.0).1, quiet_all c after all rows h o.1)

idle_of : (c : ℕ) (w : Window) (front mid left : List Row) → rises_to w.last w.rows ≡ true → w.rows ≡ front ++ (mid ++ left) → Quiet c w.rows mid → Idle c mid left
idle_of c w front [] left rises e q = tt
idle_of c w front (r ∷ mid) left rises e q =
    let st : law.StandsAt front (mid ++ left) r w = stands_at front (mid ++ left) r w e rises in (
      sym (st.answers (is_ready c)) ∙ q.0,
      sym (st.answers (may_access c)) ∙ q.1,
      idle_of c w (front ++ (r ∷ [])) mid left rises (e ∙ sym (append_assoc front (r ∷ []) (mid ++ left))) q.2,
    )

module _ (c : ℕ) (k : Rules) (start : Shared) where
  ran_idle : (mid older left : List Row) (all : List Issued) (a : Shared) → Ran c k start older left all a → Idle c mid left → Ran c k start (mid ++ older) (mid ++ left) all a
  ran_idle [] older left all a ran idle = ran
  ran_idle (r ∷ mid) older left all a ran idle =
      (mid ++ left, r, all, [], a, refl, sym (append-nil all), ran_idle mid older left all a ran idle.2, step)
    where
      step : StepBy (main_issues c (length all) k a.pools (mid ++ left) r) (access_issues c (length all) k a.pools (mid ++ left) r) c k a r r [] a
      step =
          subst (λ b. StepBy b (access_issues c (length all) k a.pools (mid ++ left) r) c k a r r [] a) (sym (main_off idle.0))
          (subst (λ b. StepBy false b c k a r r [] a) (sym (access_off idle.1)) (refl, refl, refl))
        where
          main_off : is_ready c (mid ++ left) r ≡ false → main_issues c (length all) k a.pools (mid ++ left) r ≡ false
          main_off e = rw e refl

          access_off : may_access c (mid ++ left) r ≡ false → access_issues c (length all) k a.pools (mid ++ left) r ≡ false
          access_off e = rw e refl

  -- where the width is used up no row issues
  ran_spent : (mid older left : List Row) (all : List Issued) (a : Shared) → nat_lt (length all) k.config.issue ≡ false → Ran c k start older left all a → Ran c k start (mid ++ older) (mid ++ left) all a
  ran_spent [] older left all a spent ran = ran
  ran_spent (r ∷ mid) older left all a spent ran =
      (mid ++ left, r, all, [], a, refl, sym (append-nil all), ran_spent mid older left all a spent ran, step)
    where
      third : (i o u w : Bool) → w ≡ false → (i && o && w && u) ≡ false
      third i o u w e = rw e (by_value i o)
        where
          by_value : (i o : Bool) → (i && o && false && u) ≡ false
          by_value true true = refl
          by_value true false = refl
          by_value false o = refl

      step : StepBy (main_issues c (length all) k a.pools (mid ++ left) r) (access_issues c (length all) k a.pools (mid ++ left) r) c k a r r [] a
      step =
          subst (λ b. StepBy b (access_issues c (length all) k a.pools (mid ++ left) r) c k a r r [] a)
          (sym (fourth (is_ready c (mid ++ left) r) (may_go k.config r.station) (is_ordered k.config (mid ++ left)) (has_unit c a.pools (pool_for (unit_class r.station))) (nat_lt (length all) k.config.issue) spent))
          (subst (λ b. StepBy false b c k a r r [] a)
          (sym (third (may_access c (mid ++ left) r) (is_ok (load_answer c r.station.row k.queue)) (has_free c a.pools pool.Port) (nat_lt (length all) k.config.issue) spent)) (refl, refl, refl))
        where
          fourth : (i g o u w : Bool) → w ≡ false → (i && g && o && w && u) ≡ false
          fourth true g o u w e = third g o u w e
          fourth false g o u w e = refl

-- ---- order

least_none : (rows : List Row) → least is_unissued rows ≡ None → list_all (λ o. not (is_none o.issued)) rows ≡ true
least_none [] e = refl
least_none (r ∷ rows) e = by_rest (least is_unissued rows) (is_none r.issued) refl e (least_none rows)
  where
    by_rest : (o : Option ℕ) (b : Bool) → least is_unissued rows ≡ o → or_else o (cond b (Some r.station.row) None) ≡ None → (least is_unissued rows ≡ None → list_all (λ o. not (is_none o.issued)) rows ≡ true) → (not b && list_all (λ o. not (is_none o.issued)) rows) ≡ true
    by_rest (Some n) b f e ih = absurd cc
    by_rest None true f e ih = absurd cc
    by_rest None false f e ih = ih f

least_some : (m n : ℕ) (rows : List Row) → falls_below m rows ≡ true → least is_unissued rows ≡ Some n → (n < m) × (list_all (λ o. not (is_none o.issued)) rows ≡ false)
least_some m n [] h e = absurd cc
least_some m n (r ∷ rows) h e = by_rest (least is_unissued rows) (is_none r.issued) refl e (least_some r.station.row n rows (and_right _ _ h))
  where
    here : r.station.row < m
    here = ltb-true r.station.row m (and_left _ _ h)

    off : (a : Bool) → (a && false) ≡ false
    off true = refl
    off false = refl

    by_rest : (o : Option ℕ) (b : Bool) → least is_unissued rows ≡ o → or_else o (cond b (Some r.station.row) None) ≡ Some n → (least is_unissued rows ≡ Some n → (n < r.station.row) × (list_all (λ o. not (is_none o.issued)) rows ≡ false)) → (n < m) × ((not b && list_all (λ o. not (is_none o.issued)) rows) ≡ false)
    by_rest (Some k) b f e ih =
        let both : (n < r.station.row) × (list_all (λ o. not (is_none o.issued)) rows ≡ false) = ih (f ∙ e) in
        let less : n < r.station.row = both.0 in
        let more : r.station.row < m = here in
        (omega arith, ap (λ x. not b && x) both.1 ∙ off (not b))
    by_rest None true f e ih = (let same : r.station.row ≡ n = cc in let more = here in omega arith, refl)
    by_rest None false f e ih = absurd cc

ordered_at : (m : ℕ) (front before : List Row) (s : Row) → falls_below m (front ++ (s ∷ before)) ≡ true
    → reaches (least is_unissued (front ++ (s ∷ before))) s.station.row ≡ list_all (λ o. not (is_none o.issued)) before
ordered_at m [] before s h = by_rest (least is_unissued before) refl
  where
    falls : falls_below s.station.row before ≡ true
    falls = and_right (nat_lt s.station.row m) (falls_below s.station.row before) h

    own : (b : Bool) → reaches (cond b (Some s.station.row) None) s.station.row ≡ true
    own true = le-leb s.station.row s.station.row (omega arith)
    own false = refl

    above : (a b : ℕ) → b < a → nat_le a b ≡ false
    above a b l = grind (arith, nat_tests)

    by_rest : (o : Option ℕ) → least is_unissued before ≡ o → reaches (or_else o (cond (is_none s.issued) (Some s.station.row) None)) s.station.row ≡ list_all (λ o. not (is_none o.issued)) before
    by_rest (Some n) f = let both : (n < s.station.row) × (list_all (λ o. not (is_none o.issued)) before ≡ false) = least_some s.station.row n before falls f in above s.station.row n both.0 ∙ sym both.1
    by_rest None f = own (is_none s.issued) ∙ sym (least_none before f)
ordered_at m (y ∷ ys) before s h = by_rest (least is_unissued (ys ++ (s ∷ before))) refl (ordered_at y.station.row ys before s rest)
  where
    rest : falls_below y.station.row (ys ++ (s ∷ before)) ≡ true
    rest = and_right (nat_lt y.station.row m) (falls_below y.station.row (ys ++ (s ∷ before))) h

    own : (b : Bool) → reaches (cond b (Some y.station.row) None) s.station.row ≡ true
    own true = le-leb s.station.row y.station.row (let l = (falls_mid y.station.row ys before s rest).0 in omega arith)
    own false = refl

    by_rest : (o : Option ℕ) → least is_unissued (ys ++ (s ∷ before)) ≡ o → reaches (least is_unissued (ys ++ (s ∷ before))) s.station.row ≡ list_all (λ o. not (is_none o.issued)) before
        → reaches (or_else o (cond (is_none y.issued) (Some y.station.row) None)) s.station.row ≡ list_all (λ o. not (is_none o.issued)) before
    by_rest (Some n) f ih = ap (λ o. reaches o s.station.row) (sym f) ∙ ih
    by_rest None f ih = own (is_none y.issued) ∙ (ap (λ o. reaches o s.station.row) (sym f) ∙ ih)

-- ---- the turn where the row stands

pub record Step (c n : ℕ) (old new : Parts) (front before : List Row) (s : Row) (made : List Issued) : Type 0 where
  pub now : Row
  pub station : now.station ≡ s.station
  pub parts : new ≡ record old { unit = record (old.unit) { rows = front ++ (now ∷ before) }; pools = new.pools; hier = new.hier }
  pub step : StepBy (main_issues c n (rules_of old) old.pools before s) (access_issues c n (rules_of old) old.pools before s) c (rules_of old) (shared_of old) s now made (shared_of new)

module _ (c n : ℕ) (after : Option ℕ) (old new : Parts) (t : Turn) (answer : Option Issued) where
  pub step_of : (front before : List Row) (s : Row) → rises_to old.unit.last old.unit.rows ≡ true → old.unit.rows ≡ front ++ (s ∷ before) → s.station.row ≡ t.row
      → IsNext c after old.unit.rows t → TurnOf c n t old new answer → Step c n old new front before s (option_to_list answer)
  step_of front before s rises e same next turn =
      by_test (main_issues c n (rules_of old) old.pools before s) (access_issues c n (rules_of old) old.pools before s) refl refl
      (subst (λ b. TurnBy b (access_issues c n (rules_of old) old.pools before s) c s.station.row s.station old new answer) main_is
      (subst (λ b. TurnBy (t.main && main_allowed c n old s.station.row s.station) b c s.station.row s.station old new answer) access_is here))
    where
      st : law.StandsAt front before s old.unit
      st = stands_at front before s old.unit e rises

      station_is : option_map (λ (r : Row). r.station) (row_of s.station.row old.unit.rows) ≡ Some s.station
      station_is = ap (option_map (λ (r : Row). r.station)) st.row

      here : TurnBy (t.main && main_allowed c n old s.station.row s.station) (t.access && access_allowed c n old s.station.row) c s.station.row s.station old new answer
      here =
          subst
          (λ k. option_map (λ (r : Row). r.station) (row_of k old.unit.rows) ≡ Some s.station → TurnBy (t.main && main_allowed c n old k s.station) (t.access && access_allowed c n old k) c k s.station old new answer)
          (sym same) (turn s.station) station_is

      ready_is : t.main ≡ is_ready c before s
      ready_is = next.main ∙ (ap (λ k. passes (is_ready c) k old.unit.rows) (sym same) ∙ st.answers (is_ready c))

      may_is : t.access ≡ may_access c before s
      may_is = next.access ∙ (ap (λ k. passes (may_access c) k old.unit.rows) (sym same) ∙ st.answers (may_access c))

      order_is : reaches (least is_unissued old.unit.rows) s.station.row ≡ list_all (λ o. not (is_none o.issued)) before
      order_is =
          let (m, below) = falls_of old.unit rises in
          ap (λ l. reaches (least is_unissued l) s.station.row) e ∙ ordered_at m front before s (ap (falls_below m) (sym e) ∙ below)

      main_is : (t.main && main_allowed c n old s.station.row s.station) ≡ main_issues c n (rules_of old) old.pools before s
      main_is =
          joined t.main (is_ready c before s) (may_go old.config s.station) (not old.config.in_order) (reaches (least is_unissued old.unit.rows) s.station.row) (list_all (λ o. not (is_none o.issued)) before) (nat_lt n old.config.issue) (has_unit c old.pools (pool_for (unit_class s.station))) ready_is order_is
        where
          joined : (m r g i o p w u : Bool) → m ≡ r → o ≡ p → (m && (g && (i || o) && w && u)) ≡ (r && g && (i || p) && w && u)
          joined m r g i o p w u e f = rw (e, f) (by_value r g (i || p))
            where
              by_value : (r g x : Bool) → (r && (g && x && w && u)) ≡ (r && g && x && w && u)
              by_value true g x = refl
              by_value false g x = refl

      access_is : (t.access && access_allowed c n old s.station.row) ≡ access_issues c n (rules_of old) old.pools before s
      access_is =
          joined t.access (may_access c before s) (is_ok (load_answer c s.station.row old.queue.entries)) (nat_lt n old.config.issue) (has_free c old.pools pool.Port) may_is
        where
          joined : (m r o w u : Bool) → m ≡ r → (m && (o && w && u)) ≡ (r && o && w && u)
          joined m r o w u e = rw e (by_value r)
            where
              by_value : (r : Bool) → (r && (o && w && u)) ≡ (r && o && w && u)
              by_value true = refl
              by_value false = refl

      moved : (f : Row → Row) → at_row s.station.row f old.unit ≡ record (old.unit) { rows = front ++ (f s ∷ before) }
      moved f = ap (λ l. record (old.unit) { rows = l }) (st.change f)

      by_test : (b d : Bool) → main_issues c n (rules_of old) old.pools before s ≡ b → access_issues c n (rules_of old) old.pools before s ≡ d
          → TurnBy (main_issues c n (rules_of old) old.pools before s) (access_issues c n (rules_of old) old.pools before s) c s.station.row s.station old new answer
          → Step c n old new front before s (option_to_list answer)
      by_test b d f g h = made_of (stepped b d (subst (λ x. TurnBy x d c s.station.row s.station old new answer) f (subst (λ x. TurnBy (main_issues c n (rules_of old) old.pools before s) x c s.station.row s.station old new answer) g h)))
        where
          stepped : (b d : Bool) → TurnBy b d c s.station.row s.station old new answer
              → (now : Row) × (now.station ≡ s.station) × (new ≡ record old { unit = record (old.unit) { rows = front ++ (now ∷ before) }; pools = new.pools; hier = new.hier })
              × StepBy b d c (rules_of old) (shared_of old) s now (option_to_list answer) (shared_of new)
          stepped true d (is, issues) = (
            issuing c (c + unit_latency (unit_class s.station)) s,
            refl,
            issues.parts
                ∙ (ap (λ u. record old { unit = u; pools = new.pools }) (moved (issuing c (c + unit_latency (unit_class s.station))))
                ∙ ap (λ h. record old { unit = record (old.unit) { rows = front ++ (issuing c (c + unit_latency (unit_class s.station)) s ∷ before) }; pools = new.pools; hier = h }) (sym (ap (λ (p : Parts). p.hier) issues.parts))),
            (refl, ap option_to_list is, issues.pools, ap (λ (p : Parts). p.hier) issues.parts),
          )
          stepped false true (is, (back, issues)) = (
            accessing c back s,
            refl,
            issues.parts ∙ ap (λ u. record old { unit = u; pools = new.pools; hier = new.hier }) (moved (accessing c back)),
            (back, refl, ap option_to_list is, issues.pools, issues.returns),
          )
          stepped false false (is, same) = (
            s,
            refl,
            same ∙ (ap (λ l. record old { unit = record (old.unit) { rows = l } }) e
                ∙ (ap (λ (p : Parts). record old { unit = record (old.unit) { rows = front ++ (s ∷ before) }; pools = p.pools; hier = p.hier }) (sym same))),
            (refl, ap option_to_list is, ap shared_of same),
          )

          made_of : (now : Row) × (now.station ≡ s.station) × (new ≡ record old { unit = record (old.unit) { rows = front ++ (now ∷ before) }; pools = new.pools; hier = new.hier })
              × StepBy b d c (rules_of old) (shared_of old) s now (option_to_list answer) (shared_of new) → Step c n old new front before s (option_to_list answer)
          made_of (now, station, parts, step) =
              record {
                now = now;
                station = station;
                parts = parts;
                step = subst (λ x. StepBy x (access_issues c n (rules_of old) old.pools before s) c (rules_of old) (shared_of old) s now (option_to_list answer) (shared_of new)) (sym f)
                    (subst (λ x. StepBy b x c (rules_of old) (shared_of old) s now (option_to_list answer) (shared_of new)) (sym g) step);
              }

-- ---- the loop

-- Of the rows the older ones had their turns, in which this issued: the younger ones are above the number, and the others aren't.
pub record Turned (c : ℕ) (start now : Parts) (after : Option ℕ) (all : List Issued) : Type 0 where
  pub younger : List Row
  pub older : List Row
  pub left : List Row
  pub was : start.unit.rows ≡ younger ++ older
  pub is : now ≡ record start { unit = record (start.unit) { rows = younger ++ left }; pools = now.pools; hier = now.hier }
  pub ran : Ran c (rules_of start) (shared_of start) older left all (shared_of now)
  pub over : Over after younger
  pub under : Under after left

pub turned_start : (c : ℕ) (p : Parts) → Turned c p p None []
turned_start c p =
    record {
      younger = p.unit.rows;
      older = [];
      left = [];
      was = sym (append-nil p.unit.rows);
      is = ap (λ l. record p { unit = record (p.unit) { rows = l } }) (sym (append-nil p.unit.rows));
      ran = (refl, refl, refl);
      over = all_over p.unit.rows;
      under = tt;
    }
  where
    all_over : (rows : List Row) → Over None rows
    all_over [] = tt
    all_over (r ∷ rows) = (refl, all_over rows)

-- the row that has the next turn, where it stands, and what its turn makes of it
pub record Taken (c : ℕ) (after : Option ℕ) (t : Turn) (old new : Parts) (n : ℕ) (made : List Issued) : Type 0 where
  pub front : List Row
  pub row : Row
  pub before : List Row
  pub is : old.unit.rows ≡ front ++ (row ∷ before)
  pub number : row.station.row ≡ t.row
  pub above : is_above after t.row ≡ true
  pub step : Step c n old new front before row made

module _ (c : ℕ) (start old new : Parts) (after : Option ℕ) (all : List Issued) (t : Turn) (answer : Option Issued) where
  pub taken : Turned c start old after all → rises_to old.unit.last old.unit.rows ≡ true → is_live t.row old.unit.rows ≡ true → IsNext c after old.unit.rows t → TurnOf c (length all) t old new answer
      → Taken c after t old new (length all) (option_to_list answer) × Turned c start new (Some t.row) (all ++ option_to_list answer)
  taken turned rises live next turn = (
    record { front = at.front; row = at.row; before = at.rest ++ turned.left; is = rows_are; number = at.number; above = next.above; step = step },
    record {
      younger = at.front;
      older = at.row ∷ (at.rest ++ turned.older);
      left = step.now ∷ (at.rest ++ turned.left);
      was = turned.was ∙ (ap (λ l. l ++ turned.older) at.is ∙ append_assoc at.front (at.row ∷ at.rest) turned.older);
      is = step.parts ∙ ap (λ (p : Parts). record p { unit = record (p.unit) { rows = at.front ++ (step.now ∷ (at.rest ++ turned.left)) }; pools = new.pools; hier = new.hier }) turned.is;
      ran = (
        at.rest ++ turned.left,
        step.now,
        all,
        option_to_list answer,
        shared_of old,
        refl,
        refl,
        ran_idle c (rules_of start) (shared_of start) at.rest turned.older turned.left all (shared_of old) turned.ran idle,
        subst (λ k. StepBy (main_issues c (length all) k old.pools (at.rest ++ turned.left) at.row) (access_issues c (length all) k old.pools (at.rest ++ turned.left) at.row) c k (shared_of old) at.row step.now (option_to_list answer) (shared_of new)) (ap rules_of turned.is) step.step,
      );
      over = subst (λ k. Over (Some k) at.front) at.number (over_front falls.0 at.front (at.rest ++ turned.left) at.row below);
      under = (
        ap (λ (s : Station). nat_lt t.row s.row) step.station ∙ (ap (nat_lt t.row) at.number ∙ not_less t.row t.row (omega arith)),
        under_rest t.row t.row (at.rest ++ turned.left) (omega arith) rest_falls,
      );
    },
  )
    where
      now_rows : old.unit.rows ≡ turned.younger ++ turned.left
      now_rows = ap (λ (p : Parts). p.unit.rows) turned.is

      at : Split t.row turned.younger
      at = find_in after t.row turned.younger turned.left (ap (is_live t.row) (sym now_rows) ∙ live) turned.under next.above

      rows_are : old.unit.rows ≡ at.front ++ (at.row ∷ (at.rest ++ turned.left))
      rows_are = now_rows ∙ (ap (λ l. l ++ turned.left) at.is ∙ append_assoc at.front (at.row ∷ at.rest) turned.left)

      falls : (m : ℕ) × (falls_below m old.unit.rows ≡ true)
      falls = falls_of old.unit rises

      below : falls_below falls.0 (at.front ++ (at.row ∷ (at.rest ++ turned.left))) ≡ true
      below = ap (falls_below falls.0) (sym rows_are) ∙ falls.1

      rest_falls : falls_below t.row (at.rest ++ turned.left) ≡ true
      rest_falls = ap (λ k. falls_below k (at.rest ++ turned.left)) (sym at.number) ∙ (falls_mid falls.0 at.front (at.rest ++ turned.left) at.row below).1

      over_rest : (ys : List Row) (r : Row) (rest : List Row) → Over after (ys ++ (r ∷ rest)) → Over after rest
      over_rest [] r rest o = o.1
      over_rest (y ∷ ys) r rest o = over_rest ys r rest o.1

      quiet : Quiet c old.unit.rows at.rest
      quiet = quiet_mid c after old.unit.rows t at.rest turned.left next (over_rest at.front at.row at.rest (subst (Over after) at.is turned.over)) rest_falls

      idle : Idle c at.rest turned.left
      idle =
          idle_of c old.unit (at.front ++ (at.row ∷ [])) at.rest turned.left rises (rows_are ∙ sym (append_assoc at.front (at.row ∷ []) (at.rest ++ turned.left))) quiet

      step : Step c (length all) old new at.front (at.rest ++ turned.left) at.row (option_to_list answer)
      step = step_of c (length all) after old new t answer at.front (at.rest ++ turned.left) at.row rises rows_are at.number next turn

pub turned_end : (c : ℕ) (start now : Parts) (after : Option ℕ) (all : List Issued) → Turned c start now after all → rises_to now.unit.last now.unit.rows ≡ true
    → ((k : ℕ) → is_above after k ≡ true → (passes (is_ready c) k now.unit.rows ≡ false) × (passes (may_access c) k now.unit.rows ≡ false)) → RanAll c start now all
turned_end c start now after all turned rises none =
    record {
      left = turned.younger ++ turned.left;
      parts = turned.is;
      ran = subst (λ l. Ran c (rules_of start) (shared_of start) l (turned.younger ++ turned.left) all (shared_of now)) (sym turned.was)
          (ran_idle c (rules_of start) (shared_of start) turned.younger turned.older turned.left all (shared_of now) turned.ran
          (idle_of c now.unit [] turned.younger turned.left rises (ap (λ (p : Parts). p.unit.rows) turned.is) (quiet_all c after now.unit.rows turned.younger none turned.over)));
    }

pub turned_spent : (c : ℕ) (start now : Parts) (after : Option ℕ) (all : List Issued) → Turned c start now after all → nat_lt (length all) now.config.issue ≡ false → RanAll c start now all
turned_spent c start now after all turned spent =
    record {
      left = turned.younger ++ turned.left;
      parts = turned.is;
      ran = subst (λ l. Ran c (rules_of start) (shared_of start) l (turned.younger ++ turned.left) all (shared_of now)) (sym turned.was)
          (ran_spent c (rules_of start) (shared_of start) turned.younger turned.older turned.left all (shared_of now)
          (ap (λ (p : Parts). nat_lt (length all) p.config.issue) (sym turned.is) ∙ spent) turned.ran);
    }
