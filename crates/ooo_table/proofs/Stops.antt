-- Where the machine stops.
use Rattle.std.proofs.Common.{◌≡◌, ℕ, Bool, true, false, List, [], ◌∷◌, refl, ap, arith}
use Rattle.std.specs.Prelude.{◌&&◌, ◌==◌, not, nat_lt, count_by}
use Rattle.std.specs.List.{list_all}
use Rattle.std.proofs.lemmas.Bool.{and_parts, and_from, not-true, eqb-true, eq-eqb, ltb-true, lt-ltb}
use Rattle.ooo_table.specs.Row.{Row, every}
use Rattle.ooo_table.specs.Table.{Setting}
use Rattle.ooo_table.specs.Path.{execution}
use Rattle.ooo_table.specs.Done.{live, waiting}
use Rattle.ooo_table.specs.Dispatch.{is_first, stops_machine}
use Rattle.ooo_table.specs.Cycle.{after_issue}
use Rattle.ooo_table.specs.Later.{Each}
use Rattle.ooo_table.specs.CycleLaws.{Focus, Passed, StopsAt, StopsThere}
use Rattle.ooo_table.proofs.Counts.{count_true, count_false, count_zero}
use Rattle.ooo_table.proofs.Deadlines.{focus_more, focus_every}

none_counted : (p : Row → Bool) (rows : List Row) → count_by p rows ≡ 0 → Each (λ _ o. p o ≡ false) rows
none_counted p [] h = tt
none_counted p (o ∷ rows) h = (by_self (p o) refl, none_counted p rows (by_rest (p o) refl))
  where
    by_self : (b : Bool) → p o ≡ b → p o ≡ false
    by_self true e = absurd (omega (arith, h, count_true p o rows e))
    by_self false e = e

    by_rest : (b : Bool) → p o ≡ b → count_by p rows ≡ 0
    by_rest true e = absurd (omega (arith, h, count_true p o rows e))
    by_rest false e = omega (arith, h, count_false p o rows e)

all_passed : (rows : List Row) → list_all (λ o. not (waiting o)) rows ≡ true → Passed rows
all_passed [] h = tt
all_passed (o ∷ rows) h = let k : (not (waiting o) ≡ true) × (list_all (λ o. not (waiting o)) rows ≡ true) = and_parts (not (waiting o)) _ h in (not-true (waiting o) k.0, all_passed rows k.1)

passed_all : (rows : List Row) → Passed rows → list_all (λ o. not (waiting o)) rows ≡ true
passed_all [] h = refl
passed_all (o ∷ rows) h = and_from (not (waiting o)) (list_all (λ o. not (waiting o)) rows) (ap not h.0) (passed_all rows h.1)

module _ (set : Setting) where
  stop_facts : (c : ℕ) (older : List Row) (r : Row) → stops_machine set c older r ≡ true → StopsAt set c older r
  stop_facts c older r h =
      let k1 : ((is_first set c older r && r.fetched.right && (execution set r).stops) ≡ true) × ((count_by live older == 0) ≡ true) = and_parts _ _ h in
      let k2 : ((is_first set c older r && r.fetched.right) ≡ true) × ((execution set r).stops ≡ true) = and_parts _ _ k1.0 in
      let k3 : (is_first set c older r ≡ true) × (r.fetched.right ≡ true) = and_parts _ _ k2.0 in
      let k4 : ((waiting r && nat_lt r.fetched.queued c) ≡ true) × (list_all (λ o. not (waiting o)) older ≡ true) = and_parts _ _ k3.0 in
      let k5 : (waiting r ≡ true) × (nat_lt r.fetched.queued c ≡ true) = and_parts _ _ k4.0 in
      record {
        waits = k5.0;
        queued = ltb-true r.fetched.queued c k5.1;
        right = k3.1;
        stops = k2.1;
        passed = all_passed older k4.1;
        gone = none_counted live older (eqb-true (count_by live older) 0 k1.1);
      }

  facts_stop : (c : ℕ) (older : List Row) (r : Row) → StopsAt set c older r → stops_machine set c older r ≡ true
  facts_stop c older r s =
      and_from _ _ (and_from _ _ (and_from _ _
      (and_from _ _ (and_from _ _ s.waits (lt-ltb r.fetched.queued c s.queued)) (passed_all older s.passed))
      s.right) s.stops) (eq-eqb (count_by live older) 0 (count_zero live older s.gone))

  pub stop_focus : (c : ℕ) (rows : List Row) → not (every (λ older r. not (stops_machine set c older r)) rows) ≡ true → Focus (StopsAt set c) rows
  stop_focus c [] h = absurd cc
  stop_focus c (r ∷ older) h = by_self (stops_machine set c older r) refl h (stop_focus c older)
    where
      by_self : (b : Bool) → stops_machine set c older r ≡ b → not (not b && every (λ older r. not (stops_machine set c older r)) older) ≡ true
          → (not (every (λ older r. not (stops_machine set c older r)) older) ≡ true → Focus (StopsAt set c) older) → Focus (StopsAt set c) (r ∷ older)
      by_self true e h ih = ([], older, r, refl, stop_facts c older r e)
      by_self false e h ih = focus_more (StopsAt set c) r older (ih h)

  pub focus_stop : (c : ℕ) (rows : List Row) → Focus (StopsAt set c) rows → not (every (λ older r. not (stops_machine set c older r)) rows) ≡ true
  focus_stop c rows f = ap not (focus_every (λ older r. not (stops_machine set c older r)) (StopsAt set c) rows f (λ older r s. ap not (facts_stop c older r s)))

  pub stops_there : (c : ℕ) → StopsThere set c
  stops_there c = record { row = stop_focus c (after_issue set c).rows; stop = focus_stop c (after_issue set c).rows }
