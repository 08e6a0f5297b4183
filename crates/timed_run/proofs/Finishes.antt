-- Where a run ends under its budgets, seen from a cycle behind which it has not ended.
use Rattle.std.proofs.Common.{◌≡◌, ℕ, suc, ◌<◌, ◌≤◌, Bool, true, false, List, [], ◌++◌, Option, Some, None, refl, sym, ap, ◌∙◌, subst, arith, inl, inr, append-nil}
use Rattle.std.specs.Prelude.{◌⊎◌}
use Rattle.std.proofs.lemmas.Bool.{cases_lt}
use Rattle.ooo_table.specs.Table.{Setting}
use Rattle.ooo_table.specs.Cycle.{table, after_commit}
use Rattle.ooo_table.specs.Ends.{Extent, Whole, AtCommit, AtStop, last_commit, or_stop, stops_in, end_in}
use Rattle.ooo_table.specs.Finish.{Finish, finish}
use Rattle.ooo_table.specs.Machine.{Given, setting_of}
use Rattle.ooo_table.proofs.Finishes.{first_end}
use Rattle.core_watch.specs.Shown.{Shown}
use Rattle.core_watch.specs.Items.{items_in, items_at}
use Rattle.shown_run.specs.Run.{all_items}
use Rattle.shown_run.specs.Headline.{shown_in}
use Rattle.shown_run.proofs.Adds.{adds_items, begins_so}
use Rattle.shown_run.proofs.Budgets.{Unended}

abbrev pub ended : Extent → ℕ → Finish
ended e c = record { extent = e; passed = c }

is_ended : (f : Finish) (e : Extent) (c : ℕ) → f.extent ≡ e → f.passed ≡ c → f ≡ ended e c
is_ended f e c p q = ap (λ x. ended x f.passed) p ∙ ap (λ n. ended e n) q

not_ended : (m : Option Extent) (e : Extent) → m ≡ Some e → m ≡ None → ⊥
not_ended m e p q = let k : Some e ≡ None = sym p ∙ q in cc

module _ (set : Setting) (most : ℕ) where
  -- it ends behind its last cycle
  pub ends_whole : (cycles : ℕ) → 1 ≤ most → Unended set most cycles → finish set most cycles ≡ ended Whole cycles
  ends_whole cycles some none = by_end (finish set most cycles) (first_end set most cycles some).ends
    where
      by_end : (f : Finish) → ((f.extent ≡ Whole) × (f.passed ≡ cycles)) ⊎ ((end_in set most f.passed ≡ Some f.extent) × (f.passed < cycles)) → f ≡ ended Whole cycles
      by_end f (inl (e, p)) = is_ended f Whole cycles e p
      by_end f (inr (e, lt)) = absurd (not_ended (end_in set most f.passed) f.extent e (none f.passed lt))

  module _ (cycles c : ℕ) (some : 1 ≤ most) (lt : c < cycles) (none : Unended set most c) where
    -- or in the next cycle
    pub ends_at : (e : Extent) → end_in set most c ≡ Some e → finish set most cycles ≡ ended e c
    ends_at e here = by_time (finish set most cycles) (first_end set most cycles some).first (first_end set most cycles some).ends (cases_lt (finish set most cycles).passed c) (cases_lt c (finish set most cycles).passed)
      where
        same : (a b : Extent) → Some a ≡ Some b → a ≡ b
        same a b k = cc

        by_time : (f : Finish) → ((x : ℕ) → x < f.passed → end_in set most x ≡ None)
            → ((f.extent ≡ Whole) × (f.passed ≡ cycles)) ⊎ ((end_in set most f.passed ≡ Some f.extent) × (f.passed < cycles))
            → (f.passed < c) ⊎ (c ≤ f.passed) → (c < f.passed) ⊎ (f.passed ≤ c) → f ≡ ended e c
        by_time f first (inl (w, p)) (inl less) k = absurd (omega (arith, p, less, lt))
        by_time f first (inr (h, p)) (inl less) k = absurd (not_ended (end_in set most f.passed) f.extent h (none f.passed less))
        by_time f first ends (inr le) (inl more) = absurd (not_ended (end_in set most c) e here (first c more))
        by_time f first (inl (w, p)) (inr le) (inr ge) = absurd (omega (arith, p, ge, lt))
        by_time f first (inr (h, p)) (inr le) (inr ge) =
            let at : f.passed ≡ c = omega (arith, le, ge) in
            is_ended f e c (same f.extent e (sym (subst (λ n. end_in set most n ≡ Some f.extent) at h) ∙ here)) at

    -- or it goes on
    pub ends_later : end_in set most c ≡ None → suc c ≤ (finish set most cycles).passed
    ends_later here = by_time (finish set most cycles) (first_end set most cycles some).ends (cases_lt c (finish set most cycles).passed)
      where
        by_passed : (f : Finish) → (f.passed < c) ⊎ (c ≤ f.passed) → f.passed ≤ c → end_in set most f.passed ≡ Some f.extent → ⊥
        by_passed f (inl less) le h = not_ended (end_in set most f.passed) f.extent h (none f.passed less)
        by_passed f (inr ge) le h =
            let at : f.passed ≡ c = omega (arith, le, ge) in
            not_ended (end_in set most c) f.extent (subst (λ n. end_in set most n ≡ Some f.extent) at h) here

        by_time : (f : Finish) → ((f.extent ≡ Whole) × (f.passed ≡ cycles)) ⊎ ((end_in set most f.passed ≡ Some f.extent) × (f.passed < cycles))
            → (c < f.passed) ⊎ (f.passed ≤ c) → suc c ≤ f.passed
        by_time f ends (inl more) = more
        by_time f (inl (w, p)) (inr le) = absurd (omega (arith, p, le, lt))
        by_time f (inr (h, p)) (inr le) = absurd (by_passed f (cases_lt f.passed c) le h)

  -- a cycle never ends as whole
  never_whole : (b : Bool) (m : Option ℕ) → or_stop b m ≡ Some Whole → ⊥
  never_whole b (Some x) h = cc
  never_whole true None h = cc
  never_whole false None h = cc

-- ---- what is shown of it

module _ (g : Given) (most cycles c : ℕ) (some : 1 ≤ most) (lt : c < cycles) (none : Unended (setting_of g) most c) where
  abbrev run : Finish
  run = finish (setting_of g) most cycles

  -- of a run that ends in the cycle, and of any other
  pub shown_at : (e : Extent) → end_in (setting_of g) most c ≡ Some e → all_items g e c ≡ all_items g Whole c ++ items_in g e c c
  shown_at Whole h = absurd (never_whole (setting_of g) most (stops_in (setting_of g) c (table (setting_of g) c)) (last_commit (setting_of g) most c (after_commit (setting_of g) c).rows) h)
  shown_at (AtCommit row) h = (adds_items g c).commit row
  shown_at AtStop h = (adds_items g c).stop

  pub begins : (more : List Shown) × (shown_in g run ≡ (all_items g Whole c ++ items_at g c (end_in (setting_of g) most c)) ++ more)
  begins = by_end (end_in (setting_of g) most c) refl
    where
      by_end : (o : Option Extent) → end_in (setting_of g) most c ≡ o → (more : List Shown) × (shown_in g run ≡ (all_items g Whole c ++ items_at g c o) ++ more)
      by_end (Some e) h = (
        [],
        ap (shown_in g) (ends_at (setting_of g) most cycles c some lt none e h) ∙ (shown_at e h ∙ sym (append-nil (all_items g Whole c ++ items_in g e c c))),
      )
      by_end None h =
          let (more, same) = begins_so g run.extent run.passed (suc c) (ends_later (setting_of g) most cycles c some lt none h) in
          (more, same ∙ ap (λ l. l ++ more) (adds_items g c).whole)
