-- A run ends where it first can.
use Rattle.std.proofs.Common.{◌≡◌, ℕ, zero, suc, ◌+◌, ◌<◌, ◌≤◌, Option, Some, None, refl, ap, ◌∙◌, arith, inl, inr}
use Rattle.std.specs.Prelude.{◌⊎◌}
use Rattle.std.proofs.lemmas.Bool.{cases_lt}
use Rattle.ooo_table.specs.Table.{Setting}
use Rattle.ooo_table.specs.Ends.{Extent, Whole, end_in}
use Rattle.ooo_table.specs.Finish.{Finish, finish_or, finish_from, finish, IsFirstEnd}

module _ (set : Setting) (most limit : ℕ) where
  -- the same of a run behind c whole cycles
  record EndsFrom (c : ℕ) (f : Finish) : Type 0 where
    first : (x : ℕ) → c ≤ x → x < f.passed → end_in set most x ≡ None
    ends : ((f.extent ≡ Whole) × (f.passed ≡ limit)) ⊎ ((end_in set most f.passed ≡ Some f.extent) × (f.passed < limit))

  ends_or : (n c : ℕ) → c + suc n ≡ limit → (o : Option Extent) → end_in set most c ≡ o → (later : Finish) → EndsFrom (suc c) later → EndsFrom c (finish_or c later o)
  ends_or n c at (Some e) here later h = record { first = λ x le lt. absurd (omega (arith, le, lt)); ends = inr (here, omega (arith, at)) }
  ends_or n c at None here later h =
      record {
        first = λ x le lt. by_time x (cases_lt c x) le lt;
        ends = h.ends;
      }
    where
      by_time : (x : ℕ) → (c < x) ⊎ (x ≤ c) → c ≤ x → x < later.passed → end_in set most x ≡ None
      by_time x (inl more) le lt = h.first x more lt
      by_time x (inr less) le lt = let same : x ≡ c = omega (arith, le, less) in ap (λ y. end_in set most y) same ∙ here

  ends_from : (n c : ℕ) → c + n ≡ limit → EndsFrom c (finish_from set most n c)
  unfolding finish_from
  ends_from zero c at = record { first = λ x le lt. absurd (omega (arith, le, lt)); ends = inl (refl, omega (arith, at)) }
  ends_from (suc n) c at = ends_or n c at (end_in set most c) refl (finish_from set most n (suc c)) (ends_from n (suc c) (omega (arith, at)))

pub first_end : (set : Setting) (most cycles : ℕ) → 1 ≤ most → IsFirstEnd set most cycles (finish set most cycles)
first_end set zero cycles some = absurd (omega (arith, some))
first_end set (suc most) cycles some =
    let h = ends_from set (suc most) cycles cycles 0 (omega arith) in
    record { first = λ x lt. h.first x (omega arith) lt; ends = h.ends }
