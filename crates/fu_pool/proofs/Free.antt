-- A unit is free exactly where fewer are busy than there are.
use Rattle.std.proofs.Common.{◌≡◌, ℕ, ◌+◌, ◌<◌, ◌≤◌, Bool, true, false, cond, List, [], ◌∷◌, length, Some, None, refl, sym, ◌∙◌, arith, set, take, length-take}
use Rattle.std.proofs.Math.Seq.{take-set-lt}
use Rattle.std.specs.Prelude.{nat_le, nat_lt, count_by, position, slice_index, ◌||◌, IsTrue}
use Rattle.std.specs.List.{list_any, position_from}
use Rattle.std.proofs.lemmas.Iterator.Adapters.{position_from-zero}
use Rattle.std.proofs.lemmas.List.Sums.{sum_by-cons}
use Rattle.std.proofs.lemmas.Bool.{leb-true}
use Rattle.std.proofs.lemmas.List.Quantifiers.{position-Some}
use Rattle.std.proofs.lemmas.Bool.Decides.{nat_tests}
use Rattle.fu_pool.specs.Takes.{busy, IsTaken}

abbrev free : ℕ → ℕ → Bool
free c unit = nat_le unit c

either_way : (c unit : ℕ) → cond (nat_lt c unit) 1 0 + cond (free c unit) 1 0 ≡ 1
either_way c unit = grind (arith, nat_tests)

busy_and_free : (c : ℕ) (units : List ℕ) → busy c units + count_by (free c) units ≡ length units
busy_and_free c [] = omega arith
busy_and_free c (unit ∷ units) =
    omega (arith, busy_and_free c units, either_way c unit, sum_by-cons (λ u. cond (nat_lt c u) 1 0) unit units, sum_by-cons (λ u. cond (free c u) 1 0) unit units)

count_cons : (p : ℕ → Bool) (x : ℕ) (xs : List ℕ) → count_by p (x ∷ xs) ≡ cond (p x) 1 0 + count_by p xs
count_cons p x xs = sum_by-cons (λ u. cond (p u) 1 0) x xs

any_step : (here rest : Bool) (n more : ℕ) → (rest ≡ true → 0 < n) → more ≡ cond here 1 0 + n → (here || rest) ≡ true → 0 < more
any_step true rest n more ih e h = omega arith
any_step false rest n more ih e h = omega (arith, ih h)

none_step : (here rest : Bool) (n more : ℕ) → (rest ≡ false → n ≡ 0) → more ≡ cond here 1 0 + n → (here || rest) ≡ false → more ≡ 0
none_step true rest n more ih e h = absurd cc
none_step false rest n more ih e h = omega (arith, ih h)

some_free : (c : ℕ) (units : List ℕ) → list_any (free c) units ≡ true → 0 < count_by (free c) units
some_free c [] h = absurd cc
some_free c (unit ∷ units) h = any_step (free c unit) _ _ _ (some_free c units) (count_cons (free c) unit units) h

none_free : (c : ℕ) (units : List ℕ) → list_any (free c) units ≡ false → count_by (free c) units ≡ 0
none_free c [] h = refl
none_free c (unit ∷ units) h = none_step (free c unit) _ _ _ (none_free c units) (count_cons (free c) unit units) h

free_below : (c : ℕ) (units : List ℕ) → list_any (free c) units ≡ true → busy c units < length units
free_below c units h = omega (arith, some_free c units h, busy_and_free c units)

below_free : (c : ℕ) (units : List ℕ) → busy c units < length units → list_any (free c) units ≡ true
below_free c units h = by_test (list_any (free c) units) refl
  where
    by_test : (b : Bool) → list_any (free c) units ≡ b → b ≡ true
    by_test true e = refl
    by_test false e = absurd (omega (arith, none_free c units e, busy_and_free c units))

-- where no place is found, none is free
none_from : (c i : ℕ) (units : List ℕ) → position_from (free c) i units ≡ None → list_any (free c) units ≡ false
none_from c i [] e = refl
none_from c i (unit ∷ units) e = by_test (free c unit) (none_from c (i + 1) units) e
  where
    by_test : (b : Bool) → (position_from (free c) (i + 1) units ≡ None → list_any (free c) units ≡ false)
        → cond b (Some i) (position_from (free c) (i + 1) units) ≡ None → (b || list_any (free c) units) ≡ false
    by_test true ih e = absurd cc
    by_test false ih e = ih e

nowhere : (c : ℕ) (units : List ℕ) → position (free c) units ≡ None → busy c units < length units → ⊥
nowhere c units e h =
    let none : list_any (free c) units ≡ false = none_from c 0 units (sym (position_from-zero (free c) units) ∙ e) in
    omega (arith, none_free c units none, busy_and_free c units)

somewhere : (c : ℕ) (units : List ℕ) (i : ℕ) → position (free c) units ≡ Some i → (i < length units) × (slice_index units i ≤ c)
somewhere c units i e = let p = position-Some (free c) units i 0 e in (p.0, leb-true _ _ p.1)

-- the clauses of the calls, over plain lists
pub free_answer : (c : ℕ) (units view : List ℕ) (answer : Bool) → answer ≡ list_any (free c) units → units ≡ view
    → (IsTrue answer → busy c view < length view) × (busy c view < length view → IsTrue answer)
free_answer c units view answer e v = rw (e, ← v) (free_below c units, below_free c units)

pub take_answer : (c until count at : ℕ) (free_at view : List ℕ) → position (free c) (take count free_at) ≡ Some at → take count free_at ≡ view
    → count ≤ length free_at → IsTaken c until view (take count (set free_at at until))
take_answer c until count at free_at view e v le =
    let p : (at < length (take count free_at)) × (slice_index (take count free_at) at ≤ c) = somewhere c _ at e in
    let in_count : at < count = omega (arith, simp length-take at p.0) in
    rw (← v) (at, p.0, p.1, take-set-lt count free_at at until in_count)

pub take_possible : (c count : ℕ) (free_at view : List ℕ) → position (free c) (take count free_at) ≡ None → take count free_at ≡ view
    → busy c view < length view → ⊥
take_possible c count free_at view e v h = nowhere c (take count free_at) e (rw v h)
