-- What a turn changes of the marks that are counted.
use Rattle.std.proofs.Common.{◌≡◌, ℕ, suc, ◌+◌, ◌<◌, ◌≤◌, Bool, true, false, cond, List, Option, Some, None, refl, sym, ap, ◌∙◌, arith, inl, inr}
use Rattle.std.specs.Prelude.{◌⊎◌, ◌&&◌, not, is_some, is_none, option_map, nat_lt, ◌==◌}
use Rattle.std.proofs.lemmas.Bool.{cases_lt, lt-ltb, le-ltb}
use Rattle.std.proofs.lemmas.Bool.Decides.{nat_tests}
use Rattle.pisa_isa.specs.declared.classes.UnitClass.{UnitClass}
use Rattle.pisa_isa.specs.declared.classes.UnitClass.TheVariants.{Free, Alu, Multiply, Divide}
use Rattle.ooo_table.specs.Row.{Row, MemoryAccess, is_at, is_before, not_forwarded}
use Rattle.ooo_table.specs.Execution.{unit_latency}
use Rattle.ooo_table.specs.Done.{unsquashed_before}
use Rattle.ooo_table.specs.Ends.{happened}
use Rattle.ooo_table.specs.Later.{Where}
use Rattle.ooo_table.proofs.Counts.{one}
use Rattle.ooo_table.proofs.Order.{Now}
use Rattle.ooo_table.proofs.Units.{not_at, not_at_access}

is_its : (c : ℕ) → is_at c (Some c) ≡ true
is_its c = grind (arith, nat_tests)

set_at : (c : ℕ) (m : Option ℕ) → is_some m ≡ true → Where m (λ d. d ≡ c) → m ≡ Some c
set_at c None i at = absurd cc
set_at c (Some d) i at = ap Some at

-- a mark of earlier cycles stays, or is set in this one
pub mark_grows : (c : ℕ) (m n : Option ℕ) (x : Bool) → Where m (λ d. d < c) → Now (λ d. d ≡ c) m n
    → one (is_some n && x) ≡ one (is_some m && x) + one (is_at c n && x)
mark_grows c m n x w (inl e) =
    let k : is_at c n ≡ false = ap (is_at c) e ∙ not_at c m w in
    rw k (rw e (omega arith))
mark_grows c m n x w (inr (e, i, at)) =
    let k : n ≡ Some c = set_at c n i at in
    rw k (rw e (rw (is_its c) (omega arith)))

pub mark_set : (c : ℕ) (m n : Option ℕ) → Where m (λ d. d < c) → Now (λ d. d ≡ c) m n → one (is_some n) ≡ one (is_some m) + one (is_at c n)
mark_set c m n w (inl e) =
    let k : is_at c n ≡ false = ap (is_at c) e ∙ not_at c m w in
    rw k (rw e (omega arith))
mark_set c m n w (inr (e, i, at)) =
    let k : n ≡ Some c = set_at c n i at in
    rw k (rw e (rw (is_its c) (omega arith)))

accessed_at : (c : ℕ) (a : MemoryAccess) → a.at ≡ c → is_at c (Some a.at) ≡ true
accessed_at c a e = ap (λ t. is_at c (Some t)) e ∙ is_its c

-- and so an access, where an older store gave its value
pub access_grows : (c : ℕ) (m n : Option MemoryAccess) → Where m (λ a. a.at < c) → Now (λ a. a.at ≡ c) m n
    → one (not (not_forwarded n)) ≡ one (not (not_forwarded m)) + one (is_at c (option_map (λ a. a.at) n) && not (not_forwarded n))
access_grows c m n w (inl e) =
    let k : is_at c (option_map (λ a. a.at) n) ≡ false = ap (λ o. is_at c (option_map (λ a. a.at) o)) e ∙ not_at_access c m w in
    rw k (rw e (omega arith))
access_grows c m None w (inr (e, i, at)) = absurd cc
access_grows c m (Some a) w (inr (e, i, at)) =
    let k : is_at c (Some a.at) ≡ true = accessed_at c a at in
    rw k (rw e (omega arith))

-- ---- write-backs

latency_is_some : (u : UnitClass) → 1 ≤ unit_latency u
latency_is_some Free = omega arith
latency_is_some Alu = omega arith
latency_is_some Multiply = omega arith
latency_is_some Divide = omega arith

-- what issues in a cycle is written back later
pub written_later : (c : ℕ) (r : Row) (u : UnitClass) → happened (suc c) r (Some (c + unit_latency u)) ≡ None
written_later c r u = by_case (nat_lt (c + unit_latency u) (suc c)) refl
  where
    by_case : (b : Bool) → nat_lt (c + unit_latency u) (suc c) ≡ b → cond (b && unsquashed_before (Some (c + unit_latency u)) r) (Some (c + unit_latency u)) None ≡ None
    by_case false e = refl
    by_case true e = let k = latency_is_some u in absurd (grind (arith, nat_tests))

-- The W of a row has happened in one more cycle where it had happened before, or is of that cycle; a squash of the cycle hides none.
pub happens : (c w : ℕ) (r s : Row) → r.squashed ≡ None → Now (λ d. d ≡ c) r.squashed s.squashed
    → one (is_some (happened (suc c) s (Some w))) ≡ one (is_some (happened c r (Some w))) + one (is_at c (Some w))
happens c w r s u n = by_time (cases_lt w c)
  where
    later : (m : Option ℕ) → r.squashed ≡ m → Now (λ d. d ≡ c) m s.squashed → w ≤ c → is_before w s.squashed ≡ false
    later None e (inl f) le = ap (is_before w) f
    later None e (inr (f, i, at)) le = ap (is_before w) (set_at c s.squashed i at) ∙ le-ltb c w le
    later (Some d) e k le = absurd cc

    by_time : (w < c) ⊎ (c ≤ w) → one (is_some (happened (suc c) s (Some w))) ≡ one (is_some (happened c r (Some w))) + one (is_at c (Some w))
    by_time (inl lt) =
        let a : nat_lt w (suc c) ≡ true = lt-ltb w (suc c) (omega (arith, lt)) in
        let b : nat_lt w c ≡ true = lt-ltb w c lt in
        let d : is_before w s.squashed ≡ false = later r.squashed refl n (omega (arith, lt)) in
        let e : is_before w r.squashed ≡ false = ap (is_before w) u in
        let f : (w == c) ≡ false = grind (arith, nat_tests) in
        rw a (rw b (rw d (rw e (rw f refl))))
    by_time (inr ge) = by_last (cases_lt c w)
      where
        by_last : (c < w) ⊎ (w ≤ c) → one (is_some (happened (suc c) s (Some w))) ≡ one (is_some (happened c r (Some w))) + one (is_at c (Some w))
        by_last (inl gt) =
            let a : nat_lt w (suc c) ≡ false = le-ltb w (suc c) (omega (arith, gt)) in
            let b : nat_lt w c ≡ false = le-ltb w c ge in
            let f : (w == c) ≡ false = grind (arith, nat_tests) in
            rw a (rw b (rw f refl))
        by_last (inr le) =
            let a : nat_lt w (suc c) ≡ true = lt-ltb w (suc c) (omega (arith, le)) in
            let b : nat_lt w c ≡ false = le-ltb w c ge in
            let d : is_before w s.squashed ≡ false = later r.squashed refl n le in
            let f : (w == c) ≡ true = grind (arith, nat_tests) in
            rw a (rw b (rw d (rw f refl)))
