-- The first failing check of lists that are joined.
use Rattle.std.proofs.Common.{◌≡◌, Bool, true, false, cond, List, [], ◌∷◌, ◌++◌, Option, Some, None, refl, ap, ◌∙◌}
use Rattle.ecoff_load.specs.declared.fault.Refusal.{Refusal}
use Rattle.ecoff_load.specs.Checks.{Check, first_failing}

passes : (b : Bool) (r : Refusal) (x : Option Refusal) → cond b x (Some r) ≡ None → (b ≡ true) × (x ≡ None)
passes true r x e = (refl, e)
passes false r x e = absurd cc

fails : (b : Bool) (r q : Refusal) (x y : Option Refusal) → cond b x (Some r) ≡ Some q → (x ≡ Some q → y ≡ Some q) → cond b y (Some r) ≡ Some q
fails true r q x y e f = f e
fails false r q x y e f = e

abbrev refusal_of : Check → Refusal
refusal_of c = record { at = c.at; why = c.why }

-- the check that passes is the first of a list without one that fails
pub first_holds : (c : Check) (cs : List Check) → first_failing (c ∷ cs) ≡ None → (c.holds ≡ true) × (first_failing cs ≡ None)
first_holds c cs e = passes c.holds (refusal_of c) (first_failing cs) e

pub holds_first : (c : Check) (cs : List Check) → c.holds ≡ true → first_failing cs ≡ None → first_failing (c ∷ cs) ≡ None
holds_first c cs h e = ap (λ (b : Bool). cond b (first_failing cs) (Some (refusal_of c))) h ∙ e

-- the first list has none that fails
pub behind_none : (xs ys : List Check) → first_failing xs ≡ None → first_failing (xs ++ ys) ≡ first_failing ys
behind_none [] ys e = refl
behind_none (c ∷ cs) ys e =
    let p = first_holds c cs e in
    ap (λ (b : Bool). cond b (first_failing (cs ++ ys)) (Some (refusal_of c))) p.0 ∙ behind_none cs ys p.1

-- the first list has one
pub in_front : (xs ys : List Check) (r : Refusal) → first_failing xs ≡ Some r → first_failing (xs ++ ys) ≡ Some r
in_front [] ys r e = absurd cc
in_front (c ∷ cs) ys r e = fails c.holds (refusal_of c) r (first_failing cs) (first_failing (cs ++ ys)) e (in_front cs ys r)

-- neither list has one
pub both_none : (xs ys : List Check) → first_failing (xs ++ ys) ≡ None → (first_failing xs ≡ None) × (first_failing ys ≡ None)
both_none [] ys e = (refl, e)
both_none (c ∷ cs) ys e =
    let p = first_holds c (cs ++ ys) e in
    let q = both_none cs ys p.1 in
    (holds_first c cs p.0 q.0, q.1)
