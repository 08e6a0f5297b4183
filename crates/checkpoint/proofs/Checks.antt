-- What checks that passed say, and that checks pass.
use Rattle.std.proofs.Common.{◌≡◌, ℕ, ◌+◌, ◌-◌, ◌<◌, ◌≤◌, Bool, true, false, ◌&&◌, ◌||◌, cond, ltb, eqb, List, [], ◌∷◌, length, Result, Ok, Err, refl, arith}
use Rattle.std.proofs.lemmas.Bool.{ltb-false, le-ltb}
use Rattle.checkpoint.specs.Reading.{Refusal, ◌>>=◌, refuse, short, Check, judged}
use Rattle.checkpoint.specs.declared.fault.PointWhy.TheVariants as why

-- the value of a step that did not fail
pub bind_ok : {A B : Type 0} (r : Result A Refusal) (f : A → Result B Refusal) (y : B) → (r >>= f) ≡ Ok y → (x : A) × (r ≡ Ok x) × (f x ≡ Ok y)
bind_ok (Ok x) f y e = (x, refl, e)
bind_ok (Err d) f y e = absurd cc

-- a check that did not fail
pub passed : {A : Type 0} (b : Bool) (d : Refusal) (r : Result A Refusal) (y : A) → cond b (Err d) r ≡ Ok y → (b ≡ false) × (r ≡ Ok y)
passed true d r y e = absurd cc
passed false d r y e = (refl, e)

pub at_least : {A : Type 0} (a b : ℕ) (d : Refusal) (r : Result A Refusal) (y : A) → cond (ltb a b) (Err d) r ≡ Ok y → (b ≤ a) × (r ≡ Ok y)
at_least a b d r y e =
    let p = passed (ltb a b) d r y e in
    (ltb-false a b p.0, p.1)

abbrev done : {A : Type 0} → A → Result A Refusal
done x = Ok x

pub ok_is : {A : Type 0} (x y : A) → done x ≡ done y → x ≡ y
ok_is x y e = cc

-- a field that passed is there, and its check doesn't fail
pub record Passed (bytes : List ℕ) (c : Check) (cs : List Check) : Type 0 where
  pub there : c.end ≤ length bytes
  pub holds : c.fails ≡ false
  pub others : judged bytes cs ≡ Ok tt

pub first_passed : (bytes : List ℕ) (c : Check) (cs : List Check) → judged bytes (c ∷ cs) ≡ Ok tt → Passed bytes c cs
first_passed bytes c cs e =
    let r : Result (Unit {0}) Refusal = cond c.fails (refuse (length bytes - c.at) c.why) (judged bytes cs) in
    let p = at_least (length bytes) c.end (record { left = 0; why = why.Short }) r tt e in
    let q = passed c.fails (record { left = length bytes - c.at; why = c.why }) (judged bytes cs) tt p.1 in
    record { there = p.0; holds = q.0; others = q.1 }

pub first_passes : (bytes : List ℕ) (c : Check) (cs : List Check) → c.end ≤ length bytes → c.fails ≡ false → judged bytes cs ≡ Ok tt → judged bytes (c ∷ cs) ≡ Ok tt
first_passes bytes c cs there holds others = rw (le-ltb (length bytes) c.end there, holds) others

-- two tests of which none holds
pub neither : (a b : Bool) → (a || b) ≡ false → (a ≡ false) × (b ≡ false)
neither true b e = absurd cc
neither false b e = (refl, e)

pub none_holds : (a b : Bool) → a ≡ false → b ≡ false → (a || b) ≡ false
none_holds a b e f = rw (e, f) refl

-- a second test that doesn't hold where the first one does
pub not_second : (a b : Bool) → (a && b) ≡ false → a ≡ true → b ≡ false
not_second true b e f = e
not_second false b e f = absurd cc

pub not_both : (a b : Bool) → (a ≡ true → b ≡ false) → (a && b) ≡ false
not_both true b f = f refl
not_both false b f = refl
