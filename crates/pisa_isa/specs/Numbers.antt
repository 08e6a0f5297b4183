-- Operations and their numbers.
use Rattle.std.proofs.Common.{◌≡◌, ◌<◌, ◌≤◌, ℕ, List, [], ◌∷◌, find, cond, subst, Bool, true, false, Option, Some, None, nat_eq, refl, arith, lit<, lit≤, length}
use Rattle.std.proofs.lemmas.Bool.{eqb-true}
use Rattle.pisa_isa.specs.declared.instr.Op.{Op}
use Rattle.pisa_isa.specs.declared.instr.Op.TheVariants as op
use Rattle.pisa_isa.specs.Table.{all_ops}
use Rattle.pisa_isa.specs.Coding.{number_of, operation_of}
use Rattle.pisa_isa.specs.Texts.{name_of}

-- an option that is no value is None
pub nothing : {A : Type 0} (o : Option A) → ((x : A) → o ≡ Some x → ⊥) → o ≡ None
nothing None none = refl
nothing (Some x) none = absurd (none x refl)

-- what a search finds passes its test
found_step : {A : Type 0} (p : A → Bool) (y x : A) (rest : Option A) (passes : Bool) → p y ≡ passes
    → cond passes (Some y) rest ≡ Some x → (rest ≡ Some x → p x ≡ true) → p x ≡ true
found_step p y x rest true is found later = let same : y ≡ x = cc in subst (λ z. p z ≡ true) same is
found_step p y x rest false is found later = later found

find_passes : {A : Type 0} (p : A → Bool) (xs : List A) (x : A) → find p xs ≡ Some x → p x ≡ true
find_passes p [] x found = cc
find_passes p (y ∷ ys) x found = found_step p y x (find p ys) (p y) refl found (find_passes p ys x)

-- the operation that is found for a number has that number
pub operation_has : (n : ℕ) (o : Op) → operation_of n ≡ Some o → number_of o ≡ n
unfolding operation_of
operation_has n o found = eqb-true _ _ (find_passes (λ p. nat_eq (number_of p) n) all_ops o found)

-- every number is below 256
pub number_below : (o : Op) → number_of o < 256
number_below op.Nop = lit< tt
number_below _ = lit< tt

-- the operation of an operation's number is that operation
pub operation_number : (o : Op) → operation_of (number_of o) ≡ Some o
unfolding operation_of
operation_number op.Nop = refl
operation_number _ = refl

-- no operation has a number of 256 or more
pub operation_above : (n : ℕ) → 256 ≤ n → operation_of n ≡ None
operation_above n above = nothing (operation_of n) (λ o found. absurd (omega (arith, number_below o, operation_has n o found)))

-- a printed name has at most eight characters
pub name_fits : (o : Op) → length (name_of o) ≤ 8
name_fits op.Nop = lit≤ tt
name_fits _ = lit≤ tt

-- an operation is found at its number
pub operation_at : (n : ℕ) (o : Op) → number_of o ≡ n → operation_of n ≡ Some o
operation_at n o is = rw (← is) (operation_number o)
