-- Facts of each item of a list, and lists as a loop goes over them.
use Rattle.std.proofs.Common.{◌≡◌, ℕ, zero, suc, ◌+◌, ◌<◌, List, [], ◌∷◌, length, drop, get_or, sym, ap, subst, ◌∙◌, arith, drop-cons}
use Rattle.std.specs.Prelude.{Some, slice_get}
use Rattle.std.specs.List.{AllByRecursion}
use Rattle.event_trace.specs.Grammar.{InTurn}

-- an item of a list whose items all fit
pub all_at : {A : Type 0} (P : A → Type 0) (xs : List A) (k : ℕ) (x : A) → AllByRecursion P xs → k < length xs → x ≡ get_or xs k x → P x
all_at P [] k x h lt e = absurd (omega arith)
all_at P (y ∷ ys) zero x h lt e = subst P (sym e) h.0
all_at P (y ∷ ys) (suc k) x h lt e = all_at P ys k x h.1 (omega arith) e

-- an item of a list whose items fit in turn
pub in_turn_at : {A : Type 0} (Fits : ℕ → A → Type 0) (next : A → ℕ) (least : ℕ) (xs : List A) (k : ℕ) (x : A) → InTurn Fits next least xs → k < length xs → x ≡ get_or xs k x → (from : ℕ) × Fits from x
in_turn_at Fits next least [] k x h lt e = absurd (omega arith)
in_turn_at Fits next least (y ∷ ys) zero x h lt e = (least, subst (Fits least) (sym e) h.0)
in_turn_at Fits next least (y ∷ ys) (suc k) x h lt e = in_turn_at Fits next (next y) ys k x h.1 (omega arith) e

-- what is left of a list is an item and what is left behind it
pub rest_at : {A : Type 0} (xs : List A) (k : ℕ) (x : A) → k < length xs → x ≡ get_or xs k x → drop k xs ≡ x ∷ drop (k + 1) xs
rest_at {A = A} xs k x lt e =
    let z : k + 1 ≡ suc k = omega arith in
    let d : drop k xs ≡ get_or xs k x ∷ drop (suc k) xs = drop-cons xs k x lt in
    rw z (d ∙ ap (λ (y : A). y ∷ drop (suc k) xs) (sym e))

pub some_is : {A : Type 0} (x y : A) → Some x ≡ Some y → x ≡ y
some_is x y same = cc

-- the same, of the item that is got
pub in_turn_get : {A : Type 0} (Fits : ℕ → A → Type 0) (next : A → ℕ) (least : ℕ) (xs : List A) (k : ℕ) (x : A) → InTurn Fits next least xs → slice_get xs k ≡ Some x → (from : ℕ) × Fits from x
in_turn_get Fits next least [] k x h e = cc
in_turn_get Fits next least (y ∷ ys) zero x h e = (least, subst (Fits least) (some_is y x e) h.0)
in_turn_get Fits next least (y ∷ ys) (suc k) x h e = in_turn_get Fits next (next y) ys k x h.1 e
