-- Facts of each item of a list.
use Rattle.std.proofs.Common.{◌≡◌, ℕ, zero, suc, ◌+◌, ◌<◌, List, [], ◌∷◌, ◌++◌, length, take, get_or, sym, ap, subst, ◌∙◌, arith}
use Rattle.std.specs.List.{AllByRecursion}
use Rattle.std.proofs.lemmas.List.{take_more}

-- an item of a list whose items all fit
pub all_at : {A : Type 0} (P : A → Type 0) (xs : List A) (k : ℕ) (x : A) → AllByRecursion P xs → k < length xs → x ≡ get_or xs k x → P x
all_at P [] k x h lt e = absurd (omega arith)
all_at P (y ∷ ys) zero x h lt e = subst P (sym e) h.0
all_at P (y ∷ ys) (suc k) x h lt e = all_at P ys k x h.1 (omega arith) e

pub all_snoc : {A : Type 0} (P : A → Type 0) (xs : List A) (x : A) → AllByRecursion P xs → P x → AllByRecursion P (xs ++ x ∷ [])
all_snoc P [] x h p = (p, tt)
all_snoc P (y ∷ ys) x h p = (h.0, all_snoc P ys x h.1 p)

-- one item more
pub all_more : {A : Type 0} (P : A → Type 0) (xs : List A) (k : ℕ) (x : A) → AllByRecursion P (take k xs) → k < length xs → x ≡ get_or xs k x → P x → AllByRecursion P (take (k + 1) xs)
all_more {A = A} P xs k x h lt e p =
    let next : take (k + 1) xs ≡ take k xs ++ x ∷ [] = take_more xs k x lt ∙ ap (λ (y : A). take k xs ++ y ∷ []) (sym e) in
    subst (AllByRecursion P) (sym next) (all_snoc P (take k xs) x h p)
