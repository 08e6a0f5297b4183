-- Lists that are shown one after another.
use Rattle.std.specs.Prelude.{◌≡◌, List, [], ◌∷◌, ◌++◌, Result, Ok, Err}
use Rattle.std.proofs.Common.{inl, inr, refl, sym, subst}
use Rattle.core_watch.specs.Shown.{Shown, behind, CutWithin, TakesAll}

pub behind_append : (xs ys h : List Shown) → behind (xs ++ ys) h ≡ behind ys (behind xs h)
behind_append [] ys h = refl
behind_append (x ∷ xs) ys h = behind_append xs ys (x ∷ h)

module _ {S : Type 0} (cut : S → List Shown → S → Type 0) where
  -- a watch that was cut within the first list
  pub cut_front : (start : S) (xs ys h : List Shown) (now : S) → CutWithin cut start h xs now → CutWithin cut start h (xs ++ ys) now
  cut_front start [] ys h now k = absurd k
  cut_front start (x ∷ xs) ys h now (inl k) = inl k
  cut_front start (x ∷ xs) ys h now (inr k) = inr (cut_front start xs ys (x ∷ h) now k)

  -- or within the second one, when it had taken the first
  pub cut_back : (start : S) (xs ys h : List Shown) (now : S) → CutWithin cut start (behind xs h) ys now → CutWithin cut start h (xs ++ ys) now
  cut_back start [] ys h now k = k
  cut_back start (x ∷ xs) ys h now k = inr (cut_back start xs ys (x ∷ h) now k)

module _ {S T F : Type 0} (took cut : S → List Shown → S → Type 0) where
  -- what a watch makes of the second list, when it had taken the first, it makes of both
  pub takes_both : (start : S) (xs ys h : List Shown) (now : S) (result : Result T F) → TakesAll took cut start (behind xs h) ys now result → TakesAll took cut start h (xs ++ ys) now result
  takes_both start xs ys h now (Ok x) k = subst (λ (l : List Shown). took start l now) (sym (behind_append xs ys h)) k
  takes_both start xs ys h now (Err f) k = cut_back cut start xs ys h now k
