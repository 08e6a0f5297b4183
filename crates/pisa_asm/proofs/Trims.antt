-- Trimming byte by byte.
use Rattle.std.proofs.Common.{◌≡◌, ◌+◌, ◌-◌, ◌<◌, ◌++◌, ◌&&◌, ◌∙◌, ℕ, List, [], ◌∷◌, Bool, true, false, cond, length, take, get_or, refl, sym, ap, arith}
use Rattle.std.proofs.lemmas.List.{take_all, take_more}
use Rattle.std.proofs.lemmas.List.Folds.{list_all-append}
use Rattle.std.specs.List.{list_all}
use Rattle.text_lines.specs.Lines.{is_blank}
use Rattle.pisa_asm.specs.Letters.{trim_end}

-- a list is its front and its last element
pub front_and_last : (xs : List ℕ) → 0 < length xs → xs ≡ take (length xs - 1) xs ++ get_or xs (length xs - 1) 0 ∷ []
front_and_last xs h =
    let whole : take (length xs - 1 + 1) xs ≡ xs = take_all (length xs - 1 + 1) xs (omega arith) in
    sym whole ∙ take_more xs (length xs - 1) 0 (omega arith)

and_true : (b : Bool) → (b && true) ≡ b
and_true true = refl
and_true false = refl

and_false : (b : Bool) → (b && false) ≡ false
and_false true = refl
and_false false = refl

all_with_blank : (xs : List ℕ) (b : ℕ) → is_blank b ≡ true → list_all is_blank (xs ++ b ∷ []) ≡ list_all is_blank xs
all_with_blank xs b h = list_all-append is_blank xs (b ∷ []) ∙ ap (λ v. list_all is_blank xs && (v && true)) h ∙ and_true (list_all is_blank xs)

all_with_other : (xs : List ℕ) (b : ℕ) → is_blank b ≡ false → list_all is_blank (xs ++ b ∷ []) ≡ false
all_with_other xs b h = list_all-append is_blank xs (b ∷ []) ∙ ap (λ v. list_all is_blank xs && (v && true)) h ∙ and_false (list_all is_blank xs)

end_blank : (xs : List ℕ) (b : ℕ) → is_blank b ≡ true → trim_end (xs ++ b ∷ []) ≡ trim_end xs
end_blank [] b h = ap (λ v. cond (v && true) [] (b ∷ [])) h
end_blank (x ∷ xs) b h =
    ap (λ v. cond v [] (x ∷ trim_end (xs ++ b ∷ []))) (all_with_blank (x ∷ xs) b h)
    ∙ ap (λ (ys : List ℕ). cond (list_all is_blank (x ∷ xs)) [] (x ∷ ys)) (end_blank xs b h)

end_other : (xs : List ℕ) (b : ℕ) → is_blank b ≡ false → trim_end (xs ++ b ∷ []) ≡ xs ++ b ∷ []
end_other [] b h = ap (λ v. cond (v && true) [] (b ∷ [])) h
end_other (x ∷ xs) b h =
    ap (λ v. cond v [] (x ∷ trim_end (xs ++ b ∷ []))) (all_with_other (x ∷ xs) b h)
    ∙ ap (λ (ys : List ℕ). x ∷ ys) (end_other xs b h)

-- a blank at the end falls away
pub trim_end_blank : (xs : List ℕ) → 0 < length xs → is_blank (get_or xs (length xs - 1) 0) ≡ true → trim_end (take (length xs - 1) xs) ≡ trim_end xs
trim_end_blank xs h blank =
    sym (end_blank (take (length xs - 1) xs) (get_or xs (length xs - 1) 0) blank) ∙ ap trim_end (sym (front_and_last xs h))

-- where the last byte is no blank, nothing does
pub trim_end_other : (xs : List ℕ) → 0 < length xs → is_blank (get_or xs (length xs - 1) 0) ≡ false → xs ≡ trim_end xs
trim_end_other xs h other =
    front_and_last xs h ∙ sym (end_other (take (length xs - 1) xs) (get_or xs (length xs - 1) 0) other) ∙ ap trim_end (sym (front_and_last xs h))
