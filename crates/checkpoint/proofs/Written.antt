-- What is written, piece by piece.
use Rattle.std.proofs.Common.{◌≡◌, ℕ, ◌+◌, List, [], ◌∷◌, ◌++◌, sym, ap, ◌∙◌, append_assoc}
use Rattle.std.specs.Int.{w32, w64, to_le_bytes}
use Rattle.std.specs.List.{flat_map}
use Rattle.event_trace.specs.Grammar.{order_bytes}
use Rattle.checkpoint.specs.declared.point.Head.{Head}
use Rattle.checkpoint.specs.Grammar.{magic, head_words, head_bytes}

five : (x a b c d e : List ℕ) → ((((x ++ a) ++ b) ++ c) ++ d) ++ e ≡ x ++ ((((a ++ b) ++ c) ++ d) ++ e)
five x a b c d e = simp append_assoc

pub head_laid : (h : Head) (count : ℕ) (x x1 x2 x3 x4 x5 t : List ℕ) → t ≡ to_le_bytes w64 h.icnt → x1 ≡ x ++ magic → x2 ≡ x1 ++ ((48 + h.version) ∷ []) → x3 ≡ x2 ++ t → x4 ≡ x3 ++ flat_map (to_le_bytes w32) (head_words h count) → x5 ≡ x4 ++ order_bytes h.version h.big → x5 ≡ x ++ head_bytes h count
head_laid h count x x1 x2 x3 x4 x5 t e w1 w2 w3 w4 w5 =
    let digit : List ℕ = (48 + h.version) ∷ [] in
    let icnt : List ℕ = to_le_bytes w64 h.icnt in
    let words : List ℕ = flat_map (to_le_bytes w32) (head_words h count) in
    let order : List ℕ = order_bytes h.version h.big in
    w5 ∙ ap (λ (y : List ℕ). y ++ order) (w4 ∙ ap (λ (y : List ℕ). y ++ words) (w3 ∙ ap (λ (y : List ℕ). x2 ++ y) e ∙ ap (λ (y : List ℕ). y ++ icnt) (w2 ∙ ap (λ (y : List ℕ). y ++ digit) w1)))
    ∙ five x magic digit icnt words order
