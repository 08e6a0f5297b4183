-- Lemmas on the ends of parts.
use Rattle.std.proofs.Common.{◌≡◌, ℕ, ◌+◌, ◌<◌, List, [], ◌∷◌, ◌++◌, length, take, get_or, max, sym, ap, ◌∙◌, arith}
use Rattle.std.proofs.lemmas.List.{take_more}
use Rattle.ecoff_load.specs.declared.image.Part.{Part}
use Rattle.run_commands.specs.Outcome.{greatest_end}

swap_max : (a b c : ℕ) → max a (max b c) ≡ max (max a b) c
swap_max a b c = omega arith

greatest_behind : (parts : List Part) (p : Part) → greatest_end (parts ++ p ∷ []) ≡ max (greatest_end parts) (p.addr + p.size)
greatest_behind [] p = omega arith
greatest_behind (q ∷ parts) p = ap (λ x. max (q.addr + q.size) x) (greatest_behind parts p) ∙ swap_max (q.addr + q.size) (greatest_end parts) (p.addr + p.size)

-- the greatest end with one part more
pub greatest_more : (parts : List Part) (k : ℕ) (p : Part) → k < length parts → p ≡ get_or parts k p → greatest_end (take (k + 1) parts) ≡ max (greatest_end (take k parts)) (p.addr + p.size)
greatest_more parts k p h e =
    let q : Part = get_or parts k p in
    ap greatest_end (take_more parts k p h) ∙ greatest_behind (take k parts) q ∙ ap (λ (x : Part). max (greatest_end (take k parts)) (x.addr + x.size)) (sym e)
