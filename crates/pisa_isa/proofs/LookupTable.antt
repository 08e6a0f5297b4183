-- The look-up table of the code.
use Rattle.std.proofs.Common.{◌≡◌, ◌<◌, ℕ, map, get_or, None, refl, ap, arith, ◌∙◌}
use Rattle.std.proofs.lemmas.List.FromFn.{get_or-map-range_with_len}
use Rattle.std.specs.List.{range_with_len}
use Rattle.pisa_isa.specs.declared.lookup.TheConstants.{OPERATIONS}
use Rattle.pisa_isa.specs.Coding.{operation_of}

-- the look-up table holds the operation of each number below 256
table_is : OPERATIONS ≡ map operation_of (range_with_len 0 256)
unfolding operation_of
table_is = refl

pub table_at : (n : ℕ) → n < 256 → get_or OPERATIONS n None ≡ operation_of n
table_at n below = ap (λ xs. get_or xs n None) table_is ∙ get_or-map-range_with_len operation_of 0 256 n n None below (omega arith)
