-- A list of zeros reads 0 everywhere.
use Rattle.std.proofs.Common.{◌≡◌, ℕ, ◌<◌, ◌≤◌, ◌⊎◌, replicate, slice_index, inl, inr, arith}
use Rattle.std.proofs.lemmas.Bool.{cases_lt}
use Rattle.std.proofs.lemmas.List.{get_or-replicate, get_or_past, length-replicate}

pub slice_index-replicate : (n k : ℕ) → slice_index (replicate n 0) k ≡ 0
slice_index-replicate n k = each (cases_lt k n)
  where
    each : (k < n) ⊎ (n ≤ k) → slice_index (replicate n 0) k ≡ 0
    each (inl h) = get_or-replicate n k 0 0 h
    each (inr h) = get_or_past (replicate n 0) k 0 (omega (arith, length-replicate {A = ℕ} n 0))
