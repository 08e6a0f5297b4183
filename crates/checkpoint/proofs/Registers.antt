-- Registers 1 to 31, of all.
use Rattle.std.proofs.Common.{◌≡◌, ℕ, zero, suc, ◌+◌, ◌^◌, ◌<◌, List, [], ◌∷◌, length, take, drop, refl, sym, ap, subst, ◌∙◌, arith}
use Rattle.std.specs.Prelude.{slice_index}
use Rattle.std.specs.List.{AllByRecursion}
use Rattle.std.proofs.lemmas.List.{take_all}

all_behind : (all : List ℕ) → length all ≡ 32 → take 31 (drop 1 all) ≡ drop 1 all
all_behind [] count = refl
all_behind (x ∷ xs) count = take_all 31 xs (omega (arith, count))

-- what lies behind register 0
pub behind_zero : (all kept : List ℕ) → length all ≡ 32 → kept ≡ take 31 (drop 1 all) → kept ≡ drop 1 all
behind_zero all kept count copied = copied ∙ all_behind all count

each_below : (xs : List ℕ) → ((k : ℕ) → slice_index xs k < 2 ^ 32) → AllByRecursion (λ r. r < 2 ^ 32) xs
each_below [] h = tt
each_below (x ∷ xs) h = (h 0, each_below xs (λ k. h (suc k)))

rest_below : (xs : List ℕ) → ((k : ℕ) → slice_index xs k < 2 ^ 32) → AllByRecursion (λ r. r < 2 ^ 32) (drop 1 xs)
rest_below [] h = tt
rest_below (x ∷ xs) h = each_below xs (λ k. h (suc k))

pub below : (all kept : List ℕ) → kept ≡ drop 1 all → ((k : ℕ) → slice_index all k < 2 ^ 32) → AllByRecursion (λ r. r < 2 ^ 32) kept
below all kept same h = subst (AllByRecursion (λ r. r < 2 ^ 32)) (sym same) (rest_below all h)
