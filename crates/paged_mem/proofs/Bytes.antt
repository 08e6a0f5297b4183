-- Lists of bytes.
use Rattle.std.proofs.Common.{ℕ, zero, suc, ◌<◌, [], ◌∷◌, get_or, arith}

pub two_below : (a b : ℕ) → a < 256 → b < 256 → (i : ℕ) → get_or (a ∷ b ∷ []) i 0 < 256
two_below a b h k zero = h
two_below a b h k (suc zero) = k
two_below a b h k (suc (suc i)) = omega arith

pub four_below : (a b c d : ℕ) → a < 256 → b < 256 → c < 256 → d < 256 → (i : ℕ) → get_or (a ∷ b ∷ c ∷ d ∷ []) i 0 < 256
four_below a b c d h k l m zero = h
four_below a b c d h k l m (suc zero) = k
four_below a b c d h k l m (suc (suc i)) = two_below c d l m i
