-- Bytes of memory that are copied one after the other.
use Rattle.std.proofs.Common.{◌≡◌, ℕ, zero, suc, ◌+◌, [], ◌∷◌, ◌++◌, length, refl, sym, ap, ◌∙◌, arith}
use Rattle.event_trace.specs.World.{bytes_from}

no_bytes : (mem : ℕ → ℕ) (a : ℕ) → bytes_from mem a 0 ≡ []
unfolding bytes_from
no_bytes mem a = refl

next_bytes : (mem : ℕ → ℕ) (a n : ℕ) → bytes_from mem a (suc n) ≡ mem a ∷ bytes_from mem (a + 1) n
unfolding bytes_from
next_bytes mem a n = refl

more_suc : (mem : ℕ → ℕ) (a n : ℕ) → bytes_from mem a n ++ mem (a + n) ∷ [] ≡ bytes_from mem a (suc n)
unfolding bytes_from
more_suc mem a zero = let e : a + 0 ≡ a = omega arith in ap (λ k. mem k ∷ []) e
more_suc mem a (suc n) =
    let e : a + suc n ≡ (a + 1) + n = omega arith in
    ap (λ x. mem a ∷ x) (ap (λ k. bytes_from mem (a + 1) n ++ mem k ∷ []) e ∙ more_suc mem (a + 1) n)

-- one more byte
pub bytes_more : (mem : ℕ → ℕ) (a n : ℕ) → bytes_from mem a n ++ mem (a + n) ∷ [] ≡ bytes_from mem a (n + 1)
bytes_more mem a n = let e : suc n ≡ n + 1 = omega arith in more_suc mem a n ∙ ap (bytes_from mem a) e

pub bytes_none : (mem : ℕ → ℕ) (a : ℕ) → [] ≡ bytes_from mem a 0
bytes_none mem a = sym (no_bytes mem a)

pub bytes_length : (mem : ℕ → ℕ) (a n : ℕ) → length (bytes_from mem a n) ≡ n
unfolding bytes_from
bytes_length mem a zero = refl
bytes_length mem a (suc n) = ap suc (bytes_length mem (a + 1) n)
