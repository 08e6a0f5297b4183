-- Walks over the addresses from the oldest row on.
use Rattle.std.proofs.Common.{◌≡◌, ℕ, ◌+◌, ◌-◌, ◌<◌, ◌≤◌, Some, cond, Bool, true, false, List, [], ◌∷◌, ◌++◌, length, take, drop, refl, sym, ap, ◌∙◌, arith, length-append}
use Rattle.std.specs.Prelude.{reverse, slice_get, ◌==◌, nat_le, if◌then◌else◌}
use Rattle.std.proofs.lemmas.List.{reverse-append, take_more}
use Rattle.std.proofs.lemmas.Option.{slice_get_within, get_or_from_slice_get}
use Rattle.circular_buffer.specs.Buffer.{Buffer, buffer}
use Rattle.core_parts.specs.declared.addresses.MemoryRow.{MemoryRow}
use Rattle.core_parts.specs.Addresses.{shown, address_of, up_to, pushed, retired, squashed}

one_more : (xs : List MemoryRow) (i : ℕ) (x : MemoryRow) → slice_get xs i ≡ Some x → reverse (take (i + 1) xs) ≡ x ∷ reverse (take i xs)
one_more xs i x e =
    let inside : i < length xs = slice_get_within xs i x e in
    ap reverse (take_more xs i x inside)
    ∙ (ap (λ y. reverse (take i xs ++ y ∷ [])) (get_or_from_slice_get xs i x x e)
    ∙ reverse-append (take i xs) (x ∷ []))

pub address_next : (row addr new i : ℕ) (xs : List MemoryRow) (x : MemoryRow) → slice_get xs i ≡ Some x
    → addr ≡ address_of row (reverse (take i xs)) → new ≡ (if x.row == row then x.addr else addr)
    → new ≡ address_of row (reverse (take (i + 1) xs))
address_next row addr new i xs x e h is =
    is ∙ (ap (λ b. cond (x.row == row) x.addr b) h ∙ sym (ap (address_of row) (one_more xs i x e)))

pub count_next : (row i count new : ℕ) (xs : List MemoryRow) (x : MemoryRow) → slice_get xs i ≡ Some x → count ≤ i
    → reverse (take count xs) ≡ up_to row (reverse (take i xs)) → new ≡ (if nat_le x.row row then i + 1 else count)
    → (new ≤ i + 1) × (reverse (take new xs) ≡ up_to row (reverse (take (i + 1) xs)))
count_next row i count new xs x e le h is =
    let (fits, shows) = by_test (nat_le x.row row) is in (fits, shows ∙ sym (ap (up_to row) (one_more xs i x e)))
  where
    by_test : (b : Bool) → new ≡ cond b (i + 1) count
        → (new ≤ i + 1) × (reverse (take new xs) ≡ cond b (x ∷ reverse (take i xs)) (up_to row (reverse (take i xs))))
    by_test true k = (omega arith, ap (λ n. reverse (take n xs)) k ∙ one_more xs i x e)
    by_test false k = (omega arith, ap (λ n. reverse (take n xs)) k ∙ h)

-- ---- what calls leave

pub pushes : (b b' : Buffer MemoryRow) (x : MemoryRow) → b' ≡ buffer (b.items ++ x ∷ []) b.capacity → shown b' ≡ pushed x (shown b)
pushes b b' x e = ap shown e ∙ ap (λ l. record { rows = l; size = b.capacity }) (reverse-append b.items (x ∷ []))

front : {X : Type 0} (xs : List X) (x : X) → take (length (xs ++ x ∷ []) - 1) (xs ++ x ∷ []) ≡ xs
front {X = X} xs x = ap (λ n. take n (xs ++ x ∷ [])) (long xs) ∙ taken xs
  where
    long : (xs : List X) → length (xs ++ x ∷ []) - 1 ≡ length xs
    long xs = omega (arith, length-append xs (x ∷ []))

    taken : (xs : List X) → take (length xs) (xs ++ x ∷ []) ≡ xs
    taken [] = refl
    taken (y ∷ xs) = ap (λ l. y ∷ l) (taken xs)

without_first : (xs : List MemoryRow) → reverse (drop 1 xs) ≡ take (length (reverse xs) - 1) (reverse xs)
without_first [] = refl
without_first (x ∷ xs) = sym (ap (λ l. take (length l - 1) l) (reverse-append (x ∷ []) xs) ∙ front (reverse xs) x)

pub retires : (b b' : Buffer MemoryRow) → b' ≡ buffer (drop 1 b.items) b.capacity → shown b' ≡ retired (shown b)
retires b b' e = ap shown e ∙ ap (λ l. record { rows = l; size = b.capacity }) (without_first b.items)

pub squashes : (b b' : Buffer MemoryRow) (row n : ℕ) → reverse (take n b.items) ≡ up_to row (reverse b.items)
    → b' ≡ buffer (take n b.items) b.capacity → shown b' ≡ squashed row (shown b)
squashes b b' row n h e = ap shown e ∙ ap (λ l. record { rows = l; size = b.capacity }) h
