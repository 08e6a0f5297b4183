-- The loop that reads pages.
use Rattle.std.proofs.Common.{◌≡◌, ℕ, suc, ◌+◌, ◌-◌, ◌<◌, ◌≤◌, List, [], ◌∷◌, ◌++◌, Result, Ok, Err, refl, sym, ap, ◌∙◌, append_assoc, append-nil, arith}
use Rattle.checkpoint.specs.declared.fault.Stop.{Stop}
use Rattle.checkpoint.specs.declared.fault.Stop.TheVariants as stops
use Rattle.checkpoint.specs.Grammar.{next_page}
use Rattle.checkpoint.specs.Reading.{Refusal, ◌>>=◌, refuse, Fails, page_at, pages_at}

abbrev Page : Type 0
Page = ℕ × List ℕ

-- what was read before, and what is still read
abbrev pub with_front : List Page → Result (List Page × List ℕ) Refusal → Result (List Page × List ℕ) Refusal
with_front front read = read >>= λ x. Ok (front ++ x.0, x.1)

regroup : (front : List Page) (n : Page) (read : Result (List Page × List ℕ) Refusal) → with_front front (read >>= λ x. Ok (n ∷ x.0, x.1)) ≡ with_front (front ++ n ∷ []) read
regroup front n (Ok x) = ap (λ (ns : List Page). Ok (ns, x.1)) (simp append_assoc)
regroup front n (Err f) = refl

pub goes_on : (front : List Page) (count i least : ℕ) (bytes : List ℕ) (n : Page) (after : List ℕ) (least_after : ℕ) (total : Result (List Page × List ℕ) Refusal) → i < count → page_at least bytes ≡ Ok (n, after) → least_after ≡ next_page n
    → with_front front (pages_at (count - i) least bytes) ≡ total → with_front (front ++ n ∷ []) (pages_at (count - (i + 1)) least_after after) ≡ total
unfolding pages_at
goes_on front count i least bytes n after least_after total lt h e so_far =
    let k : count - i ≡ suc (count - (i + 1)) = omega arith in
    let this : with_front front (pages_at (count - i) least bytes) ≡ with_front (front ++ n ∷ []) (pages_at (count - (i + 1)) (next_page n) after) = rw (k, h) (regroup front n (pages_at (count - (i + 1)) (next_page n) after)) in
    ap (λ (m : ℕ). with_front (front ++ n ∷ []) (pages_at (count - (i + 1)) m after)) e ∙ sym this ∙ so_far

pub ends : (e : Stop) (front : List Page) (count i least : ℕ) (bytes : List ℕ) (total : Result (List Page × List ℕ) Refusal) → i < count → Fails e (page_at least bytes)
    → with_front front (pages_at (count - i) least bytes) ≡ total → Fails e total
unfolding pages_at
ends stops.NoMemory front count i least bytes total lt h so_far = tt
ends (stops.Refused left why) front count i least bytes total lt h so_far =
    let k : count - i ≡ suc (count - (i + 1)) = omega arith in
    let this : with_front front (pages_at (count - i) least bytes) ≡ refuse left why = rw (k, h) refl in
    sym so_far ∙ this

pub is_done : (front : List Page) (count i least : ℕ) (bytes : List ℕ) (total : Result (List Page × List ℕ) Refusal) → count ≤ i → with_front front (pages_at (count - i) least bytes) ≡ total → total ≡ Ok (front, bytes)
unfolding pages_at
is_done front count i least bytes total le so_far =
    let k : count - i ≡ 0 = omega arith in
    let this : with_front front (pages_at (count - i) least bytes) ≡ Ok (front, bytes) = rw k (ap (λ (ns : List Page). Ok (ns, bytes)) (append-nil front)) in
    sym so_far ∙ this
