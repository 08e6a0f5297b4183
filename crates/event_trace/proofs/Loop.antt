-- Reading items one after the other, as a loop does.
use Rattle.std.proofs.Common.{◌≡◌, ℕ, suc, ◌-◌, ◌+◌, ◌≤◌, ◌<◌, List, [], ◌∷◌, ◌++◌, Result, Ok, Err, refl, sym, ap, ◌∙◌, append_assoc, arith}
use Rattle.std.proofs.lemmas.List.{append-nil}
use Rattle.event_trace.specs.declared.fault.Stop.{Stop}
use Rattle.event_trace.specs.declared.fault.Stop.TheVariants as stops
use Rattle.event_trace.specs.Reading.{Refusal, ◌>>=◌, refuse, Fails, items_at}

-- what was read before, and what is still read
abbrev pub with_front : {A : Type 0} → List A → Result (List A × List ℕ) Refusal → Result (List A × List ℕ) Refusal
with_front front read = read >>= λ x. Ok (front ++ x.0, x.1)

regroup : {A : Type 0} (front : List A) (n : A) (read : Result (List A × List ℕ) Refusal) → with_front front (read >>= λ x. Ok (n ∷ x.0, x.1)) ≡ with_front (front ++ n ∷ []) read
regroup {A = A} front n (Ok x) = ap (λ (ns : List A). Ok (ns, x.1)) (simp append_assoc)
regroup front n (Err f) = refl

pub goes_on : {A : Type 0} (one : ℕ → List ℕ → Result (A × List ℕ) Refusal) (next : A → ℕ) (front : List A) (count i least : ℕ) (bytes : List ℕ) (n : A) (after : List ℕ) (least_after : ℕ) (total : Result (List A × List ℕ) Refusal) → i < count → one least bytes ≡ Ok (n, after) → least_after ≡ next n
    → with_front front (items_at one next (count - i) least bytes) ≡ total → with_front (front ++ n ∷ []) (items_at one next (count - (i + 1)) least_after after) ≡ total
unfolding items_at
goes_on one next front count i least bytes n after least_after total lt h e so_far =
    let k : count - i ≡ suc (count - (i + 1)) = omega arith in
    let this : with_front front (items_at one next (count - i) least bytes) ≡ with_front (front ++ n ∷ []) (items_at one next (count - (i + 1)) (next n) after) = rw (k, h) (regroup front n (items_at one next (count - (i + 1)) (next n) after)) in
    ap (λ (m : ℕ). with_front (front ++ n ∷ []) (items_at one next (count - (i + 1)) m after)) e ∙ sym this ∙ so_far

pub ends : {A : Type 0} (one : ℕ → List ℕ → Result (A × List ℕ) Refusal) (next : A → ℕ) (e : Stop) (front : List A) (count i least : ℕ) (bytes : List ℕ) (total : Result (List A × List ℕ) Refusal) → i < count → Fails e (one least bytes)
    → with_front front (items_at one next (count - i) least bytes) ≡ total → Fails e total
unfolding items_at
ends one next stops.NoMemory front count i least bytes total lt h so_far = tt
ends one next (stops.Refused left why) front count i least bytes total lt h so_far =
    let k : count - i ≡ suc (count - (i + 1)) = omega arith in
    let this : with_front front (items_at one next (count - i) least bytes) ≡ refuse left why = rw (k, h) refl in
    sym so_far ∙ this

pub is_done : {A : Type 0} (one : ℕ → List ℕ → Result (A × List ℕ) Refusal) (next : A → ℕ) (front : List A) (count i least : ℕ) (bytes : List ℕ) (total : Result (List A × List ℕ) Refusal) → count ≤ i → with_front front (items_at one next (count - i) least bytes) ≡ total → total ≡ Ok (front, bytes)
unfolding items_at
is_done {A = A} one next front count i least bytes total le so_far =
    let k : count - i ≡ 0 = omega arith in
    let this : with_front front (items_at one next (count - i) least bytes) ≡ Ok (front, bytes) = rw k (ap (λ (ns : List A). Ok (ns, bytes)) (append-nil front)) in
    sym so_far ∙ this
