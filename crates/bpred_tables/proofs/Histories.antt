-- Counters keep their range, and histories are the number of the last outcomes.
use Rattle.std.proofs.Common.{◌≡◌, ◌≢◌, ℕ, zero, suc, ◌+◌, ◌*◌, ◌/◌, ◌%◌, ◌^◌, ◌<◌, ◌≤◌, Bool, true, false, List, [], ◌∷◌, take, length, get_or, replicate, inl, inr, refl, sym, ◌∙◌, ap, arith, eqb}
use Rattle.std.proofs.Math.Nat.{mul-add-mod_self_left, mod-add-div, pow-suc, mod-one, zero-mod, mul_comm}
use Rattle.std.proofs.lemmas.Bool.{le-leb, lt-leb, eq-eqb, ne_eqb, cases_lt}
use Rattle.std.proofs.lemmas.Nat.{mod_below, pow_pos, mod-mul-add}
use Rattle.std.proofs.lemmas.List.{get_or-replicate, get_or_past, length-replicate}
use Rattle.bpred_tables.specs.Updates.{Update, Levels, counter, says_taken, digit, number_of, outcomes_at, fixed_place, history, place_in}

pub counter_le : (outcomes : List Bool) → counter outcomes ≤ 3
counter_le [] = omega arith
counter_le (true ∷ older) = omega arith
counter_le (false ∷ older) = omega (arith, counter_le older)

pub alike : (taken : Bool) (older : List Bool) → says_taken (counter (taken ∷ (taken ∷ older))) ≡ taken
alike true older = le-leb 2 (counter (true ∷ (true ∷ older))) (omega arith)
alike false older = lt-leb 2 (counter (false ∷ (false ∷ older))) (omega (arith, counter_le older))

digit_le : (b : Bool) → digit b ≤ 1
digit_le true = omega arith
digit_le false = omega arith

-- twice a number and a digit, below twice a bound
twice_mod : (n m d : ℕ) → 0 < m → d ≤ 1 → (2 * n + d) % (2 * m) ≡ 2 * (n % m) + d
twice_mod n m d pos le =
    let split : n % m + m * (n / m) ≡ n = mod-add-div n m in
    let below : n % m < m = mod_below n m pos in
    let here : 2 * n + d ≡ (n / m) * (2 * m) + (2 * (n % m) + d) = omega (arith, split) in
    rw here (mod-mul-add (n / m) (2 * m) (2 * (n % m) + d) (omega arith))

pub number_of-take : (width : ℕ) (outcomes : List Bool) → number_of (take width outcomes) ≡ number_of outcomes % 2 ^ width
number_of-take zero outcomes = sym (mod-one (number_of outcomes))
number_of-take (suc width) [] = sym (zero-mod (2 ^ suc width))
number_of-take (suc width) (newest ∷ older) =
    rw (number_of-take width older, pow-suc 2 width, mul_comm (2 ^ width) 2)
    (sym (twice_mod (number_of older) (2 ^ width) (digit newest) (pow_pos width) (digit_le newest)))

-- one more digit below a power of two
shift_mod : (n m d : ℕ) → (2 * (n % m) + d) % m ≡ (2 * n + d) % m
shift_mod n m d =
    let split : n % m + m * (n / m) ≡ n = mod-add-div n m in
    let here : 2 * n + d ≡ m * (2 * (n / m)) + (2 * (n % m) + d) = omega (arith, split) in
    sym (rw here (mul-add-mod_self_left m (2 * (n / m)) (2 * (n % m) + d)))

pub number_shift : (width : ℕ) (newest : Bool) (older : List Bool)
    → number_of (take width (newest ∷ older)) ≡ (2 * number_of (take width older) + digit newest) % 2 ^ width
number_shift width newest older =
    rw (number_of-take width (newest ∷ older), number_of-take width older)
    (sym (shift_mod (number_of older) (2 ^ width) (digit newest)))

pub number_below : (width : ℕ) (outcomes : List Bool) → number_of (take width outcomes) < 2 ^ width
number_below width outcomes =
    rw (number_of-take width outcomes) (mod_below (number_of outcomes) (2 ^ width) (pow_pos width))

pub history_here : (l : Levels) (u : Update) (older : List Update)
    → history l (place_in l.first u.pc) (u ∷ older) ≡ (2 * history l (place_in l.first u.pc) older + digit u.taken) % 2 ^ l.width
history_here l u older =
    let k = place_in l.first u.pc in
    let hit : eqb k k ≡ true = eq-eqb k k refl in
    rw hit (number_shift l.width u.taken (outcomes_at (fixed_place l.first) k older))

pub history_elsewhere : (l : Levels) (u : Update) (older : List Update) (k : ℕ)
    → k ≢ place_in l.first u.pc → history l k (u ∷ older) ≡ history l k older
history_elsewhere l u older k other =
    let miss : eqb (place_in l.first u.pc) k ≡ false = ne_eqb _ _ (λ e. other (sym e)) in rw miss refl

zero_at : (zeros : List ℕ) (n k : ℕ) → zeros ≡ replicate n 0 → get_or zeros k 0 ≡ 0
zero_at zeros n k e = elim (cases_lt k n) [
  | inl lt ↦ ap (λ l. get_or l k 0) e ∙ get_or-replicate n k 0 0 lt
  | inr le ↦ get_or_past zeros k 0 (omega (arith, ap length e, length-replicate {A = ℕ} n 0))
]

-- histories that are all 0 are below two to their width
pub zeros_below : (histories : List ℕ) (n width : ℕ) → histories ≡ replicate n 0 → (k : ℕ) → get_or histories k 0 < 2 ^ width
zeros_below histories n width e k = omega (arith, zero_at histories n k e, pow_pos width)
