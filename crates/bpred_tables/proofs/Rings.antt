-- The return stack's ring: where pushes land and pops look.
use Rattle.std.proofs.Common.{◌≡◌, ℕ, zero, suc, ◌+◌, ◌-◌, ◌%◌, ◌<◌, ◌≤◌, true, false, List, [], ◌∷◌, length, get_or, refl, sym, ◌∙◌, ap, arith, eqb, inl, inr}
use Rattle.std.proofs.Math.Nat.{mod-add-mod, add-mod_right, mod-eq_of_lt}
use Rattle.std.proofs.lemmas.Bool.{eq-eqb, ne_eqb, cases_lt}
use Rattle.std.proofs.lemmas.Nat.{mod_below}
use Rattle.bpred_tables.specs.Stack.{Call, top_after, cell_after, popped, pushes, pops}

-- one step back round the ring
back_once : (n x : ℕ) → 0 < n → 0 < x → (x % n + n - 1) % n ≡ (x - 1) % n
back_once n x pos some =
    let regroup : x % n + n - 1 ≡ x % n + (n - 1) = omega arith in
    let whole : x + (n - 1) ≡ (x - 1) + n = omega arith in
    ap (λ m. m % n) regroup ∙ mod-add-mod x n (n - 1) ∙ ap (λ m. m % n) whole ∙ add-mod_right (x - 1) n

-- no pop changes a cell
cell_pops : (n k i : ℕ) (calls : List Call) → cell_after n k (pops i calls) ≡ cell_after n k calls
cell_pops n k zero calls = refl
cell_pops n k (suc i) calls = cell_pops n k i calls

small_mod : (n t : ℕ) → t < n → t % n ≡ t
small_mod n t h = mod-eq_of_lt h

top_pops : (n i : ℕ) (calls : List Call) → top_after n calls < n → i ≤ n → top_after n (pops i calls) ≡ (top_after n calls + n - i) % n
top_pops n zero calls below le =
    let whole : top_after n calls + n - 0 ≡ top_after n calls + n = omega arith in
    sym (ap (λ m. m % n) whole ∙ add-mod_right (top_after n calls) n ∙ small_mod n (top_after n calls) below)
top_pops n (suc i) calls below le =
    let before : top_after n (pops i calls) ≡ (top_after n calls + n - i) % n = top_pops n i calls below (omega arith) in
    let next : top_after n calls + n - i - 1 ≡ top_after n calls + n - suc i = omega arith in
    ap (λ m. (m + n - 1) % n) before ∙ back_once n (top_after n calls + n - i) (omega arith) (omega arith) ∙ ap (λ m. m % n) next

-- i places back from t, for i above 0 and below n, isn't t
back_differs : (n t i : ℕ) → t < n → 0 < i → i < n → (t + n - i) % n ≡ t → ⊥
back_differs n t i below some less e =
    elim (cases_lt t i) [
      | inl lt ↦ let here : (t + n - i) % n ≡ t + n - i = small_mod n (t + n - i) (omega arith) in omega arith
      | inr le ↦
          let split : t + n - i ≡ (t - i) + n = omega arith in
          let here : (t + n - i) % n ≡ t - i = ap (λ m. m % n) split ∙ add-mod_right (t - i) n ∙ small_mod n (t - i) (omega arith) in
          omega arith
    ]

-- i + 1 places back from the place after t is i places back from t
back_shift : (n t i : ℕ) → suc i ≤ n → ((t + 1) % n + n - suc i) % n ≡ (t + n - i) % n
back_shift n t i le =
    let regroup : (t + 1) % n + n - suc i ≡ (t + 1) % n + (n - suc i) = omega arith in
    let whole : t + 1 + (n - suc i) ≡ t + n - i = omega arith in
    ap (λ m. m % n) regroup ∙ mod-add-mod (t + 1) n (n - suc i) ∙ ap (λ m. m % n) whole

-- i places back from the top lies the value that was pushed i pushes before the last
pushed_at : (n i : ℕ) (values : List ℕ) (calls : List Call) → i < n → i < length values
    → cell_after n ((top_after n (pushes values calls) + n - i) % n) (pushes values calls) ≡ get_or values i 0
pushed_at n i [] calls less within = absurd (omega arith)
pushed_at n zero (v ∷ older) calls less within =
    let top = top_after n (pushes (v ∷ older) calls) in
    let below : top < n = mod_below (top_after n (pushes older calls) + 1) n less in
    let whole : top + n - 0 ≡ top + n = omega arith in
    let at : (top + n - 0) % n ≡ top = ap (λ m. m % n) whole ∙ add-mod_right top n ∙ small_mod n top below in
    let hit : eqb top top ≡ true = eq-eqb top top refl in
    ap (λ k. cell_after n k (pushes (v ∷ older) calls)) at ∙ rw hit refl
pushed_at n (suc i) (v ∷ older) calls less within =
    let t = top_after n (pushes older calls) in
    let top = top_after n (pushes (v ∷ older) calls) in
    let k = (top + n - suc i) % n in
    let below : top < n = mod_below (t + 1) n (omega arith) in
    let miss : eqb top k ≡ false = ne_eqb _ _ (λ e. back_differs n top (suc i) below (omega arith) less (sym e)) in
    let left : cell_after n k (pushes (v ∷ older) calls) ≡ cell_after n k (pushes older calls) = rw miss refl in
    left ∙ ap (λ m. cell_after n m (pushes older calls)) (back_shift n t i (omega arith))
    ∙ pushed_at n i older calls (omega arith) (omega arith)

top_pushed : (n : ℕ) (values : List ℕ) (calls : List Call) → 0 < n → 0 < length values → top_after n (pushes values calls) < n
top_pushed n [] calls pos some = absurd (omega arith)
top_pushed n (v ∷ older) calls pos some = mod_below (top_after n (pushes older calls) + 1) n pos

pub popped_pushes : (n i : ℕ) (values : List ℕ) (calls : List Call) → i < n → i < length values
    → popped n (pops i (pushes values calls)) ≡ get_or values i 0
popped_pushes n i values calls less within =
    let below : top_after n (pushes values calls) < n = top_pushed n values calls (omega arith) (omega arith) in
    ap (λ k. cell_after n k (pops i (pushes values calls))) (top_pops n i (pushes values calls) below (omega arith))
    ∙ cell_pops n _ i (pushes values calls) ∙ pushed_at n i values calls less within

pub popped_round : (n : ℕ) (values : List ℕ) (calls : List Call) → 0 < n → n ≤ length values
    → popped n (pops n (pushes values calls)) ≡ get_or values 0 0
popped_round n values calls pos le =
    let top = top_after n (pushes values calls) in
    let below : top < n = top_pushed n values calls pos (omega arith) in
    let whole : top + n - n ≡ top + 0 = omega arith in
    let again : (top + n - n) % n ≡ (top + n - 0) % n =
    ap (λ m. m % n) (let e : top + n - n ≡ top = omega arith in e)
    ∙ sym (add-mod_right top n) ∙ ap (λ m. m % n) (let e : top + n ≡ top + n - 0 = omega arith in e) in
    ap (λ k. cell_after n k (pops n (pushes values calls))) (top_pops n n (pushes values calls) below (omega arith) ∙ again)
    ∙ cell_pops n _ n (pushes values calls) ∙ pushed_at n 0 values calls pos (omega arith)
