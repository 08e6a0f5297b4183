-- What a change of lines does to the line of each block.
use Rattle.std.proofs.Common.{◌≡◌, ◌≢◌, ℕ, zero, suc, ◌≤◌, Bool, true, false, cond, List, [], ◌∷◌, length, take, map, Some, None, ◌⊎◌, inl, inr, refl, sym, ◌∙◌, ap, arith}
use Rattle.std.specs.Prelude.{◌==◌, slice_get}
use Rattle.std.specs.Option.{option_map}
use Rattle.std.proofs.lemmas.Bool.{eqb-true, eqb-false, eq-eqb, ne_eqb}
use Rattle.cache_core.specs.Replay.{Line, find_line, removed, changed}

-- a list's first line is of the block, or it is not
pub find_line-head : (b : ℕ) (l : Line) (lines : List Line) → l.block ≡ b → find_line b (l ∷ lines) ≡ Some l
find_line-head b l lines e = rw (eq-eqb l.block b e) refl

pub find_line-tail : (b : ℕ) (l : Line) (lines : List Line) → l.block ≢ b → find_line b (l ∷ lines) ≡ find_line b lines
find_line-tail b l lines e = rw (ne_eqb l.block b e) refl

-- a fact by cases on whether a line is of the block
pub of_block : (P : Type 0) (b : ℕ) (l : Line) → (l.block ≡ b → P) → (l.block ≢ b → P) → P
of_block P b l same other = by_case (l.block == b) refl
  where
    by_case : (t : Bool) → (l.block == b) ≡ t → P
    by_case true e = same (eqb-true l.block b e)
    by_case false e = other (eqb-false l.block b e)

pub find_line-is : (b : ℕ) (lines : List Line) (l : Line) → find_line b lines ≡ Some l → l.block ≡ b
find_line-is b [] l e = absurd cc
find_line-is b (m ∷ lines) l e = of_block (l.block ≡ b) b m (λ s. let e' = sym (find_line-head b m lines s) ∙ e in cc) (λ o. find_line-is b lines l (sym (find_line-tail b m lines o) ∙ e))

-- the line of a block, of lines of which the block's own is changed
module _ (b : ℕ) (f : Line → Line) (keeps : (l : Line) → (f l).block ≡ l.block) where
  pub find_line-changed : (lines : List Line) → find_line b (changed b f lines) ≡ option_map f (find_line b lines)
  find_line-changed [] = refl
  find_line-changed (l ∷ lines) =
      of_block (find_line b (changed b f (l ∷ lines)) ≡ option_map f (find_line b (l ∷ lines))) b l
      (λ s. rw (eq-eqb l.block b s, keeps l, eq-eqb l.block b s) refl)
      (λ o. rw (ne_eqb l.block b o, ne_eqb l.block b o) (find_line-changed lines))

  pub find_line-changed_other : (x : ℕ) → x ≢ b → (lines : List Line) → find_line x (changed b f lines) ≡ find_line x lines
  find_line-changed_other x ne [] = refl
  find_line-changed_other x ne (l ∷ lines) =
      of_block (find_line x (changed b f (l ∷ lines)) ≡ find_line x (l ∷ lines)) b l
      (λ s. let o : l.block ≢ x = λ e. ne (sym e ∙ s) in rw (eq-eqb l.block b s, keeps l, ne_eqb l.block x o) refl)
      (λ o. rw (ne_eqb l.block b o) (ap (λ r. cond (l.block == x) (Some l) r) (find_line-changed_other x ne lines)))

  pub find_line-map : (x : ℕ) (lines : List Line) → find_line x (map f lines) ≡ option_map f (find_line x lines)
  find_line-map x [] = refl
  find_line-map x (l ∷ lines) =
      of_block (find_line x (map f (l ∷ lines)) ≡ option_map f (find_line x (l ∷ lines))) x l
      (λ s. find_line-head x (f l) (map f lines) (keeps l ∙ s) ∙ ap (option_map f) (sym (find_line-head x l lines s)))
      (λ o. find_line-tail x (f l) (map f lines) (λ e. o (sym (keeps l) ∙ e)) ∙ (find_line-map x lines ∙ ap (option_map f) (sym (find_line-tail x l lines o))))

pub find_line-removed_other : (b x : ℕ) → x ≢ b → (lines : List Line) → find_line x (removed b lines) ≡ find_line x lines
find_line-removed_other b x ne [] = refl
find_line-removed_other b x ne (l ∷ lines) =
    of_block (find_line x (removed b (l ∷ lines)) ≡ find_line x (l ∷ lines)) b l
    (λ s. let o : l.block ≢ x = λ e. ne (sym e ∙ s) in rw (eq-eqb l.block b s, ne_eqb l.block x o) refl)
    (λ o. rw (ne_eqb l.block b o) (ap (λ r. cond (l.block == x) (Some l) r) (find_line-removed_other b x ne lines)))

-- a block that isn't among the lines isn't among fewer of them
pub find_line-take_none : (n x : ℕ) (lines : List Line) → find_line x lines ≡ None → find_line x (take n lines) ≡ None
find_line-take_none zero x lines e = refl
find_line-take_none (suc n) x [] e = refl
find_line-take_none (suc n) x (l ∷ lines) e =
    of_block (find_line x (take (suc n) (l ∷ lines)) ≡ None) x l
    (λ s. let e' = sym (find_line-head x l lines s) ∙ e in absurd cc)
    (λ o. find_line-tail x l (take n lines) o ∙ find_line-take_none n x lines (sym (find_line-tail x l lines o) ∙ e))

-- of at most n + 1 lines the first n are those of the same blocks, but for the block of the last
abbrev pub Leaves : ℕ → ℕ → List Line → Type 0
Leaves n x lines = (l : Line) × (slice_get lines n ≡ Some l) × (find_line x lines ≡ Some l) × (find_line x (take n lines) ≡ None)

pub find_line-take : (n x : ℕ) (lines : List Line) → length lines ≤ suc n → (find_line x (take n lines) ≡ find_line x lines) ⊎ Leaves n x lines
find_line-take zero x [] le = inl refl
find_line-take (suc n) x [] le = inl refl
find_line-take zero x (l ∷ (m ∷ lines)) le = absurd (omega arith)
find_line-take zero x (l ∷ []) le =
    of_block ((find_line x (take 0 (l ∷ [])) ≡ find_line x (l ∷ [])) ⊎ Leaves 0 x (l ∷ [])) x l
    (λ s. inr (l, refl, find_line-head x l [] s, refl))
    (λ o. inl (sym (find_line-tail x l [] o)))
find_line-take (suc n) x (l ∷ lines) le =
    of_block ((find_line x (take (suc n) (l ∷ lines)) ≡ find_line x (l ∷ lines)) ⊎ Leaves (suc n) x (l ∷ lines)) x l
    (λ s. inl (find_line-head x l (take n lines) s ∙ sym (find_line-head x l lines s)))
    (λ o. rest o (find_line-take n x lines (omega arith)))
  where
    rest : l.block ≢ x → (find_line x (take n lines) ≡ find_line x lines) ⊎ Leaves n x lines
        → (find_line x (take (suc n) (l ∷ lines)) ≡ find_line x (l ∷ lines)) ⊎ Leaves (suc n) x (l ∷ lines)
    rest o (inl e) = inl (find_line-tail x l (take n lines) o ∙ (e ∙ sym (find_line-tail x l lines o)))
    rest o (inr (m, at, was, gone)) =
        inr (m, at, find_line-tail x l lines o ∙ was, find_line-tail x l (take n lines) o ∙ gone)
