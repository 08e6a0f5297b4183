-- Lines that come from numbers, the greatest number first.
use Rattle.std.proofs.Common.{◌≡◌, ◌≢◌, ℕ, zero, suc, ◌<◌, ◌≤◌, Bool, true, false, cond, List, [], ◌∷◌, ◌++◌, map, Some, None, refl, sym, ◌∙◌, ap, arith, append_assoc}
use Rattle.std.specs.Prelude.{◌==◌}
use Rattle.std.proofs.lemmas.Bool.{eqb-true, eqb-false, eq-eqb, ne_eqb}
use Rattle.std.proofs.lemmas.List.{map-append}
use Rattle.cache_core.specs.Replay.{Line, find_line, removed, changed}
use Rattle.cache_core.specs.Ways.{from_latest}
use Rattle.cache_core.proofs.Lines.{find_line-head, find_line-tail, of_block}

-- lines in front of which stand others that aren't of the block
pub record Skips (b : ℕ) (front lines : List Line) : Type 0 where
  pub find : find_line b (front ++ lines) ≡ find_line b lines
  pub changed : (f : Line → Line) → changed b f (front ++ lines) ≡ front ++ changed b f lines
  pub removed : removed b (front ++ lines) ≡ front ++ removed b lines

pub skips : (b : ℕ) (front lines : List Line) → find_line b front ≡ None → Skips b front lines
skips b [] lines e = record { find = refl; changed = λ f. refl; removed = refl }
skips b (l ∷ front) lines e =
    of_block (Skips b (l ∷ front) lines) b l
    (λ s. let e' = sym (find_line-head b l front s) ∙ e in absurd cc)
    (λ o. behind o (skips b front lines (sym (find_line-tail b l front o) ∙ e)))
  where
    behind : l.block ≢ b → Skips b front lines → Skips b (l ∷ front) lines
    behind o r =
        let head : (l.block == b) ≡ false = ne_eqb l.block b o in
        record { find = rw head r.find; changed = λ f. rw head (ap (λ ls. l ∷ ls) (r.changed f)); removed = rw head (ap (λ ls. l ∷ ls) r.removed) }

changed-head : (b : ℕ) (f : Line → Line) (l : Line) (lines : List Line) → l.block ≡ b → changed b f (l ∷ lines) ≡ f l ∷ lines
changed-head b f l lines e = rw (eq-eqb l.block b e) refl

removed-head : (b : ℕ) (l : Line) (lines : List Line) → l.block ≡ b → removed b (l ∷ lines) ≡ lines
removed-head b l lines e = rw (eq-eqb l.block b e) refl

-- f with the lines of s replaced
abbrev pub replaced : (ℕ → List Line) → ℕ → List Line → ℕ → List Line
replaced f s lines m = cond (m == s) lines (f m)

pub replaced-same : (f : ℕ → List Line) (s : ℕ) (lines : List Line) (m : ℕ) → m ≡ s → replaced f s lines m ≡ lines
replaced-same f s lines m e = rw (eq-eqb m s e) refl

pub replaced-other : (f : ℕ → List Line) (s : ℕ) (lines : List Line) (m : ℕ) → m ≢ s → replaced f s lines m ≡ f m
replaced-other f s lines m ne = rw (ne_eqb m s ne) refl

pub latest-same : (n : ℕ) (f g : ℕ → List Line) → ((m : ℕ) → 0 < m → m ≤ n → f m ≡ g m) → from_latest f n ≡ from_latest g n
unfolding from_latest
latest-same zero f g h = refl
latest-same (suc n) f g h =
    ap (λ ls. ls ++ from_latest f n) (h (suc n) (omega arith) (omega arith)) ∙ ap (λ ls. g (suc n) ++ ls) (latest-same n f g (λ m p q. h m p (omega arith)))

pub latest-empty : (n : ℕ) (f : ℕ → List Line) → ((m : ℕ) → 0 < m → m ≤ n → f m ≡ []) → from_latest f n ≡ []
unfolding from_latest
latest-empty zero f h = refl
latest-empty (suc n) f h =
    ap (λ ls. ls ++ from_latest f n) (h (suc n) (omega arith) (omega arith)) ∙ latest-empty n f (λ m p q. h m p (omega arith))

pub latest-map : (h : Line → Line) (n : ℕ) (f : ℕ → List Line) → map h (from_latest f n) ≡ from_latest (λ m. map h (f m)) n
unfolding from_latest
latest-map h zero f = refl
latest-map h (suc n) f = map-append h (f (suc n)) (from_latest f n) ∙ ap (λ ls. map h (f (suc n)) ++ ls) (latest-map h n f)

pub latest-first : (n : ℕ) (f : ℕ → List Line) → from_latest f (suc n) ≡ f (suc n) ++ from_latest f n
unfolding from_latest
latest-first n f = refl

pub latest-none : (b n : ℕ) (f : ℕ → List Line) → ((m : ℕ) → 0 < m → find_line b (f m) ≡ None) → find_line b (from_latest f n) ≡ None
unfolding from_latest
latest-none b zero f h = refl
latest-none b (suc n) f h = (skips b (f (suc n)) (from_latest f n) (h (suc n) (omega arith))).find ∙ latest-none b n f h

-- what stands at number s alone: the one line of block b
pub record FoundAt (b s n : ℕ) (f : ℕ → List Line) (l : Line) : Type 0 where
  pub find : find_line b (from_latest f n) ≡ Some l
  pub changed : (h : Line → Line) → changed b h (from_latest f n) ≡ from_latest (replaced f s (h l ∷ [])) n
  pub removed : removed b (from_latest f n) ≡ from_latest (replaced f s []) n

module _ (b s : ℕ) (f : ℕ → List Line) (l : Line) (line : f s ≡ l ∷ []) (own : l.block ≡ b) (others : (m : ℕ) → 0 < m → m ≢ s → find_line b (f m) ≡ None) where
  -- below s, and with s left out, nothing is replaced
  kept_below : (n : ℕ) (lines : List Line) → n < s → from_latest (replaced f s lines) n ≡ from_latest f n
  kept_below n lines lt = latest-same n (replaced f s lines) f (λ m p q. replaced-other f s lines m (λ e. absurd (omega arith)))

  found_first : (n : ℕ) → suc n ≡ s → FoundAt b s (suc n) f l
  unfolding from_latest
  found_first n e =
      let is : f (suc n) ≡ l ∷ [] = ap f e ∙ line in
      let new : (lines : List Line) → from_latest (replaced f s lines) (suc n) ≡ lines ++ from_latest f n =
      λ lines. ap (λ ls. ls ++ from_latest (replaced f s lines) n) (replaced-same f s lines (suc n) e) ∙ ap (λ ls. lines ++ ls) (kept_below n lines (omega arith))
      in
      record {
        find = ap (λ ls. find_line b (ls ++ from_latest f n)) is ∙ find_line-head b l (from_latest f n) own;
        changed = λ h. ap (λ ls. changed b h (ls ++ from_latest f n)) is ∙ (changed-head b h l (from_latest f n) own ∙ sym (new (h l ∷ [])));
        removed = ap (λ ls. removed b (ls ++ from_latest f n)) is ∙ (removed-head b l (from_latest f n) own ∙ sym (new []));
      }

  pub found_at : (n : ℕ) → 0 < s → s ≤ n → FoundAt b s n f l
  unfolding from_latest
  found_at zero p q = absurd (omega arith)
  found_at (suc n) p q = by_case (suc n == s) refl (λ le. found_at n p le)
    where
      behind : suc n ≢ s → FoundAt b s n f l → FoundAt b s (suc n) f l
      behind ne r =
          let skip = skips b (f (suc n)) (from_latest f n) (others (suc n) (omega arith) ne) in
          let new : (lines : List Line) → from_latest (replaced f s lines) (suc n) ≡ f (suc n) ++ from_latest (replaced f s lines) n =
          λ lines. ap (λ ls. ls ++ from_latest (replaced f s lines) n) (replaced-other f s lines (suc n) ne)
          in
          record {
            find = skip.find ∙ r.find;
            changed = λ h. skip.changed h ∙ (ap (λ ls. f (suc n) ++ ls) (r.changed h) ∙ sym (new (h l ∷ [])));
            removed = skip.removed ∙ (ap (λ ls. f (suc n) ++ ls) r.removed ∙ sym (new []));
          }

      by_case : (t : Bool) → (suc n == s) ≡ t → (s ≤ n → FoundAt b s n f l) → FoundAt b s (suc n) f l
      by_case true e ih = found_first n (eqb-true (suc n) s e)
      by_case false e ih = let ne : suc n ≢ s = eqb-false (suc n) s e in behind ne (ih (omega arith))

-- the line of the least number stands last
pub latest-last : (s n : ℕ) (f : ℕ → List Line) (l : Line) → f s ≡ l ∷ [] → ((m : ℕ) → 0 < m → m < s → f m ≡ []) → 0 < s → s ≤ n
    → from_latest f n ≡ from_latest (replaced f s []) n ++ l ∷ []
unfolding from_latest
latest-last s zero f l line below p q = absurd (omega arith)
latest-last s (suc n) f l line below p q = by_case (suc n == s) refl (λ le. latest-last s n f l line below p le)
  where
    here : suc n ≡ s → f (suc n) ++ from_latest f n ≡ (replaced f s [] (suc n) ++ from_latest (replaced f s []) n) ++ l ∷ []
    here e =
        let is : f (suc n) ≡ l ∷ [] = ap f e ∙ line in
        let rest : from_latest f n ≡ [] = latest-empty n f (λ m a b. below m a (omega arith)) in
        let new : from_latest (replaced f s []) n ≡ [] =
        latest-empty n (replaced f s []) (λ m a b. replaced-other f s [] m (λ i. absurd (omega arith)) ∙ below m a (omega arith))
        in
        ap (λ ls. ls ++ from_latest f n) is
        ∙ (ap (λ ls. (l ∷ []) ++ ls) rest
        ∙ sym (ap (λ ls. (ls ++ from_latest (replaced f s []) n) ++ l ∷ []) (replaced-same f s [] (suc n) e) ∙ ap (λ ls. ls ++ l ∷ []) new))

    behind : suc n ≢ s → from_latest f n ≡ from_latest (replaced f s []) n ++ l ∷ []
        → f (suc n) ++ from_latest f n ≡ (replaced f s [] (suc n) ++ from_latest (replaced f s []) n) ++ l ∷ []
    behind ne ih =
        ap (λ ls. f (suc n) ++ ls) ih
        ∙ (sym (append_assoc (f (suc n)) (from_latest (replaced f s []) n) (l ∷ []))
        ∙ ap (λ ls. (ls ++ from_latest (replaced f s []) n) ++ l ∷ []) (sym (replaced-other f s [] (suc n) ne)))

    by_case : (t : Bool) → (suc n == s) ≡ t → (s ≤ n → from_latest f n ≡ from_latest (replaced f s []) n ++ l ∷ [])
        → f (suc n) ++ from_latest f n ≡ (replaced f s [] (suc n) ++ from_latest (replaced f s []) n) ++ l ∷ []
    by_case true e ih = here (eqb-true (suc n) s e)
    by_case false e ih = let ne : suc n ≢ s = eqb-false (suc n) s e in behind ne (ih (omega arith))
