-- Which blocks a set holds, by the order of accesses or of misses.
use Rattle.std.proofs.Common.{◌≡◌, ◌≢◌, ℕ, zero, suc, ◌-◌, ◌≤◌, Bool, true, false, cond, List, [], ◌∷◌, take, map, Option, Some, None, refl, sym, ◌∙◌, ap, subst, arith}
use Rattle.std.specs.Prelude.{◌==◌, if◌then◌else◌, is_some, not, filter}
use Rattle.std.proofs.lemmas.Bool.{eqb-true, eqb-false, both_ways}
use Rattle.std.proofs.lemmas.List.{take-map, take-take}
use Rattle.cache_core.specs.declared.config.CacheConfig.{CacheConfig}
use Rattle.cache_core.specs.Replay.{Line, Call, Access, Fill, Settle, block_of, set_of, find_line, removed, changed, with_dirty, ending_at, touched, lines_of, touch_of}
use Rattle.cache_core.specs.Laws.{recent, missed, IsReplacing}
use Rattle.cache_core.proofs.Lines.{find_line-is}
use Rattle.cache_core.proofs.Touches.{touched-hit, lines-hit, lines-miss, hit_lines}

-- the blocks of lines
abbrev blocks : List Line → List ℕ
blocks lines = map (λ l. l.block) lines

abbrev is_not : ℕ → ℕ → Bool
is_not b x = not (x == b)

-- a fact by cases on a test of two numbers
by_equal : (P : Bool → Type 0) (x b : ℕ) → (x ≡ b → P true) → (x ≢ b → P false) → P (x == b)
by_equal P x b same other = by_case (x == b) refl
  where
    by_case : (t : Bool) → (x == b) ≡ t → P t
    by_case true e = same (eqb-true x b e)
    by_case false e = other (eqb-false x b e)

blocks-changed : (b : ℕ) (f : Line → Line) → ((l : Line) → (f l).block ≡ l.block) → (lines : List Line) → blocks (changed b f lines) ≡ blocks lines
blocks-changed b f keeps [] = refl
blocks-changed b f keeps (l ∷ lines) =
    elim (l.block == b) as (λ t. blocks (cond t (f l ∷ lines) (l ∷ changed b f lines)) ≡ l.block ∷ blocks lines) [
      | true ↦ ap (λ x. x ∷ blocks lines) (keeps l)
      | false ↦ ap (λ xs. l.block ∷ xs) (blocks-changed b f keeps lines)
    ]

blocks-settled : (lines : List Line) → blocks (map (ending_at 0) lines) ≡ blocks lines
blocks-settled [] = refl
blocks-settled (l ∷ lines) = ap (λ xs. l.block ∷ xs) (blocks-settled lines)

-- numbers without the first that is b
first_out : ℕ → List ℕ → List ℕ
first_out b [] = []
first_out b (x ∷ xs) = cond (x == b) xs (x ∷ first_out b xs)

blocks-removed : (b : ℕ) (lines : List Line) → blocks (removed b lines) ≡ first_out b (blocks lines)
unfolding first_out
blocks-removed b [] = refl
blocks-removed b (l ∷ lines) =
    elim (l.block == b) as (λ t. blocks (cond t lines (l ∷ removed b lines)) ≡ cond t (blocks lines) (l.block ∷ first_out b (blocks lines))) [
      | true ↦ refl
      | false ↦ ap (λ xs. l.block ∷ xs) (blocks-removed b lines)
    ]

-- whether b is among numbers
among : ℕ → List ℕ → Bool
among b [] = false
among b (x ∷ xs) = cond (x == b) true (among b xs)

among-blocks : (b : ℕ) (lines : List Line) → among b (blocks lines) ≡ is_some (find_line b lines)
unfolding among
among-blocks b [] = refl
among-blocks b (l ∷ lines) =
    elim (l.block == b) as (λ t. cond t true (among b (blocks lines)) ≡ is_some (cond t (Some l) (find_line b lines))) [
      | true ↦ refl
      | false ↦ among-blocks b lines
    ]

-- no number comes twice: each is filtered from those behind it without a change
Once : List ℕ → Type 0
Once [] = Unit {0}
Once (x ∷ xs) = (filter (is_not x) xs ≡ xs) × Once xs

filter_comm : (p q : ℕ → Bool) (xs : List ℕ) → filter p (filter q xs) ≡ filter q (filter p xs)
filter_comm p q [] = refl
filter_comm p q (x ∷ xs) = by_case (p x) (q x) refl refl (filter_comm p q xs)
  where
    by_case : (s t : Bool) → p x ≡ s → q x ≡ t → filter p (filter q xs) ≡ filter q (filter p xs)
        → filter p (cond t (x ∷ filter q xs) (filter q xs)) ≡ filter q (cond s (x ∷ filter p xs) (filter p xs))
    by_case true true a b ih = rw (a, b) (ap (λ ys. x ∷ ys) ih)
    by_case true false a b ih = rw b ih
    by_case false true a b ih = rw a ih
    by_case false false a b ih = ih

filter_again : (p : ℕ → Bool) (xs : List ℕ) → filter p (filter p xs) ≡ filter p xs
filter_again p [] = refl
filter_again p (x ∷ xs) = by_case (p x) refl (filter_again p xs)
  where
    by_case : (s : Bool) → p x ≡ s → filter p (filter p xs) ≡ filter p xs → filter p (cond s (x ∷ filter p xs) (filter p xs)) ≡ cond s (x ∷ filter p xs) (filter p xs)
    by_case true a ih = rw a (ap (λ ys. x ∷ ys) ih)
    by_case false a ih = ih

filter_once : (p : ℕ → Bool) (xs : List ℕ) → Once xs → Once (filter p xs)
unfolding Once
filter_once p [] o = tt
filter_once p (x ∷ xs) (head, rest) =
    elim (p x) as (λ t. Once (cond t (x ∷ filter p xs) (filter p xs))) [
      | true ↦ (filter_comm (is_not x) p xs ∙ ap (filter p) head, filter_once p xs rest)
      | false ↦ filter_once p xs rest
    ]

recent_once : (c : CacheConfig) (k : ℕ) (h : List Call) → Once (recent c k h)
unfolding Once
recent_once c k [] = tt
recent_once c k (Access addr write ∷ h) =
    let b = block_of c addr in
    elim (set_of c b == k) as (λ t. Once (cond t (b ∷ filter (is_not b) (recent c k h)) (recent c k h))) [
      | true ↦ (filter_again (is_not b) (recent c k h), filter_once (is_not b) (recent c k h) (recent_once c k h))
      | false ↦ recent_once c k h
    ]
recent_once c k (Fill addr end ∷ h) = recent_once c k h
recent_once c k (Settle ∷ h) = recent_once c k h

-- b is among the first n + 1: the other n of them are the first n of the others
among_first : (b n : ℕ) (xs : List ℕ) → Once xs → among b (take (suc n) xs) ≡ true → first_out b (take (suc n) xs) ≡ take n (filter (is_not b) xs)
unfolding Once first_out among
among_first b n [] o e = absurd (both_ways false refl e)
among_first b n (x ∷ xs) (head, rest) e = by_case (x == b) refl n e (λ m q. among_first b m xs rest q)
  where
    by_case : (t : Bool) → (x == b) ≡ t → (n : ℕ) → cond t true (among b (take n xs)) ≡ true
        → ((m : ℕ) → among b (take (suc m) xs) ≡ true → first_out b (take (suc m) xs) ≡ take m (filter (is_not b) xs))
        → cond t (take n xs) (x ∷ first_out b (take n xs)) ≡ take n (cond (not t) (x ∷ filter (is_not b) xs) (filter (is_not b) xs))
    by_case true s n e ih = ap (take n) (sym (subst (λ y. filter (is_not y) xs ≡ xs) (eqb-true x b s) head))
    by_case false s zero e ih = absurd (both_ways false refl e)
    by_case false s (suc m) e ih = ap (λ ys. x ∷ ys) (ih m e)

-- b isn't among the first n + 1: the first n are those of the others
not_among_first : (b n : ℕ) (xs : List ℕ) → among b (take (suc n) xs) ≡ false → take n xs ≡ take n (filter (is_not b) xs)
unfolding among
not_among_first b n [] e = refl
not_among_first b n (x ∷ xs) e = by_case (x == b) n e (λ m q. not_among_first b m xs q)
  where
    by_case : (t : Bool) (n : ℕ) → cond t true (among b (take n xs)) ≡ false → ((m : ℕ) → among b (take (suc m) xs) ≡ false → take m xs ≡ take m (filter (is_not b) xs))
        → take n (x ∷ xs) ≡ take n (cond (not t) (x ∷ filter (is_not b) xs) (filter (is_not b) xs))
    by_case true n e ih = absurd (both_ways true e refl)
    by_case false zero e ih = refl
    by_case false (suc m) e ih = ap (λ ys. x ∷ ys) (ih m e)

-- one access of the set
module _ (c : CacheConfig) (n : ℕ) (ways : c.ways ≡ suc n) (lines : List Line) (b : ℕ) (write : Bool) where
  taken-miss : find_line b lines ≡ None → blocks (touched c lines b write).lines ≡ b ∷ take n (blocks lines)
  taken-miss e =
      ap blocks (lines-miss c lines b write e)
      ∙ (ap (λ ls. b ∷ ls) (sym (take-map (λ (l : Line). l.block) (c.ways - 1) lines)) ∙ ap (λ m. b ∷ take m (blocks lines)) (omega arith))

  renews : (xs : List ℕ) → Once xs → c.fifo ≡ false → blocks lines ≡ take (suc n) xs → blocks (touched c lines b write).lines ≡ b ∷ take n (filter (is_not b) xs)
  renews xs once fifo e = by_case (find_line b lines) refl
    where
      by_case : (o : Option Line) → find_line b lines ≡ o → blocks (touched c lines b write).lines ≡ b ∷ take n (filter (is_not b) xs)
      by_case (Some l) is =
          let held : among b (take (suc n) xs) ≡ true = sym (ap (among b) e) ∙ (among-blocks b lines ∙ ap is_some is) in
          ap blocks (lines-hit c lines b write l is)
          ∙ (ap (λ f. blocks (hit_lines f b write lines l)) fifo
          ∙ (ap (λ x. x ∷ blocks (removed b lines)) (find_line-is b lines l is)
          ∙ ap (λ xs. b ∷ xs) (blocks-removed b lines ∙ (ap (first_out b) e ∙ among_first b n xs once held))))
      by_case None is =
          let gone : among b (take (suc n) xs) ≡ false = sym (ap (among b) e) ∙ (among-blocks b lines ∙ ap is_some is) in
          taken-miss is ∙ ap (λ ys. b ∷ ys) (ap (take n) e ∙ (take-take n (suc n) xs (omega arith) ∙ not_among_first b n xs gone))

  enters : (xs : List ℕ) → c.fifo ≡ true → blocks lines ≡ take (suc n) xs
      → blocks (touched c lines b write).lines ≡ take (suc n) (if (touched c lines b write).touch.hit then xs else b ∷ xs)
  enters xs fifo e = by_case (find_line b lines) refl
    where
      by_case : (o : Option Line) → find_line b lines ≡ o → blocks (touched c lines b write).lines ≡ take (suc n) (cond (touched c lines b write).touch.hit xs (b ∷ xs))
      by_case (Some l) is =
          ap blocks (lines-hit c lines b write l is)
          ∙ (ap (λ f. blocks (hit_lines f b write lines l)) fifo
          ∙ (blocks-changed b (with_dirty write) (λ m. refl) lines
          ∙ (e ∙ ap (λ t. take (suc n) (cond t xs (b ∷ xs))) (sym (touched-hit c lines b write ∙ ap is_some is)))))
      by_case None is =
          taken-miss is
          ∙ (ap (λ ys. b ∷ take n ys) e
          ∙ (ap (λ ys. b ∷ ys) (take-take n (suc n) xs (omega arith))
          ∙ ap (λ t. take (suc n) (cond t xs (b ∷ xs))) (sym (touched-hit c lines b write ∙ ap is_some is))))

least : (c : CacheConfig) (n : ℕ) → c.ways ≡ suc n → c.fifo ≡ false → (k : ℕ) (h : List Call) → blocks (lines_of c k h) ≡ take (suc n) (recent c k h)
unfolding lines_of
least c n ways fifo k [] = refl
least c n ways fifo k (Access addr write ∷ h) =
    let b = block_of c addr in
    elim (set_of c b == k) as (λ t. blocks (cond t (touched c (lines_of c k h) b write).lines (lines_of c k h)) ≡ take (suc n) (cond t (b ∷ filter (is_not b) (recent c k h)) (recent c k h))) [
      | true ↦ renews c n ways (lines_of c k h) b write (recent c k h) (recent_once c k h) fifo (least c n ways fifo k h)
      | false ↦ least c n ways fifo k h
    ]
least c n ways fifo k (Fill addr end ∷ h) =
    let b = block_of c addr in
    elim (set_of c b == k) as (λ t. blocks (cond t (changed b (ending_at end) (lines_of c k h)) (lines_of c k h)) ≡ take (suc n) (recent c k h)) [
      | true ↦ blocks-changed b (ending_at end) (λ l. refl) (lines_of c k h) ∙ least c n ways fifo k h
      | false ↦ least c n ways fifo k h
    ]
least c n ways fifo k (Settle ∷ h) = blocks-settled (lines_of c k h) ∙ least c n ways fifo k h

first : (c : CacheConfig) (n : ℕ) → c.ways ≡ suc n → c.fifo ≡ true → (k : ℕ) (h : List Call) → blocks (lines_of c k h) ≡ take (suc n) (missed c k h)
unfolding lines_of touch_of
first c n ways fifo k [] = refl
first c n ways fifo k (Access addr write ∷ h) =
    by_equal
    (λ t. blocks (cond t (touched c (lines_of c k h) (block_of c addr) write).lines (lines_of c k h))
    ≡ take (suc n) (cond t (if (touched c (lines_of c (set_of c (block_of c addr)) h) (block_of c addr) write).touch.hit then missed c k h else block_of c addr ∷ missed c k h) (missed c k h)))
    (set_of c (block_of c addr)) k (λ s. own s (first c n ways fifo k h)) (λ o. first c n ways fifo k h)
  where
    own : set_of c (block_of c addr) ≡ k → blocks (lines_of c k h) ≡ take (suc n) (missed c k h)
        → blocks (touched c (lines_of c k h) (block_of c addr) write).lines ≡ take (suc n) (if (touched c (lines_of c (set_of c (block_of c addr)) h) (block_of c addr) write).touch.hit then missed c k h else block_of c addr ∷ missed c k h)
    own s e =
        subst (λ j. blocks (touched c (lines_of c k h) (block_of c addr) write).lines ≡ take (suc n) (if (touched c (lines_of c j h) (block_of c addr) write).touch.hit then missed c k h else block_of c addr ∷ missed c k h))
        (sym s) (enters c n ways (lines_of c k h) (block_of c addr) write (missed c k h) fifo e)
first c n ways fifo k (Fill addr end ∷ h) =
    let b = block_of c addr in
    elim (set_of c b == k) as (λ t. blocks (cond t (changed b (ending_at end) (lines_of c k h)) (lines_of c k h)) ≡ take (suc n) (missed c k h)) [
      | true ↦ blocks-changed b (ending_at end) (λ l. refl) (lines_of c k h) ∙ first c n ways fifo k h
      | false ↦ first c n ways fifo k h
    ]
first c n ways fifo k (Settle ∷ h) = blocks-settled (lines_of c k h) ∙ first c n ways fifo k h

pub replacing : (c : CacheConfig) (h : List Call) (k : ℕ) → 1 ≤ c.ways → IsReplacing c h k
replacing c h k some =
    let ways : c.ways ≡ suc (c.ways - 1) = omega arith in
    record {
      least_recently_used = λ fifo. least c (c.ways - 1) ways fifo k h ∙ ap (λ m. take m (recent c k h)) (sym ways);
      first_in_first_out = λ fifo. first c (c.ways - 1) ways fifo k h ∙ ap (λ m. take m (missed c k h)) (sym ways);
    }
