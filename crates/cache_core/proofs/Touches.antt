-- What an access does to the lines of a set.
use Rattle.std.proofs.Common.{◌≡◌, ◌≢◌, ℕ, zero, suc, ◌-◌, ◌≤◌, Bool, true, false, cond, List, [], ◌∷◌, length, take, map, Option, Some, None, ◌⊎◌, inl, inr, refl, sym, ◌∙◌, ap, subst, arith, length-take}
use Rattle.std.specs.Prelude.{◌==◌, if◌then◌else◌, slice_get, is_some, IsSome, All, ◌↔◌}
use Rattle.std.specs.Option.{option_map}
use Rattle.std.proofs.lemmas.Bool.{eq-eqb, ne_eqb}
use Rattle.std.proofs.lemmas.List.Elements.{All-cons, All-head, All-tail, All-take}
use Rattle.cache_core.specs.declared.config.CacheConfig.{CacheConfig}
use Rattle.cache_core.specs.Replay.{Line, find_line, removed, changed, with_dirty, entering, victim_of, touched, touched_at}
use Rattle.cache_core.specs.Laws.{IsOnce}
use Rattle.cache_core.proofs.Lines.{find_line-head, find_line-tail, of_block, find_line-is, find_line-changed, find_line-changed_other, find_line-map, find_line-removed_other, find_line-take, find_line-take_none, Leaves}

-- the lines that a hit leaves
abbrev pub hit_lines : Bool → ℕ → Bool → List Line → Line → List Line
hit_lines fifo b write lines l = if fifo then changed b (with_dirty write) lines else with_dirty write l ∷ removed b lines

pub touched-hit : (c : CacheConfig) (lines : List Line) (b : ℕ) (write : Bool) → (touched c lines b write).touch.hit ≡ is_some (find_line b lines)
unfolding touched
touched-hit c lines b write = by_case (find_line b lines)
  where
    by_case : (o : Option Line) → (touched_at c lines b write o).touch.hit ≡ is_some o
    by_case (Some l) = refl
    by_case None = refl

pub lines-hit : (c : CacheConfig) (lines : List Line) (b : ℕ) (write : Bool) (l : Line) → find_line b lines ≡ Some l → (touched c lines b write).lines ≡ hit_lines c.fifo b write lines l
unfolding touched
lines-hit c lines b write l e = rw e refl

pub lines-miss : (c : CacheConfig) (lines : List Line) (b : ℕ) (write : Bool) → find_line b lines ≡ None → (touched c lines b write).lines ≡ entering b write ∷ take (c.ways - 1) lines
unfolding touched
lines-miss c lines b write e = rw e refl

pub victim-miss : (c : CacheConfig) (lines : List Line) (b : ℕ) (write : Bool) → find_line b lines ≡ None → (touched c lines b write).touch.victim ≡ option_map (victim_of c) (slice_get lines (c.ways - 1))
unfolding touched
victim-miss c lines b write e = rw e refl

-- the accessed block's line after a hit, and every other block's
hit_own : (fifo : Bool) (b : ℕ) (write : Bool) (lines : List Line) (l : Line) → find_line b lines ≡ Some l → find_line b (hit_lines fifo b write lines l) ≡ Some (with_dirty write l)
hit_own true b write lines l e = find_line-changed b (with_dirty write) (λ m. refl) lines ∙ ap (option_map (with_dirty write)) e
hit_own false b write lines l e = find_line-head b (with_dirty write l) (removed b lines) (find_line-is b lines l e)

hit_other : (fifo : Bool) (b : ℕ) (write : Bool) (lines : List Line) (l : Line) → find_line b lines ≡ Some l → (x : ℕ) → x ≢ b → find_line x (hit_lines fifo b write lines l) ≡ find_line x lines
hit_other true b write lines l e x ne = find_line-changed_other b (with_dirty write) (λ m. refl) x ne lines
hit_other false b write lines l e x ne =
    find_line-tail x (with_dirty write l) (removed b lines) (λ q. ne (sym q ∙ find_line-is b lines l e)) ∙ find_line-removed_other b x ne lines

pub touched-hit_own : (c : CacheConfig) (lines : List Line) (b : ℕ) (write : Bool) (l : Line) → find_line b lines ≡ Some l → find_line b (touched c lines b write).lines ≡ Some (with_dirty write l)
touched-hit_own c lines b write l e = ap (find_line b) (lines-hit c lines b write l e) ∙ hit_own c.fifo b write lines l e

pub touched-hit_other : (c : CacheConfig) (lines : List Line) (b : ℕ) (write : Bool) (l : Line) → find_line b lines ≡ Some l → (x : ℕ) → x ≢ b → find_line x (touched c lines b write).lines ≡ find_line x lines
touched-hit_other c lines b write l e x ne = ap (find_line x) (lines-hit c lines b write l e) ∙ hit_other c.fifo b write lines l e x ne

-- and after a miss
pub touched-miss_own : (c : CacheConfig) (lines : List Line) (b : ℕ) (write : Bool) → find_line b lines ≡ None → find_line b (touched c lines b write).lines ≡ Some (entering b write)
touched-miss_own c lines b write e = ap (find_line b) (lines-miss c lines b write e) ∙ find_line-head b (entering b write) (take (c.ways - 1) lines) refl

pub touched-miss_other : (c : CacheConfig) (lines : List Line) (b : ℕ) (write : Bool) → find_line b lines ≡ None → 1 ≤ c.ways → length lines ≤ c.ways → (x : ℕ) → x ≢ b
    → (find_line x (touched c lines b write).lines ≡ find_line x lines)
    ⊎ ((l : Line) × (find_line x lines ≡ Some l) × ((touched c lines b write).touch.victim ≡ Some (victim_of c l)) × (find_line x (touched c lines b write).lines ≡ None))
touched-miss_other c lines b write e some le x ne = by_case (find_line-take (c.ways - 1) x lines (omega arith))
  where
    behind : find_line x (touched c lines b write).lines ≡ find_line x (take (c.ways - 1) lines)
    behind = ap (find_line x) (lines-miss c lines b write e) ∙ find_line-tail x (entering b write) (take (c.ways - 1) lines) (λ q. ne (sym q))

    by_case : (find_line x (take (c.ways - 1) lines) ≡ find_line x lines) ⊎ Leaves (c.ways - 1) x lines
        → (find_line x (touched c lines b write).lines ≡ find_line x lines)
        ⊎ ((l : Line) × (find_line x lines ≡ Some l) × ((touched c lines b write).touch.victim ≡ Some (victim_of c l)) × (find_line x (touched c lines b write).lines ≡ None))
    by_case (inl same) = inl (behind ∙ same)
    by_case (inr (l, at, was, gone)) = inr (l, was, victim-miss c lines b write e ∙ ap (option_map (victim_of c)) at, behind ∙ gone)

-- the last way has a line exactly where the set is full
pub last_way : (n : ℕ) (lines : List Line) → length lines ≤ suc n → IsSome (slice_get lines n) ↔ (length lines ≡ suc n)
last_way n [] le = (λ s. absurd cc, λ q. absurd (omega arith))
last_way zero (l ∷ lines) le = (λ s. omega arith, λ q. refl)
last_way (suc n) (l ∷ lines) le =
    let rest : IsSome (slice_get lines n) ↔ (length lines ≡ suc n) = last_way n lines (omega arith) in
    (λ s. ap suc (rest.0 s), λ q. rest.1 (omega arith))

-- sets keep their size, hold no block twice, and every line keeps what holds of its block
pub length-changed : (b : ℕ) (f : Line → Line) (lines : List Line) → length (changed b f lines) ≡ length lines
length-changed b f [] = refl
length-changed b f (l ∷ lines) =
    elim (l.block == b) as (λ t. length (cond t (f l ∷ lines) (l ∷ changed b f lines)) ≡ suc (length lines)) [
      | true ↦ refl
      | false ↦ ap suc (length-changed b f lines)
    ]

length-removed : (b : ℕ) (lines : List Line) (l : Line) → find_line b lines ≡ Some l → suc (length (removed b lines)) ≡ length lines
length-removed b [] l e = absurd cc
length-removed b (m ∷ lines) l e =
    (elim (m.block == b) as (λ t. cond t (Some m) (find_line b lines) ≡ Some l → suc (length (cond t lines (m ∷ removed b lines))) ≡ suc (length lines)) [
      | true ↦ λ q. refl
      | false ↦ λ q. ap suc (length-removed b lines l q)
    ]) e

hit_length : (fifo : Bool) (b : ℕ) (write : Bool) (lines : List Line) (l : Line) → find_line b lines ≡ Some l → length (hit_lines fifo b write lines l) ≡ length lines
hit_length true b write lines l e = length-changed b (with_dirty write) lines
hit_length false b write lines l e = length-removed b lines l e

pub touched-length : (c : CacheConfig) (lines : List Line) (b : ℕ) (write : Bool) → 1 ≤ c.ways → length lines ≤ c.ways → length (touched c lines b write).lines ≤ c.ways
touched-length c lines b write some le = by_case (find_line b lines) refl
  where
    by_case : (o : Option Line) → find_line b lines ≡ o → length (touched c lines b write).lines ≤ c.ways
    by_case (Some l) e = omega (arith, ap length (lines-hit c lines b write l e), hit_length c.fifo b write lines l e)
    by_case None e = omega (arith, ap length (lines-miss c lines b write e), length-take (c.ways - 1) lines)

removed-none : (x b : ℕ) (lines : List Line) → find_line x lines ≡ None → find_line x (removed b lines) ≡ None
removed-none x b [] e = refl
removed-none x b (l ∷ lines) e =
    of_block (find_line x (removed b (l ∷ lines)) ≡ None) x l
    (λ s. let e' = sym (find_line-head x l lines s) ∙ e in absurd cc)
    (λ o.
    let none = sym (find_line-tail x l lines o) ∙ e in
    elim (l.block == b) as (λ t. find_line x (cond t lines (l ∷ removed b lines)) ≡ None) [
      | true ↦ none
      | false ↦ find_line-tail x l (removed b lines) o ∙ removed-none x b lines none
    ])

removed_once : (b : ℕ) (lines : List Line) → IsOnce lines → IsOnce (removed b lines)
removed_once b [] o = o
removed_once b (l ∷ lines) (head, rest) =
    elim (l.block == b) as (λ t. IsOnce (cond t lines (l ∷ removed b lines))) [
      | true ↦ rest
      | false ↦ (removed-none l.block b lines head, removed_once b lines rest)
    ]

removed_own : (b : ℕ) (lines : List Line) → IsOnce lines → find_line b (removed b lines) ≡ None
removed_own b [] o = refl
removed_own b (l ∷ lines) (head, rest) =
    of_block (find_line b (removed b (l ∷ lines)) ≡ None) b l
    (λ s. rw (eq-eqb l.block b s) (subst (λ x. find_line x lines ≡ None) s head))
    (λ o. rw (ne_eqb l.block b o, ne_eqb l.block b o) (removed_own b lines rest))

changed-none : (x b : ℕ) (f : Line → Line) → ((l : Line) → (f l).block ≡ l.block) → (lines : List Line) → find_line x lines ≡ None → find_line x (changed b f lines) ≡ None
changed-none x b f keeps [] e = refl
changed-none x b f keeps (l ∷ lines) e =
    of_block (find_line x (changed b f (l ∷ lines)) ≡ None) x l
    (λ s. let e' = sym (find_line-head x l lines s) ∙ e in absurd cc)
    (λ o.
    let none = sym (find_line-tail x l lines o) ∙ e in
    elim (l.block == b) as (λ t. find_line x (cond t (f l ∷ lines) (l ∷ changed b f lines)) ≡ None) [
      | true ↦ find_line-tail x (f l) lines (λ s. o (sym (keeps l) ∙ s)) ∙ none
      | false ↦ find_line-tail x l (changed b f lines) o ∙ changed-none x b f keeps lines none
    ])

pub changed_once : (b : ℕ) (f : Line → Line) → ((l : Line) → (f l).block ≡ l.block) → (lines : List Line) → IsOnce lines → IsOnce (changed b f lines)
changed_once b f keeps [] o = o
changed_once b f keeps (l ∷ lines) (head, rest) =
    elim (l.block == b) as (λ t. IsOnce (cond t (f l ∷ lines) (l ∷ changed b f lines))) [
      | true ↦ (subst (λ x. find_line x lines ≡ None) (sym (keeps l)) head, rest)
      | false ↦ (changed-none l.block b f keeps lines head, changed_once b f keeps lines rest)
    ]

take_once : (n : ℕ) (lines : List Line) → IsOnce lines → IsOnce (take n lines)
take_once zero lines o = tt
take_once (suc n) [] o = tt
take_once (suc n) (l ∷ lines) (head, rest) = (find_line-take_none n l.block lines head, take_once n lines rest)

pub map_once : (f : Line → Line) → ((l : Line) → (f l).block ≡ l.block) → (lines : List Line) → IsOnce lines → IsOnce (map f lines)
map_once f keeps [] o = tt
map_once f keeps (l ∷ lines) (head, rest) =
    (ap (λ x. find_line x (map f lines)) (keeps l) ∙ (find_line-map 0 f keeps l.block lines ∙ ap (option_map f) head), map_once f keeps lines rest)

hit_once : (fifo : Bool) (b : ℕ) (write : Bool) (lines : List Line) (l : Line) → find_line b lines ≡ Some l → IsOnce lines → IsOnce (hit_lines fifo b write lines l)
hit_once true b write lines l e o = changed_once b (with_dirty write) (λ m. refl) lines o
hit_once false b write lines l e o =
    (subst (λ x. find_line x (removed b lines) ≡ None) (sym (find_line-is b lines l e)) (removed_own b lines o), removed_once b lines o)

pub touched_once : (c : CacheConfig) (lines : List Line) (b : ℕ) (write : Bool) → IsOnce lines → IsOnce (touched c lines b write).lines
touched_once c lines b write o = by_case (find_line b lines) refl
  where
    by_case : (r : Option Line) → find_line b lines ≡ r → IsOnce (touched c lines b write).lines
    by_case (Some l) e = subst IsOnce (sym (lines-hit c lines b write l e)) (hit_once c.fifo b write lines l e o)
    by_case None e = subst IsOnce (sym (lines-miss c lines b write e)) (find_line-take_none (c.ways - 1) b lines e, take_once (c.ways - 1) lines o)

module _ (P : Line → Type 0) where
  pub changed_all : (b : ℕ) (f : Line → Line) → ((l : Line) → P l → P (f l)) → (lines : List Line) → All P lines → All P (changed b f lines)
  changed_all b f keeps [] all = all
  changed_all b f keeps (l ∷ lines) all =
      elim (l.block == b) as (λ t. All P (cond t (f l ∷ lines) (l ∷ changed b f lines))) [
        | true ↦ All-cons P (f l) lines (keeps l (All-head P l lines all)) (All-tail P l lines all)
        | false ↦ All-cons P l (changed b f lines) (All-head P l lines all) (changed_all b f keeps lines (All-tail P l lines all))
      ]

  removed_all : (b : ℕ) (lines : List Line) → All P lines → All P (removed b lines)
  removed_all b [] all = all
  removed_all b (l ∷ lines) all =
      elim (l.block == b) as (λ t. All P (cond t lines (l ∷ removed b lines))) [
        | true ↦ All-tail P l lines all
        | false ↦ All-cons P l (removed b lines) (All-head P l lines all) (removed_all b lines (All-tail P l lines all))
      ]

  found_all : (b : ℕ) (lines : List Line) (l : Line) → find_line b lines ≡ Some l → All P lines → P l
  found_all b [] l e all = absurd cc
  found_all b (m ∷ lines) l e all =
      of_block (P l) b m
      (λ s. let q : m ≡ l = (let r : Some m ≡ Some l = sym (find_line-head b m lines s) ∙ e in cc) in subst P q (All-head P m lines all))
      (λ o. found_all b lines l (sym (find_line-tail b m lines o) ∙ e) (All-tail P m lines all))

  hit_all : (fifo : Bool) (b : ℕ) (write : Bool) (lines : List Line) (l : Line) → ((m : Line) → P m → P (with_dirty write m)) → find_line b lines ≡ Some l → All P lines → All P (hit_lines fifo b write lines l)
  hit_all true b write lines l keeps e all = changed_all b (with_dirty write) keeps lines all
  hit_all false b write lines l keeps e all = All-cons P (with_dirty write l) (removed b lines) (keeps l (found_all b lines l e all)) (removed_all b lines all)

  pub touched_all : (c : CacheConfig) (lines : List Line) (b : ℕ) (write : Bool) → ((m : Line) → P m → P (with_dirty write m)) → P (entering b write) → All P lines → All P (touched c lines b write).lines
  touched_all c lines b write keeps new all = by_case (find_line b lines) refl
    where
      by_case : (r : Option Line) → find_line b lines ≡ r → All P (touched c lines b write).lines
      by_case (Some l) e = subst (All P) (sym (lines-hit c lines b write l e)) (hit_all c.fifo b write lines l keeps e all)
      by_case None e = subst (All P) (sym (lines-miss c lines b write e)) (All-cons P (entering b write) (take (c.ways - 1) lines) new (All-take P (c.ways - 1) lines all))
