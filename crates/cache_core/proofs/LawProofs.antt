-- The laws of the replay.
use Rattle.std.proofs.Common.{◌≡◌, ◌≢◌, ℕ, zero, suc, ◌+◌, ◌-◌, ◌≤◌, Bool, true, false, cond, List, [], ◌∷◌, length, map, Option, Some, None, ◌⊎◌, inl, inr, refl, sym, ◌∙◌, ap, subst, arith}
use Rattle.std.specs.Prelude.{◌==◌, if◌then◌else◌, IsSome, All, not, ◌↔◌, slice_get, is_some}
use Rattle.std.specs.Option.{option_map, option_map_or}
use Rattle.std.proofs.lemmas.Bool.{eqb-true, eq-eqb, cases_eq, both_ways}
use Rattle.std.proofs.lemmas.List.{length-map, take-map}
use Rattle.std.proofs.lemmas.List.Elements.{All-nil, All-map}
use Rattle.cache_core.specs.declared.config.CacheConfig.{CacheConfig}
use Rattle.cache_core.specs.declared.answers.Touch.{Touch}
use Rattle.cache_core.specs.declared.answers.Victim.{Victim}
use Rattle.cache_core.specs.Replay.{Line, Call, Access, Fill, Settle, block_of, set_of, find_line, removed, changed, with_dirty, ending_at, entering, victim_of, touched, touched_at, lines_of, touch_of, line_at, fill_end_of, number_of, replaces, writes_back, counts_of}
use Rattle.cache_core.specs.Stands.{IsBalanced}
use Rattle.cache_core.specs.Laws.{IsOnce, KeepsPlaces, HitKeeps, IsVictim, MissBrings, AccessKeeps, FillEnds, accesses_in, CountsBalance, references, ReferencesAlone}
use Rattle.cache_core.proofs.Lines.{find_line-changed, find_line-changed_other, find_line-map}
use Rattle.cache_core.proofs.Places.{touched-hit_victim}
use Rattle.cache_core.proofs.Replays.{counts_from}
use Rattle.cache_core.proofs.Touches.{hit_lines, touched-hit, touched-hit_own, touched-hit_other, touched-miss_own, touched-miss_other, victim-miss, last_way, touched-length, touched_once, touched_all, changed_once, changed_all, map_once, length-changed}

-- how a set's lines come about, by the set of the call's block
set_cases : (P : List Line → Type 0) (c : CacheConfig) (b k : ℕ) (new old : List Line) → (set_of c b ≡ k → P new) → P old → P (if set_of c b == k then new else old)
set_cases P c b k new old same other = by_case (set_of c b == k) refl
  where
    by_case : (t : Bool) → (set_of c b == k) ≡ t → P (cond t new old)
    by_case true e = same (eqb-true (set_of c b) k e)
    by_case false e = other

ways_kept : (c : CacheConfig) (k : ℕ) → 1 ≤ c.ways → (h : List Call) → length (lines_of c k h) ≤ c.ways
unfolding lines_of
ways_kept c k some [] = omega arith
ways_kept c k some (Access addr write ∷ h) =
    set_cases (λ ls. length ls ≤ c.ways) c (block_of c addr) k _ _ (λ s. touched-length c (lines_of c k h) (block_of c addr) write some (ways_kept c k some h)) (ways_kept c k some h)
ways_kept c k some (Fill addr end ∷ h) =
    set_cases (λ ls. length ls ≤ c.ways) c (block_of c addr) k _ _ (λ s. omega (arith, length-changed (block_of c addr) (ending_at end) (lines_of c k h), ways_kept c k some h)) (ways_kept c k some h)
ways_kept c k some (Settle ∷ h) = omega (arith, length-map (lines_of c k h) (ending_at 0), ways_kept c k some h)

once_kept : (c : CacheConfig) (k : ℕ) (h : List Call) → IsOnce (lines_of c k h)
unfolding lines_of
once_kept c k [] = tt
once_kept c k (Access addr write ∷ h) =
    set_cases IsOnce c (block_of c addr) k _ _ (λ s. touched_once c (lines_of c k h) (block_of c addr) write (once_kept c k h)) (once_kept c k h)
once_kept c k (Fill addr end ∷ h) =
    set_cases IsOnce c (block_of c addr) k _ _ (λ s. changed_once (block_of c addr) (ending_at end) (λ l. refl) (lines_of c k h) (once_kept c k h)) (once_kept c k h)
once_kept c k (Settle ∷ h) = map_once (ending_at 0) (λ l. refl) (lines_of c k h) (once_kept c k h)

own_kept : (c : CacheConfig) (k : ℕ) (h : List Call) → All (λ l. set_of c l.block ≡ k) (lines_of c k h)
unfolding lines_of
own_kept c k [] = All-nil (λ l. set_of c l.block ≡ k)
own_kept c k (Access addr write ∷ h) =
    set_cases (All (λ l. set_of c l.block ≡ k)) c (block_of c addr) k _ _
    (λ s. touched_all (λ l. set_of c l.block ≡ k) c (lines_of c k h) (block_of c addr) write (λ m p. p) s (own_kept c k h)) (own_kept c k h)
own_kept c k (Fill addr end ∷ h) =
    set_cases (All (λ l. set_of c l.block ≡ k)) c (block_of c addr) k _ _
    (λ s. changed_all (λ l. set_of c l.block ≡ k) (block_of c addr) (ending_at end) (λ m p. p) (lines_of c k h) (own_kept c k h)) (own_kept c k h)
own_kept c k (Settle ∷ h) = All-map (λ (l : Line). set_of c l.block ≡ k) (ending_at 0) (lines_of c k h) (own_kept c k h)

pub places_kept : (c : CacheConfig) (h : List Call) (k : ℕ) → 1 ≤ c.ways → KeepsPlaces c h k
places_kept c h k some = record { ways = ways_kept c k some h; once = once_kept c k h; own = own_kept c k h }

-- the lines of a block's own set after an access of it
access_own : (c : CacheConfig) (h : List Call) (addr : ℕ) (write : Bool)
    → line_at c (Access addr write ∷ h) (block_of c addr) ≡ find_line (block_of c addr) (touched c (lines_of c (set_of c (block_of c addr)) h) (block_of c addr) write).lines
unfolding lines_of line_at
access_own c h addr write = rw (eq-eqb (set_of c (block_of c addr)) (set_of c (block_of c addr)) refl) refl

found : (o : Option Line) → is_some o ≡ true → (l : Line) × (o ≡ Some l)
found None e = absurd cc
found (Some l) e = (l, refl)

hit_kept : (c : CacheConfig) (h : List Call) (addr : ℕ) (write : Bool) → (touch_of c h addr write).hit ≡ true → HitKeeps c h addr write
unfolding lines_of line_at touch_of
hit_kept c h addr write is =
    let b = block_of c addr in
    let here = lines_of c (set_of c b) h in
    let (l, e) = found (find_line b here) (sym (touched-hit c here b write) ∙ is) in
    record {
      victim = touched-hit_victim c b write here is;
      own = access_own c h addr write ∙ (touched-hit_own c here b write l e ∙ ap (option_map (with_dirty write)) (sym e));
      others = λ x ne.
          set_cases (λ ls. find_line x ls ≡ find_line x (lines_of c (set_of c x) h)) c b (set_of c x) _ _
          (λ s. touched-hit_other c (lines_of c (set_of c x) h) b write l (subst (λ k. find_line b (lines_of c k h) ≡ Some l) s e) x ne) refl;
    }

option_map-IsSome : {X Y : Type 0} (f : X → Y) (o : Option X) → is_some (option_map f o) ≡ is_some o
option_map-IsSome f None = refl
option_map-IsSome f (Some x) = refl

miss_kept : (c : CacheConfig) (h : List Call) (addr : ℕ) (write : Bool) → 1 ≤ c.ways → line_at c h (block_of c addr) ≡ None → MissBrings c h addr write
unfolding lines_of line_at touch_of
miss_kept c h addr write some none =
    let b = block_of c addr in
    let here = lines_of c (set_of c b) h in
    let le : length here ≤ c.ways = ways_kept c (set_of c b) some h in
    let full : IsSome (slice_get here (c.ways - 1)) ↔ (length here ≡ suc (c.ways - 1)) = last_way (c.ways - 1) here (omega arith) in
    let victim : is_some (touched c here b write).touch.victim ≡ is_some (slice_get here (c.ways - 1)) = ap is_some (victim-miss c here b write none) ∙ option_map-IsSome (victim_of c) (slice_get here (c.ways - 1)) in
    record {
      own = access_own c h addr write ∙ touched-miss_own c here b write none;
      others = λ x ne.
          set_cases
          (λ ls. (find_line x ls ≡ find_line x (lines_of c (set_of c x) h)) ⊎ ((l : Line) × (find_line x (lines_of c (set_of c x) h) ≡ Some l) × ((touched c here b write).touch.victim ≡ Some (victim_of c l)) × (find_line x ls ≡ None)))
          c b (set_of c x) _ _
          (λ s. subst (λ k. (find_line x (touched c (lines_of c k h) b write).lines ≡ find_line x (lines_of c k h)) ⊎ ((l : Line) × (find_line x (lines_of c k h) ≡ Some l) × ((touched c here b write).touch.victim ≡ Some (victim_of c l)) × (find_line x (touched c (lines_of c k h) b write).lines ≡ None))) s
          (touched-miss_other c here b write none some le x ne))
          (inl refl);
      full = (λ v. let q : length here ≡ suc (c.ways - 1) = full.0 (sym victim ∙ v) in omega arith, λ q. victim ∙ full.1 (omega arith));
    }

pub accesses_kept : (c : CacheConfig) (h : List Call) (addr : ℕ) (write : Bool) → 1 ≤ c.ways → AccessKeeps c h addr write
unfolding line_at touch_of
accesses_kept c h addr write some =
    let e = touched-hit c (lines_of c (set_of c (block_of c addr)) h) (block_of c addr) write in
    record {
      held = (λ t. sym e ∙ t, λ s. e ∙ s);
      hit = hit_kept c h addr write;
      miss = miss_kept c h addr write some;
    }

-- fill ends
abbrev fill_end_or : Option Line → ℕ
fill_end_or o = option_map_or (λ l. l.fill_end) o 0

with_dirty_end : (write : Bool) (o : Option Line) → fill_end_or (option_map (with_dirty write) o) ≡ fill_end_or o
with_dirty_end write None = refl
with_dirty_end write (Some l) = refl

fill_end_stays : (c : CacheConfig) (h : List Call) → 1 ≤ c.ways → (addr : ℕ) (write : Bool) (x : ℕ) → IsSome (line_at c h x) → IsSome (line_at c (Access addr write ∷ h) x)
    → fill_end_of c (Access addr write ∷ h) x ≡ fill_end_of c h x
fill_end_stays c h some addr write x was is = by_case (cases_eq x b)
  where
    b : ℕ
    b = block_of c addr

    keeps : AccessKeeps c h addr write
    keeps = accesses_kept c h addr write some

    same : (x ≡ b) → fill_end_of c (Access addr write ∷ h) x ≡ fill_end_of c h x
    same q =
        let held : IsSome (line_at c h b) = subst (λ y. IsSome (line_at c h y)) q was in
        let own = (keeps.hit (keeps.held.1 held)).own in
        subst (λ y. fill_end_of c (Access addr write ∷ h) y ≡ fill_end_of c h y) (sym q) (ap fill_end_or own ∙ with_dirty_end write (line_at c h b))

    missed_other : (x ≢ b) → (line_at c (Access addr write ∷ h) x ≡ line_at c h x) ⊎ IsVictim c h addr write x → fill_end_of c (Access addr write ∷ h) x ≡ fill_end_of c h x
    missed_other ne (inl e) = ap fill_end_or e
    missed_other ne (inr (l, w, v, gone)) = let no : is_some (line_at c (Access addr write ∷ h) x) ≡ false = ap is_some gone in absurd (both_ways _ no is)

    other : (x ≢ b) → (o : Option Line) → line_at c h b ≡ o → fill_end_of c (Access addr write ∷ h) x ≡ fill_end_of c h x
    other ne (Some l) e = ap fill_end_or ((keeps.hit (keeps.held.1 (ap is_some e))).others x ne)
    other ne None e = missed_other ne ((keeps.miss e).others x ne)

    by_case : (x ≡ b) ⊎ (x ≢ b) → fill_end_of c (Access addr write ∷ h) x ≡ fill_end_of c h x
    by_case (inl q) = same q
    by_case (inr ne) = other ne (line_at c h b) refl

fill_end_enters : (c : CacheConfig) (h : List Call) → 1 ≤ c.ways → (addr : ℕ) (write : Bool) (x : ℕ) → line_at c h x ≡ None → fill_end_of c (Access addr write ∷ h) x ≡ 0
fill_end_enters c h some addr write x none = by_case (cases_eq x b)
  where
    b : ℕ
    b = block_of c addr

    keeps : AccessKeeps c h addr write
    keeps = accesses_kept c h addr write some

    missed_other : (line_at c (Access addr write ∷ h) x ≡ line_at c h x) ⊎ IsVictim c h addr write x → fill_end_of c (Access addr write ∷ h) x ≡ 0
    missed_other (inl e) = ap fill_end_or (e ∙ none)
    missed_other (inr (l, w, v, gone)) = ap fill_end_or gone

    other : (x ≢ b) → (o : Option Line) → line_at c h b ≡ o → fill_end_of c (Access addr write ∷ h) x ≡ 0
    other ne (Some l) e = ap fill_end_or ((keeps.hit (keeps.held.1 (ap is_some e))).others x ne ∙ none)
    other ne None e = missed_other ((keeps.miss e).others x ne)

    by_case : (x ≡ b) ⊎ (x ≢ b) → fill_end_of c (Access addr write ∷ h) x ≡ 0
    by_case (inl q) =
        subst (λ y. fill_end_of c (Access addr write ∷ h) y ≡ 0) (sym q) (ap fill_end_or (keeps.miss (subst (λ y. line_at c h y ≡ None) q none)).own)
    by_case (inr ne) = other ne (line_at c h b) refl

pub fill_ends_kept : (c : CacheConfig) (h : List Call) → 1 ≤ c.ways → FillEnds c h
unfolding lines_of line_at
fill_ends_kept c h some =
    record {
      fill = λ addr end.
          let b = block_of c addr in
          rw (eq-eqb (set_of c b) (set_of c b) refl) (find_line-changed b (ending_at end) (λ l. refl) (lines_of c (set_of c b) h));
      others = λ addr end x ne.
          set_cases (λ ls. find_line x ls ≡ find_line x (lines_of c (set_of c x) h)) c (block_of c addr) (set_of c x) _ _
          (λ s. find_line-changed_other (block_of c addr) (ending_at end) (λ l. refl) x ne (lines_of c (set_of c x) h)) refl;
      settle = λ x. find_line-map 0 (ending_at 0) (λ l. refl) x (lines_of c (set_of c x) h);
      stays = fill_end_stays c h some;
      enters = fill_end_enters c h some;
    }

-- counts
access_counts : (hits misses accesses replacements writebacks : ℕ) (t : Touch) → (t.hit ≡ true → t.victim ≡ None) → hits + misses ≡ accesses → replacements ≤ misses → writebacks ≤ replacements
    → IsBalanced (record { accesses = accesses + 1; hits = hits + cond t.hit 1 0; misses = misses + cond (not t.hit) 1 0; replacements = replacements + cond (replaces t) 1 0; writebacks = writebacks + cond (writes_back t) 1 0 })
access_counts h m a r w t kept balance le least = by_case t.hit t.victim kept
  where
    by_case : (hit : Bool) (v : Option Victim) → (hit ≡ true → v ≡ None)
        → IsBalanced (record { accesses = a + 1; hits = h + cond hit 1 0; misses = m + cond (not hit) 1 0; replacements = r + cond (is_some v) 1 0; writebacks = w + cond (option_map_or (λ x. x.dirty) v false) 1 0 })
    by_case true (Some v) k = let no : Some v ≡ None = k refl in absurd cc
    by_case true None k = record { accesses = omega arith; misses = omega arith; replacements = omega arith }
    by_case false None k = record { accesses = omega arith; misses = omega arith; replacements = omega arith }
    by_case false (Some v) k =
        elim v.dirty as (λ d. IsBalanced (record { accesses = a + 1; hits = h + 0; misses = m + 1; replacements = r + 1; writebacks = w + cond d 1 0 })) [
          | true ↦ record { accesses = omega arith; misses = omega arith; replacements = omega arith }
          | false ↦ record { accesses = omega arith; misses = omega arith; replacements = omega arith }
        ]

balance_kept : (c : CacheConfig) (h : List Call) → IsBalanced (counts_of c h)
unfolding number_of touch_of
balance_kept c [] = record { accesses = refl; misses = omega arith; replacements = omega arith }
balance_kept c (Access addr write ∷ h) =
    let before = balance_kept c h in
    access_counts _ _ _ _ _ (touch_of c h addr write) (touched-hit_victim c (block_of c addr) write (lines_of c (set_of c (block_of c addr)) h)) before.accesses before.misses before.replacements
balance_kept c (Fill addr end ∷ h) = balance_kept c h
balance_kept c (Settle ∷ h) = balance_kept c h

accesses_counted : (c : CacheConfig) (h : List Call) → accesses_in h ≡ (counts_of c h).accesses
unfolding number_of
accesses_counted c [] = refl
accesses_counted c (Access addr write ∷ h) = ap (λ n. n + 1) (accesses_counted c h)
accesses_counted c (Fill addr end ∷ h) = accesses_counted c h
accesses_counted c (Settle ∷ h) = accesses_counted c h

pub counts_kept : (c : CacheConfig) (h : List Call) → CountsBalance c h
counts_kept c h = (accesses_counted c h, balance_kept c h)

-- fills and settlings change contents in nothing but fill ends
map-changed : (b : ℕ) (write : Bool) (lines : List Line) → map (ending_at 0) (changed b (with_dirty write) lines) ≡ changed b (with_dirty write) (map (ending_at 0) lines)
map-changed b write [] = refl
map-changed b write (l ∷ lines) =
    elim (l.block == b) as (λ t. map (ending_at 0) (cond t (with_dirty write l ∷ lines) (l ∷ changed b (with_dirty write) lines)) ≡ cond t (with_dirty write (ending_at 0 l) ∷ map (ending_at 0) lines) (ending_at 0 l ∷ changed b (with_dirty write) (map (ending_at 0) lines))) [
      | true ↦ refl
      | false ↦ ap (λ ls. ending_at 0 l ∷ ls) (map-changed b write lines)
    ]

map-removed : (b : ℕ) (lines : List Line) → map (ending_at 0) (removed b lines) ≡ removed b (map (ending_at 0) lines)
map-removed b [] = refl
map-removed b (l ∷ lines) =
    elim (l.block == b) as (λ t. map (ending_at 0) (cond t lines (l ∷ removed b lines)) ≡ cond t (map (ending_at 0) lines) (ending_at 0 l ∷ removed b (map (ending_at 0) lines))) [
      | true ↦ refl
      | false ↦ ap (λ ls. ending_at 0 l ∷ ls) (map-removed b lines)
    ]

map-filled : (b end : ℕ) (lines : List Line) → map (ending_at 0) (changed b (ending_at end) lines) ≡ map (ending_at 0) lines
map-filled b end [] = refl
map-filled b end (l ∷ lines) =
    elim (l.block == b) as (λ t. map (ending_at 0) (cond t (ending_at end l ∷ lines) (l ∷ changed b (ending_at end) lines)) ≡ ending_at 0 l ∷ map (ending_at 0) lines) [
      | true ↦ refl
      | false ↦ ap (λ ls. ending_at 0 l ∷ ls) (map-filled b end lines)
    ]

map-settled : (lines : List Line) → map (ending_at 0) (map (ending_at 0) lines) ≡ map (ending_at 0) lines
map-settled [] = refl
map-settled (l ∷ lines) = ap (λ ls. ending_at 0 l ∷ ls) (map-settled lines)

last_settled : (c : CacheConfig) (n : ℕ) (lines : List Line) → option_map (victim_of c) (slice_get (map (ending_at 0) lines) n) ≡ option_map (victim_of c) (slice_get lines n)
last_settled c n [] = refl
last_settled c zero (l ∷ lines) = refl
last_settled c (suc n) (l ∷ lines) = last_settled c n lines

touched-settled : (c : CacheConfig) (lines : List Line) (b : ℕ) (write : Bool)
    → ((touched c lines b write).touch ≡ (touched c (map (ending_at 0) lines) b write).touch)
    × (map (ending_at 0) (touched c lines b write).lines ≡ (touched c (map (ending_at 0) lines) b write).lines)
unfolding touched
touched-settled c lines b write =
    subst (λ o. ((touched_at c lines b write (find_line b lines)).touch ≡ (touched_at c (map (ending_at 0) lines) b write o).touch)
    × (map (ending_at 0) (touched_at c lines b write (find_line b lines)).lines ≡ (touched_at c (map (ending_at 0) lines) b write o).lines))
    (sym (find_line-map 0 (ending_at 0) (λ l. refl) b lines)) (by_case (find_line b lines))
  where
    on_hit : (fifo : Bool) (l : Line) → map (ending_at 0) (hit_lines fifo b write lines l) ≡ hit_lines fifo b write (map (ending_at 0) lines) (ending_at 0 l)
    on_hit true l = map-changed b write lines
    on_hit false l = ap (λ ls. with_dirty write (ending_at 0 l) ∷ ls) (map-removed b lines)

    by_case : (o : Option Line) → ((touched_at c lines b write o).touch ≡ (touched_at c (map (ending_at 0) lines) b write (option_map (ending_at 0) o)).touch)
        × (map (ending_at 0) (touched_at c lines b write o).lines ≡ (touched_at c (map (ending_at 0) lines) b write (option_map (ending_at 0) o)).lines)
    by_case (Some l) = (refl, on_hit c.fifo l)
    by_case None = (
      ap (λ v. let t : Touch = record { hit = false; victim = v } in t) (sym (last_settled c (c.ways - 1) lines)),
      ap (λ ls. entering b write ∷ ls) (sym (take-map (ending_at 0) (c.ways - 1) lines)),
    )

lines_alone : (c : CacheConfig) (k : ℕ) (h : List Call) → map (ending_at 0) (lines_of c k h) ≡ lines_of c k (references h)
unfolding lines_of
lines_alone c k [] = refl
lines_alone c k (Access addr write ∷ h) =
    let before = lines_alone c k h in
    let b = block_of c addr in
    elim (set_of c b == k) as (λ t. map (ending_at 0) (cond t (touched c (lines_of c k h) b write).lines (lines_of c k h)) ≡ cond t (touched c (lines_of c k (references h)) b write).lines (lines_of c k (references h))) [
      | true ↦ (touched-settled c (lines_of c k h) b write).1 ∙ ap (λ ls. (touched c ls b write).lines) before
      | false ↦ before
    ]
lines_alone c k (Fill addr end ∷ h) =
    let before = lines_alone c k h in
    let b = block_of c addr in
    elim (set_of c b == k) as (λ t. map (ending_at 0) (cond t (changed b (ending_at end) (lines_of c k h)) (lines_of c k h)) ≡ lines_of c k (references h)) [
      | true ↦ map-filled b end (lines_of c k h) ∙ before
      | false ↦ before
    ]
lines_alone c k (Settle ∷ h) = map-settled (lines_of c k h) ∙ lines_alone c k h

touch_alone : (c : CacheConfig) (h : List Call) (addr : ℕ) (write : Bool) → touch_of c h addr write ≡ touch_of c (references h) addr write
unfolding touch_of
touch_alone c h addr write =
    let b = block_of c addr in
    (touched-settled c (lines_of c (set_of c b) h) b write).0 ∙ ap (λ ls. (touched c ls b write).touch) (lines_alone c (set_of c b) h)

number_alone : (test : Touch → Bool) (c : CacheConfig) (h : List Call) → number_of test c h ≡ number_of test c (references h)
unfolding number_of
number_alone test c [] = refl
number_alone test c (Access addr write ∷ h) =
    ap (λ n. n + cond (test (touch_of c h addr write)) 1 0) (number_alone test c h)
    ∙ ap (λ t. number_of test c (references h) + cond (test t) 1 0) (touch_alone c h addr write)
number_alone test c (Fill addr end ∷ h) = number_alone test c h
number_alone test c (Settle ∷ h) = number_alone test c h

pub references_kept : (c : CacheConfig) (h : List Call) → ReferencesAlone c h
references_kept c h =
    record {
      lines = λ k. lines_alone c k h;
      touch = touch_alone c h;
      counts =
          counts_from _ _ _ _ _ _ _ _ _ _
          (number_alone (λ t. true) c h) (number_alone (λ t. t.hit) c h) (number_alone (λ t. not t.hit) c h) (number_alone replaces c h) (number_alone writes_back c h);
    }
