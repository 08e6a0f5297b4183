-- What an access, a fill and a settling do to the ways of a set, and to the lines that they stand for.
use Rattle.std.proofs.Common.{◌≡◌, ◌≢◌, ℕ, zero, suc, ◌+◌, ◌-◌, ◌*◌, ◌^◌, ◌<◌, ◌≤◌, Bool, true, false, cond, List, [], ◌∷◌, ◌++◌, length, set, take, map, Some, None, refl, sym, ◌∙◌, ap, subst, arith, add-one, length-set, length-append}
use Rattle.std.specs.Prelude.{All, ◌==◌, filter, slice_get}
use Rattle.std.specs.Option.{option_map, option_map_or}
use Rattle.std.proofs.lemmas.Bool.{eqb-true, eqb-false, eq-eqb, ne_eqb, both_ways}
use Rattle.std.proofs.lemmas.List.{take_all, take_at, length-map}
use Rattle.std.proofs.Math.ListN.{get_or-map}
use Rattle.std.proofs.lemmas.List.Elements.{All-set, All-weaker, All-map}
use Rattle.cache_core.specs.declared.config.CacheConfig.{CacheConfig}
use Rattle.cache_core.specs.declared.answers.Touch.{Touch}
use Rattle.cache_core.specs.declared.ways.Way.{Way}
use Rattle.cache_core.specs.Replay.{Line, find_line, changed, with_dirty, ending_at, entering, victim_of, touched}
use Rattle.cache_core.specs.Ways.{unused, way_at, holds, IsPlace, line_of, told_of, from_latest, stamped, newest_first, renewed, entered, ended, IsSoundSet}
use Rattle.cache_core.proofs.Latest.{replaced, replaced-other, latest-same, latest-map, latest-last, FoundAt}
use Rattle.cache_core.proofs.Stamps.{has_stamp, stamped-own, stamped-absent, IsFresh, IsNew, restamped, restated, no_later, found, not_found, length-full, length-free, apart-set}
use Rattle.cache_core.proofs.Touches.{hit_lines, lines-hit, lines-miss}
use Rattle.cache_core.proofs.Places.{HoldsAt, found_place}

-- ---- a hit

pub found_here : (c : CacheConfig) (n b i : ℕ) (ways : List Way) → IsSoundSet c n ways → HoldsAt b i ways → FoundAt b (way_at ways i).stamp n (stamped ways) (line_of (way_at ways i))
found_here c n b i ways sound at =
    subst (λ t. FoundAt t (way_at ways i).stamp n (stamped ways) (line_of (way_at ways i))) at.tag (found n ways sound.apart sound.stamps i at.inside at.held)

pub lines_of_hit : (c : CacheConfig) (n b i : ℕ) (write : Bool) (ways : List Way) → IsSoundSet c n ways → HoldsAt b i ways
    → newest_first (suc n) (set ways i (renewed c.fifo write (suc n) (way_at ways i))) ≡ (touched c (newest_first n ways) b write).lines
lines_of_hit c n b i write ways sound at =
    by_kind c.fifo ∙ sym (lines-hit c (newest_first n ways) b write (line_of (way_at ways i)) (found_here c n b i ways sound at).find)
  where
    here : FoundAt b (way_at ways i).stamp n (stamped ways) (line_of (way_at ways i))
    here = found_here c n b i ways sound at

    by_kind : (fifo : Bool) → newest_first (suc n) (set ways i (renewed fifo write (suc n) (way_at ways i))) ≡ hit_lines fifo b write (newest_first n ways) (line_of (way_at ways i))
    by_kind true =
        let v = renewed true write (suc n) (way_at ways i) in
        no_later n (set ways i v) (All-set (λ w. w.stamp ≤ n) ways i v (sound.stamps i unused at.inside) sound.stamps)
        ∙ (restated n ways sound.apart i v at.inside at.held refl ∙ sym (here.changed (with_dirty write)))
    by_kind false =
        let v = renewed false write (suc n) (way_at ways i) in
        restamped n ways sound.apart sound.stamps i v at.inside refl ∙ ap (λ ls. line_of v ∷ ls) (sym here.removed)

pub touch_of_hit : (c : CacheConfig) (n b i : ℕ) (write : Bool) (ways : List Way) → IsSoundSet c n ways → HoldsAt b i ways
    → ◌≡◌ {A = Touch} (record { hit = true; victim = None }) (touched c (newest_first n ways) b write).touch
unfolding touched
touch_of_hit c n b i write ways sound at = rw (found_here c n b i ways sound at).find refl

latest_fresh : (n : ℕ) (ways : List Way) → All (λ w. w.stamp ≤ n) ways → (i : ℕ) (v : Way) → v.stamp ≡ suc n → IsFresh ways i v
latest_fresh n ways most i v e j lt ne is = let le : (way_at ways j).stamp ≤ n = most j unused lt in absurd (omega arith)

-- a set stays sound where a way becomes one with a stamp and a tag of its own
changed_sound : (c : CacheConfig) (n : ℕ) (i : ℕ) (ways : List Way) (v : Way) → IsSoundSet c n ways → i < length ways → v.stamp ≤ suc n → v.tag * c.block < 2 ^ 32
    → IsFresh ways i v → IsNew ways i v → IsSoundSet c (suc n) (set ways i v)
changed_sound c n i ways v sound h le space fresh new =
    record {
      number = length-set ways i v ∙ sound.number;
      stamps = All-set (λ w. w.stamp ≤ suc n) ways i v le (All-weaker (λ w. w.stamp ≤ n) (λ w. w.stamp ≤ suc n) (λ w q. omega arith) ways sound.stamps);
      space = All-set (λ w. w.tag * c.block < 2 ^ 32) ways i v space sound.space;
      apart = apart-set ways sound.apart i v h fresh new;
    }

pub hit_sound : (c : CacheConfig) (n b i : ℕ) (write : Bool) (ways : List Way) → IsSoundSet c n ways → HoldsAt b i ways
    → IsSoundSet c (suc n) (set ways i (renewed c.fifo write (suc n) (way_at ways i)))
hit_sound c n b i write ways sound at = by_kind c.fifo
  where
    new : (fifo : Bool) → IsNew ways i (renewed fifo write (suc n) (way_at ways i))
    new fifo j lt ne some e = ne (sym (sound.apart.tags i j at.inside lt at.held some (sym e)))

    old : (way_at ways i).stamp ≤ n
    old = sound.stamps i unused at.inside

    by_kind : (fifo : Bool) → IsSoundSet c (suc n) (set ways i (renewed fifo write (suc n) (way_at ways i)))
    by_kind true =
        changed_sound c n i ways (renewed true write (suc n) (way_at ways i)) sound at.inside (omega (arith, old)) (sound.space i unused at.inside)
        (λ j lt ne e. ne (sym (sound.apart.stamps i j at.inside lt at.held (sym e)))) (new true)
    by_kind false =
        changed_sound c n i ways (renewed false write (suc n) (way_at ways i)) sound at.inside (omega arith) (sound.space i unused at.inside)
        (latest_fresh n ways sound.stamps i (renewed false write (suc n) (way_at ways i)) refl) (new false)

-- ---- a miss

-- the way at place i has the least stamp
pub record LeastAt (i : ℕ) (ways : List Way) : Type 0 where
  pub inside : i < length ways
  pub least : All (λ w. (way_at ways i).stamp ≤ w.stamp) ways

slice_get-past : (lines : List Line) (n : ℕ) → length lines ≤ n → slice_get lines n ≡ None
slice_get-past [] n le = refl
slice_get-past (l ∷ lines) zero le = absurd (omega arith)
slice_get-past (l ∷ lines) (suc n) le = slice_get-past lines n (omega arith)

slice_get-last : (front : List Line) (l : Line) (n : ℕ) → length front ≡ n → slice_get (front ++ l ∷ []) n ≡ Some l
slice_get-last [] l zero e = refl
slice_get-last [] l (suc n) e = absurd (omega arith)
slice_get-last (m ∷ front) l zero e = absurd (omega arith)
slice_get-last (m ∷ front) l (suc n) e = slice_get-last front l n (omega arith)

-- the lines but the one that leaves, and what is told of it
record Leaving (c : CacheConfig) (n i : ℕ) (ways : List Way) : Type 0 where
  rest : from_latest (replaced (stamped ways) (way_at ways i).stamp []) n ≡ take (c.ways - 1) (newest_first n ways)
  told : told_of c (way_at ways i) ≡ option_map (victim_of c) (slice_get (newest_first n ways) (c.ways - 1))

leaving : (c : CacheConfig) (n i : ℕ) (ways : List Way) → IsSoundSet c n ways → LeastAt i ways → Leaving c n i ways
leaving c n i ways sound at = by_case ((way_at ways i).stamp == 0) refl
  where
    s : ℕ
    s = (way_at ways i).stamp

    size : length ways ≡ c.ways
    size = sound.number

    free : (way_at ways i).stamp ≡ 0 → Leaving c n i ways
    free is =
        let short = length-free n ways sound.stamps i at.inside is in
        let same : from_latest (replaced (stamped ways) (way_at ways i).stamp []) n ≡ newest_first n ways =
        latest-same n (replaced (stamped ways) (way_at ways i).stamp []) (stamped ways) (λ m p q. replaced-other (stamped ways) (way_at ways i).stamp [] m (λ e. absurd (omega arith)))
        in
        record {
          rest = same ∙ sym (take_all (c.ways - 1) (newest_first n ways) (omega (arith, size, short)));
          told =
              ap (λ t. cond t None (Some (victim_of c (line_of (way_at ways i))))) (ap (λ x. x == 0) is)
              ∙ sym (ap (option_map (victim_of c)) (slice_get-past (newest_first n ways) (c.ways - 1) (omega (arith, size, short))));
        }

    full : (way_at ways i).stamp ≢ 0 → Leaving c n i ways
    full ne =
        let some : 0 < (way_at ways i).stamp = omega arith in
        let l = line_of (way_at ways i) in
        let front = from_latest (replaced (stamped ways) (way_at ways i).stamp []) n in
        let below : (m : ℕ) → 0 < m → m < (way_at ways i).stamp → stamped ways m ≡ [] =
        λ m p q. stamped-absent ways m (λ j lt e. let le : (way_at ways i).stamp ≤ (way_at ways j).stamp = at.least j unused lt in absurd (omega arith))
        in
        let split : newest_first n ways ≡ front ++ l ∷ [] =
        latest-last (way_at ways i).stamp n (stamped ways) l (stamped-own ways sound.apart i at.inside some) below some (sound.stamps i unused at.inside)
        in
        let long : length (newest_first n ways) ≡ length ways =
        length-full n ways sound.stamps (λ j lt. let le : (way_at ways i).stamp ≤ (way_at ways j).stamp = at.least j unused lt in omega arith)
        in
        let count : length front ≡ c.ways - 1 = omega (arith, size, ap length split, length-append front (l ∷ [])) in
        record {
          rest = sym (ap (take (c.ways - 1)) split ∙ take_at front (l ∷ []) (c.ways - 1) count);
          told = told_full ne ∙ sym (ap (option_map (victim_of c)) (ap (λ ls. slice_get ls (c.ways - 1)) split ∙ slice_get-last front l (c.ways - 1) count));
        }
      where
        told_full : (way_at ways i).stamp ≢ 0 → told_of c (way_at ways i) ≡ Some (victim_of c (line_of (way_at ways i)))
        told_full other = by_test ((way_at ways i).stamp == 0) refl
          where
            by_test : (t : Bool) → ((way_at ways i).stamp == 0) ≡ t → cond t None (Some (victim_of c (line_of (way_at ways i)))) ≡ Some (victim_of c (line_of (way_at ways i)))
            by_test true e = absurd (other (eqb-true (way_at ways i).stamp 0 e))
            by_test false e = refl

    by_case : (t : Bool) → ((way_at ways i).stamp == 0) ≡ t → Leaving c n i ways
    by_case true e = free (eqb-true (way_at ways i).stamp 0 e)
    by_case false e = full (eqb-false (way_at ways i).stamp 0 e)

pub lines_of_miss : (c : CacheConfig) (n b i : ℕ) (write : Bool) (ways : List Way) → IsSoundSet c n ways → IsPlace b ways None → LeastAt i ways
    → newest_first (suc n) (set ways i (entered b write (suc n))) ≡ (touched c (newest_first n ways) b write).lines
lines_of_miss c n b i write ways sound none at =
    restamped n ways sound.apart sound.stamps i (entered b write (suc n)) at.inside refl
    ∙ (ap (λ ls. entering b write ∷ ls) (leaving c n i ways sound at).rest
    ∙ sym (lines-miss c (newest_first n ways) b write (not_found b n ways none)))

pub touch_of_miss : (c : CacheConfig) (n b i : ℕ) (write : Bool) (ways : List Way) → IsSoundSet c n ways → IsPlace b ways None → LeastAt i ways
    → ◌≡◌ {A = Touch} (record { hit = false; victim = told_of c (way_at ways i) }) (touched c (newest_first n ways) b write).touch
unfolding touched
touch_of_miss c n b i write ways sound none at = rw (not_found b n ways none, (leaving c n i ways sound at).told) refl

pub miss_sound : (c : CacheConfig) (n b i : ℕ) (write : Bool) (ways : List Way) → IsSoundSet c n ways → IsPlace b ways None → i < length ways → b * c.block < 2 ^ 32
    → IsSoundSet c (suc n) (set ways i (entered b write (suc n)))
miss_sound c n b i write ways sound none h space =
    changed_sound c n i ways (entered b write (suc n)) sound h (omega arith) space (latest_fresh n ways sound.stamps i (entered b write (suc n)) refl)
    (λ j lt ne some tag. other j (none j lt) some tag)
  where
    other : (j : ℕ) → holds b (way_at ways j) ≡ false → 0 < (way_at ways j).stamp → (way_at ways j).tag ≡ b → ⊥
    other j none some tag =
        let same : ((way_at ways j).tag == b) ≡ true = eq-eqb (way_at ways j).tag b tag in
        let held : ((way_at ways j).stamp == 0) ≡ false = ne_eqb (way_at ways j).stamp 0 (λ z. absurd (omega arith)) in
        both_ways (holds b (way_at ways j)) none (rw (same, held) refl)

-- ---- a fill

pub lines_of_fill : (c : CacheConfig) (n b i end : ℕ) (ways : List Way) → IsSoundSet c n ways → IsPlace b ways (Some i)
    → newest_first n (set ways i (ended end (way_at ways i))) ≡ changed b (ending_at end) (newest_first n ways)
lines_of_fill c n b i end ways sound e =
    let at = found_place b i ways e in
    restated n ways sound.apart i (ended end (way_at ways i)) at.inside at.held refl ∙ sym ((found_here c n b i ways sound at).changed (ending_at end))

pub fill_sound : (c : CacheConfig) (n b i end : ℕ) (ways : List Way) → IsSoundSet c n ways → IsPlace b ways (Some i) → IsSoundSet c n (set ways i (ended end (way_at ways i)))
fill_sound c n b i end ways sound e =
    let at = found_place b i ways e in
    let v = ended end (way_at ways i) in
    record {
      number = length-set ways i v ∙ sound.number;
      stamps = All-set (λ w. w.stamp ≤ n) ways i v (sound.stamps i unused at.inside) sound.stamps;
      space = All-set (λ w. w.tag * c.block < 2 ^ 32) ways i v (sound.space i unused at.inside) sound.space;
      apart =
          apart-set ways sound.apart i v at.inside (λ j lt ne q. ne (sym (sound.apart.stamps i j at.inside lt at.held (sym q))))
          (λ j lt ne some q. ne (sym (sound.apart.tags i j at.inside lt at.held some (sym q))));
    }

changed_none : (b : ℕ) (f : Line → Line) (lines : List Line) → find_line b lines ≡ None → changed b f lines ≡ lines
changed_none b f [] e = refl
changed_none b f (l ∷ lines) e = by_case (l.block == b) (changed_none b f lines) e
  where
    by_case : (t : Bool) → (find_line b lines ≡ None → changed b f lines ≡ lines) → cond t (Some l) (find_line b lines) ≡ None
        → cond t (f l ∷ lines) (l ∷ changed b f lines) ≡ l ∷ lines
    by_case true ih e = absurd cc
    by_case false ih e = ap (λ ls. l ∷ ls) (ih e)

pub lines_unfilled : (n b end : ℕ) (ways : List Way) → IsPlace b ways None → newest_first n ways ≡ changed b (ending_at end) (newest_first n ways)
lines_unfilled n b end ways none = sym (changed_none b (ending_at end) (newest_first n ways) (not_found b n ways none))

pub fill_end_held : (c : CacheConfig) (n b i : ℕ) (ways : List Way) → IsSoundSet c n ways → IsPlace b ways (Some i)
    → (way_at ways i).fill_end ≡ option_map_or (λ l. l.fill_end) (find_line b (newest_first n ways)) 0
fill_end_held c n b i ways sound e =
    ap (λ o. option_map_or (λ (l : Line). l.fill_end) o 0) (sym (found_here c n b i ways sound (found_place b i ways e)).find)

pub fill_end_none : (n b : ℕ) (ways : List Way) → IsPlace b ways None → 0 ≡ option_map_or (λ l. l.fill_end) (find_line b (newest_first n ways)) 0
fill_end_none n b ways none = ap (λ o. option_map_or (λ (l : Line). l.fill_end) o 0) (sym (not_found b n ways none))

-- ---- a settling

stamped-settled : (ways : List Way) (m : ℕ) → stamped (map (ended 0) ways) m ≡ map (ending_at 0) (stamped ways m)
stamped-settled [] m = refl
stamped-settled (w ∷ ways) m = by_case (w.stamp == m) (stamped-settled ways m)
  where
    by_case : (t : Bool) → stamped (map (ended 0) ways) m ≡ map (ending_at 0) (stamped ways m)
        → map line_of (cond t (ended 0 w ∷ filter (has_stamp m) (map (ended 0) ways)) (filter (has_stamp m) (map (ended 0) ways)))
        ≡ map (ending_at 0) (map line_of (cond t (w ∷ filter (has_stamp m) ways) (filter (has_stamp m) ways)))
    by_case true ih = ap (λ ls. ending_at 0 (line_of w) ∷ ls) ih
    by_case false ih = ih

pub lines_of_settling : (n : ℕ) (ways : List Way) → newest_first n (map (ended 0) ways) ≡ map (ending_at 0) (newest_first n ways)
lines_of_settling n ways =
    latest-same n (stamped (map (ended 0) ways)) (λ m. map (ending_at 0) (stamped ways m)) (λ m p q. stamped-settled ways m) ∙ sym (latest-map (ending_at 0) n (stamped ways))

way_at-settled : (ways : List Way) (i : ℕ) → way_at (map (ended 0) ways) i ≡ ended 0 (way_at ways i)
way_at-settled ways i = get_or-map (ended 0) ways i unused

pub settling_sound : (c : CacheConfig) (n : ℕ) (ways : List Way) → IsSoundSet c n ways → IsSoundSet c n (map (ended 0) ways)
settling_sound c n ways sound =
    record {
      number = length-map ways (ended 0) ∙ sound.number;
      stamps = All-map (λ (w : Way). w.stamp ≤ n) (ended 0) ways sound.stamps;
      space = All-map (λ (w : Way). w.tag * c.block < 2 ^ 32) (ended 0) ways sound.space;
      apart = record { stamps = stamps; tags = tags };
    }
  where
    stamp : (i : ℕ) → (way_at (map (ended 0) ways) i).stamp ≡ (way_at ways i).stamp
    stamp i = ap (λ (w : Way). w.stamp) (way_at-settled ways i)

    tag : (i : ℕ) → (way_at (map (ended 0) ways) i).tag ≡ (way_at ways i).tag
    tag i = ap (λ (w : Way). w.tag) (way_at-settled ways i)

    stamps : (i j : ℕ) → i < length (map (ended 0) ways) → j < length (map (ended 0) ways) → 0 < (way_at (map (ended 0) ways) i).stamp
        → (way_at (map (ended 0) ways) i).stamp ≡ (way_at (map (ended 0) ways) j).stamp → i ≡ j
    stamps i j a b some e =
        sound.apart.stamps i j (omega (arith, length-map ways (ended 0))) (omega (arith, length-map ways (ended 0))) (omega (arith, stamp i)) (sym (stamp i) ∙ (e ∙ stamp j))

    tags : (i j : ℕ) → i < length (map (ended 0) ways) → j < length (map (ended 0) ways) → 0 < (way_at (map (ended 0) ways) i).stamp → 0 < (way_at (map (ended 0) ways) j).stamp
        → (way_at (map (ended 0) ways) i).tag ≡ (way_at (map (ended 0) ways) j).tag → i ≡ j
    tags i j a b some some' e =
        sound.apart.tags i j (omega (arith, length-map ways (ended 0))) (omega (arith, length-map ways (ended 0))) (omega (arith, stamp i)) (omega (arith, stamp j))
        (sym (tag i) ∙ (e ∙ tag j))

-- a set stays sound through the accesses of others
pub sound_later : (c : CacheConfig) (n : ℕ) (ways : List Way) → IsSoundSet c n ways → IsSoundSet c (n + 1) ways
sound_later c n ways sound =
    record {
      number = sound.number;
      stamps = All-weaker (λ w. w.stamp ≤ n) (λ w. w.stamp ≤ n + 1) (λ w q. omega arith) ways sound.stamps;
      space = sound.space;
      apart = sound.apart;
    }

pub lines_later : (c : CacheConfig) (n : ℕ) (ways : List Way) → IsSoundSet c n ways → newest_first (n + 1) ways ≡ newest_first n ways
lines_later c n ways sound = ap (λ k. newest_first k ways) (add-one n) ∙ no_later n ways sound.stamps
