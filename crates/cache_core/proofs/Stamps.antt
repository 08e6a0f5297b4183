-- What a change of one way does to the lines that a set's ways stand for.
use Rattle.std.proofs.Common.{◌≡◌, ◌≢◌, ℕ, zero, suc, ◌+◌, ◌<◌, ◌≤◌, Bool, true, false, cond, List, [], ◌∷◌, ◌++◌, length, set, map, None, ◌⊎◌, inl, inr, refl, sym, ◌∙◌, ap, arith, length-set, get_or-set_same, get_or-set_other, length-append}
use Rattle.std.specs.Prelude.{All, ◌==◌, filter}
use Rattle.std.proofs.lemmas.Bool.{eqb-true, eqb-false, eq-eqb, ne_eqb, both_ways}
use Rattle.std.proofs.lemmas.List.Elements.{All-tail}
use Rattle.cache_core.specs.declared.ways.Way.{Way}
use Rattle.cache_core.specs.Replay.{find_line}
use Rattle.cache_core.specs.Ways.{unused, way_at, holds, line_of, from_latest, stamped, newest_first, AreApart}
use Rattle.cache_core.proofs.Lines.{find_line-tail}
use Rattle.cache_core.proofs.Latest.{replaced, replaced-same, replaced-other, latest-same, latest-empty, latest-first, latest-none, FoundAt, found_at}

abbrev pub has_stamp : ℕ → Way → Bool
has_stamp n w = w.stamp == n

-- ---- the ways that pass a test

filter-none : (p : Way → Bool) (ways : List Way) → ((j : ℕ) → j < length ways → p (way_at ways j) ≡ false) → filter p ways ≡ []
filter-none p [] h = refl
filter-none p (w ∷ ways) h = rw (h 0 (omega arith)) (filter-none p ways (λ j lt. h (suc j) (omega arith)))

filter-only : (p : Way → Bool) (ways : List Way) (i : ℕ) → i < length ways → p (way_at ways i) ≡ true → ((j : ℕ) → j < length ways → p (way_at ways j) ≡ true → i ≡ j)
    → filter p ways ≡ way_at ways i ∷ []
filter-only p [] i h e only = absurd (omega arith)
filter-only p (w ∷ ways) zero h e only = rw e (ap (λ ws. w ∷ ws) (filter-none p ways no_other))
  where
    no_other : (j : ℕ) → j < length ways → p (way_at ways j) ≡ false
    no_other j lt = by_case (p (way_at ways j)) refl
      where
        by_case : (t : Bool) → p (way_at ways j) ≡ t → t ≡ false
        by_case true t = let i : 0 ≡ suc j = only (suc j) (omega arith) t in absurd (omega arith)
        by_case false t = refl
filter-only p (w ∷ ways) (suc i) h e only =
    by_case (p w) refl (filter-only p ways i (omega arith) e (λ j lt q. let same : suc i ≡ suc j = only (suc j) (omega arith) q in omega arith))
  where
    by_case : (t : Bool) → p w ≡ t → filter p ways ≡ way_at ways i ∷ [] → cond t (w ∷ filter p ways) (filter p ways) ≡ way_at ways i ∷ []
    by_case true t ih = let same : suc i ≡ 0 = only 0 (omega arith) t in absurd (omega arith)
    by_case false t ih = ih

filter-set : (p : Way → Bool) (ways : List Way) (i : ℕ) (v : Way) → i < length ways → p (way_at ways i) ≡ false → p v ≡ false → filter p (set ways i v) ≡ filter p ways
filter-set p [] i v h was is = absurd (omega arith)
filter-set p (w ∷ ways) zero v h was is = rw (was, is) refl
filter-set p (w ∷ ways) (suc i) v h was is = ap (λ ws. cond (p w) (w ∷ ws) ws) (filter-set p ways i v (omega arith) was is)

find-none : (b : ℕ) (p : Way → Bool) (ways : List Way) → ((j : ℕ) → j < length ways → p (way_at ways j) ≡ true → (way_at ways j).tag ≢ b) → find_line b (map line_of (filter p ways)) ≡ None
find-none b p [] h = refl
find-none b p (w ∷ ways) h = by_case (p w) refl (find-none b p ways (λ j lt. h (suc j) (omega arith)))
  where
    by_case : (t : Bool) → p w ≡ t → find_line b (map line_of (filter p ways)) ≡ None → find_line b (map line_of (cond t (w ∷ filter p ways) (filter p ways))) ≡ None
    by_case true t rest = find_line-tail b (line_of w) (map line_of (filter p ways)) (h 0 (omega arith) t) ∙ rest
    by_case false t rest = rest

-- ---- the lines of one stamp

-- what stands at a place after the way i has become v
abbrev SetAt : List Way → ℕ → Way → ℕ → Type 0
SetAt ways i v j = ((j ≡ i) × (way_at (set ways i v) j ≡ v)) ⊎ ((j ≢ i) × (way_at (set ways i v) j ≡ way_at ways j))

set_at : (ways : List Way) (i : ℕ) (v : Way) → i < length ways → (j : ℕ) → SetAt ways i v j
set_at ways i v h j = by_case (j == i) refl
  where
    by_case : (t : Bool) → (j == i) ≡ t → SetAt ways i v j
    by_case true e = let is : j ≡ i = eqb-true j i e in inl (is, ap (way_at (set ways i v)) is ∙ get_or-set_same ways i v unused h)
    by_case false e = let ne : j ≢ i = eqb-false j i e in inr (ne, get_or-set_other ways i j v unused ne)

has : (n : ℕ) (w : Way) → has_stamp n w ≡ true → w.stamp ≡ n
has n w e = eqb-true w.stamp n e

has_not : (n : ℕ) (w : Way) → w.stamp ≢ n → has_stamp n w ≡ false
has_not n w ne = ne_eqb w.stamp n ne

pub stamped-own : (ways : List Way) → AreApart ways → (i : ℕ) → i < length ways → 0 < (way_at ways i).stamp → stamped ways (way_at ways i).stamp ≡ line_of (way_at ways i) ∷ []
stamped-own ways apart i h some =
    let n = (way_at ways i).stamp in
    ap (map line_of) (filter-only (has_stamp n) ways i h (eq-eqb n n refl) (λ j lt e. apart.stamps i j h lt some (sym (has n (way_at ways j) e))))

pub stamped-absent : (ways : List Way) (n : ℕ) → ((j : ℕ) → j < length ways → (way_at ways j).stamp ≢ n) → stamped ways n ≡ []
stamped-absent ways n h = ap (map line_of) (filter-none (has_stamp n) ways (λ j lt. has_not n (way_at ways j) (h j lt)))

pub stamped-other : (ways : List Way) → AreApart ways → (i : ℕ) → i < length ways → 0 < (way_at ways i).stamp → (m : ℕ) → 0 < m → m ≢ (way_at ways i).stamp → find_line (way_at ways i).tag (stamped ways m) ≡ None
stamped-other ways apart i h some m pos ne = find-none (way_at ways i).tag (has_stamp m) ways differs
  where
    differs : (j : ℕ) → j < length ways → has_stamp m (way_at ways j) ≡ true → (way_at ways j).tag ≢ (way_at ways i).tag
    differs j lt e tag =
        let is : (way_at ways j).stamp ≡ m = has m (way_at ways j) e in
        let same : i ≡ j = apart.tags i j h lt some (omega arith) (sym tag) in
        ne (sym is ∙ ap (λ k. (way_at ways k).stamp) (sym same))

stamped-set : (ways : List Way) (i : ℕ) (v : Way) → i < length ways → (m : ℕ) → m ≢ (way_at ways i).stamp → m ≢ v.stamp → stamped (set ways i v) m ≡ stamped ways m
stamped-set ways i v h m was is =
    ap (map line_of) (filter-set (has_stamp m) ways i v h (has_not m (way_at ways i) (λ e. was (sym e))) (has_not m v (λ e. is (sym e))))

-- the stamp of v is that of no way but i
abbrev pub IsFresh : List Way → ℕ → Way → Type 0
IsFresh ways i v = (j : ℕ) → j < length ways → j ≢ i → (way_at ways j).stamp ≢ v.stamp

-- the tag of v is that of no way but i
abbrev pub IsNew : List Way → ℕ → Way → Type 0
IsNew ways i v = (j : ℕ) → j < length ways → j ≢ i → 0 < (way_at ways j).stamp → (way_at ways j).tag ≢ v.tag

set_own : (ways : List Way) (i : ℕ) (v : Way) → i < length ways → IsFresh ways i v → stamped (set ways i v) v.stamp ≡ line_of v ∷ []
set_own ways i v h fresh =
    let here : way_at (set ways i v) i ≡ v = get_or-set_same ways i v unused h in
    ap (map line_of) (filter-only (has_stamp v.stamp) (set ways i v) i (omega (arith, length-set ways i v)) (ap (has_stamp v.stamp) here ∙ eq-eqb v.stamp v.stamp refl) only)
    ∙ ap (λ w. line_of w ∷ []) here
  where
    only : (j : ℕ) → j < length (set ways i v) → has_stamp v.stamp (way_at (set ways i v) j) ≡ true → i ≡ j
    only j lt e = by_place (set_at ways i v h j)
      where
        by_place : SetAt ways i v j → i ≡ j
        by_place (inl (is, w)) = sym is
        by_place (inr (ne, w)) =
            absurd (fresh j (omega (arith, length-set ways i v)) ne (ap (λ (x : Way). x.stamp) (sym w) ∙ has v.stamp (way_at (set ways i v) j) e))

set_was : (ways : List Way) → AreApart ways → (i : ℕ) (v : Way) → i < length ways → 0 < (way_at ways i).stamp → (way_at ways i).stamp ≢ v.stamp → stamped (set ways i v) (way_at ways i).stamp ≡ []
set_was ways apart i v h some ne = stamped-absent (set ways i v) (way_at ways i).stamp differs
  where
    differs : (j : ℕ) → j < length (set ways i v) → (way_at (set ways i v) j).stamp ≢ (way_at ways i).stamp
    differs j lt e = by_place (set_at ways i v h j)
      where
        by_place : SetAt ways i v j → ⊥
        by_place (inl (is, w)) = ne (sym e ∙ ap (λ (x : Way). x.stamp) w)
        by_place (inr (other, w)) =
            other (sym (apart.stamps i j h (omega (arith, length-set ways i v)) some (sym e ∙ ap (λ (x : Way). x.stamp) w)))

-- the way i gets the latest stamp
pub restamped : (n : ℕ) (ways : List Way) → AreApart ways → All (λ w. w.stamp ≤ n) ways → (i : ℕ) (v : Way) → i < length ways → v.stamp ≡ suc n
    → newest_first (suc n) (set ways i v) ≡ line_of v ∷ from_latest (replaced (stamped ways) (way_at ways i).stamp []) n
restamped n ways apart most i v h e =
    latest-first n (stamped (set ways i v))
    ∙ (ap (λ ls. ls ++ from_latest (stamped (set ways i v)) n) (ap (stamped (set ways i v)) (sym e) ∙ set_own ways i v h fresh)
    ∙ ap (λ ls. line_of v ∷ ls) (latest-same n (stamped (set ways i v)) (replaced (stamped ways) (way_at ways i).stamp []) each))
  where
    fresh : IsFresh ways i v
    fresh j lt ne is = let le : (way_at ways j).stamp ≤ n = most j unused lt in absurd (omega arith)

    each : (m : ℕ) → 0 < m → m ≤ n → stamped (set ways i v) m ≡ replaced (stamped ways) (way_at ways i).stamp [] m
    each m pos le = by_case (m == (way_at ways i).stamp) refl
      where
        by_case : (t : Bool) → (m == (way_at ways i).stamp) ≡ t → stamped (set ways i v) m ≡ replaced (stamped ways) (way_at ways i).stamp [] m
        by_case true q =
            let is : m ≡ (way_at ways i).stamp = eqb-true m (way_at ways i).stamp q in
            ap (stamped (set ways i v)) is ∙ (set_was ways apart i v h (omega arith) (λ s. absurd (omega arith)) ∙ sym (replaced-same (stamped ways) (way_at ways i).stamp [] m is))
        by_case false q =
            let ne : m ≢ (way_at ways i).stamp = eqb-false m (way_at ways i).stamp q in
            stamped-set ways i v h m ne (λ s. absurd (omega arith)) ∙ sym (replaced-other (stamped ways) (way_at ways i).stamp [] m ne)

-- the way i keeps its stamp
pub restated : (n : ℕ) (ways : List Way) → AreApart ways → (i : ℕ) (v : Way) → i < length ways → 0 < (way_at ways i).stamp → v.stamp ≡ (way_at ways i).stamp
    → newest_first n (set ways i v) ≡ from_latest (replaced (stamped ways) (way_at ways i).stamp (line_of v ∷ [])) n
restated n ways apart i v h some e = latest-same n (stamped (set ways i v)) (replaced (stamped ways) (way_at ways i).stamp (line_of v ∷ [])) each
  where
    fresh : IsFresh ways i v
    fresh j lt ne is = ne (sym (apart.stamps i j h lt some (sym e ∙ sym is)))

    each : (m : ℕ) → 0 < m → m ≤ n → stamped (set ways i v) m ≡ replaced (stamped ways) (way_at ways i).stamp (line_of v ∷ []) m
    each m pos le = by_case (m == (way_at ways i).stamp) refl
      where
        by_case : (t : Bool) → (m == (way_at ways i).stamp) ≡ t → stamped (set ways i v) m ≡ replaced (stamped ways) (way_at ways i).stamp (line_of v ∷ []) m
        by_case true q =
            let is : m ≡ (way_at ways i).stamp = eqb-true m (way_at ways i).stamp q in
            ap (stamped (set ways i v)) (is ∙ sym e) ∙ (set_own ways i v h fresh ∙ sym (replaced-same (stamped ways) (way_at ways i).stamp (line_of v ∷ []) m is))
        by_case false q =
            let ne : m ≢ (way_at ways i).stamp = eqb-false m (way_at ways i).stamp q in
            stamped-set ways i v h m ne (λ s. ne (s ∙ e)) ∙ sym (replaced-other (stamped ways) (way_at ways i).stamp (line_of v ∷ []) m ne)

-- a further access that renews no stamp of the set leaves its lines
pub no_later : (n : ℕ) (ways : List Way) → All (λ w. w.stamp ≤ n) ways → newest_first (suc n) ways ≡ newest_first n ways
no_later n ways most =
    latest-first n (stamped ways)
    ∙ ap (λ ls. ls ++ from_latest (stamped ways) n) (stamped-absent ways (suc n) (λ j lt e. let le : (way_at ways j).stamp ≤ n = most j unused lt in absurd (omega arith)))

-- ---- a block that a way holds

pub found : (n : ℕ) (ways : List Way) → AreApart ways → All (λ w. w.stamp ≤ n) ways → (i : ℕ) → i < length ways → 0 < (way_at ways i).stamp
    → FoundAt (way_at ways i).tag (way_at ways i).stamp n (stamped ways) (line_of (way_at ways i))
found n ways apart most i h some =
    found_at (way_at ways i).tag (way_at ways i).stamp (stamped ways) (line_of (way_at ways i)) (stamped-own ways apart i h some) refl (stamped-other ways apart i h some) n some (most i unused h)

pub not_found : (b n : ℕ) (ways : List Way) → ((j : ℕ) → j < length ways → holds b (way_at ways j) ≡ false) → find_line b (newest_first n ways) ≡ None
not_found b n ways h = latest-none b n (stamped ways) (λ m pos. find-none b (has_stamp m) ways (λ j lt e tag. differs j (h j lt) (has m (way_at ways j) e) pos tag))
  where
    differs : (j : ℕ) → holds b (way_at ways j) ≡ false → {m : ℕ} → (way_at ways j).stamp ≡ m → 0 < m → (way_at ways j).tag ≢ b
    differs j none e pos tag =
        let same : ((way_at ways j).tag == b) ≡ true = eq-eqb (way_at ways j).tag b tag in
        let some : ((way_at ways j).stamp == 0) ≡ false = ne_eqb (way_at ways j).stamp 0 (λ z. absurd (omega arith)) in
        both_ways (holds b (way_at ways j)) none (rw (same, some) refl)

-- ---- how many lines there are

behind_unheld : (n : ℕ) (w : Way) (ways : List Way) → ((m : ℕ) → 0 < m → m ≤ n → w.stamp ≢ m) → newest_first n (w ∷ ways) ≡ newest_first n ways
behind_unheld n w ways h = latest-same n (stamped (w ∷ ways)) (stamped ways) (λ m p q. ap (λ t. map line_of (cond t (w ∷ filter (has_stamp m) ways) (filter (has_stamp m) ways))) (has_not m w (h m p q)))

longer : (n : ℕ) (w : Way) (ways : List Way) → 0 < w.stamp → w.stamp ≤ n → length (newest_first n (w ∷ ways)) ≡ suc (length (newest_first n ways))
longer zero w ways p q = absurd (omega arith)
longer (suc n) w ways p q = by_case (w.stamp == suc n) refl (λ le. longer n w ways p le)
  where
    both : length (newest_first (suc n) (w ∷ ways)) ≡ length (stamped (w ∷ ways) (suc n)) + length (newest_first n (w ∷ ways))
    both = ap length (latest-first n (stamped (w ∷ ways))) ∙ length-append (stamped (w ∷ ways) (suc n)) (newest_first n (w ∷ ways))

    rest : length (newest_first (suc n) ways) ≡ length (stamped ways (suc n)) + length (newest_first n ways)
    rest = ap length (latest-first n (stamped ways)) ∙ length-append (stamped ways (suc n)) (newest_first n ways)

    one_more : (t : Bool) → has_stamp (suc n) w ≡ t → length (stamped (w ∷ ways) (suc n)) ≡ cond t (suc (length (stamped ways (suc n)))) (length (stamped ways (suc n)))
    one_more true e = rw e refl
    one_more false e = rw e refl

    by_case : (t : Bool) → has_stamp (suc n) w ≡ t → (w.stamp ≤ n → length (newest_first n (w ∷ ways)) ≡ suc (length (newest_first n ways)))
        → length (newest_first (suc n) (w ∷ ways)) ≡ suc (length (newest_first (suc n) ways))
    by_case true e shorter =
        let is : w.stamp ≡ suc n = has (suc n) w e in
        let same : length (newest_first n (w ∷ ways)) ≡ length (newest_first n ways) = ap length (behind_unheld n w ways (λ m a b s. absurd (omega arith))) in
        let more : length (stamped (w ∷ ways) (suc n)) ≡ suc (length (stamped ways (suc n))) = one_more true e in
        omega (arith, both, rest)
    by_case false e shorter =
        let ne : w.stamp ≢ suc n = eqb-false w.stamp (suc n) e in
        let ih : length (newest_first n (w ∷ ways)) ≡ suc (length (newest_first n ways)) = shorter (omega arith) in
        let same : length (stamped (w ∷ ways) (suc n)) ≡ length (stamped ways (suc n)) = one_more false e in
        omega (arith, both, rest)

pub length-full : (n : ℕ) (ways : List Way) → All (λ w. w.stamp ≤ n) ways → ((j : ℕ) → j < length ways → 0 < (way_at ways j).stamp) → length (newest_first n ways) ≡ length ways
length-full n [] most full = ap length (latest-empty n (stamped []) (λ m p q. refl))
length-full n (w ∷ ways) most full =
    longer n w ways (full 0 (omega arith)) (most 0 unused (omega arith))
    ∙ ap suc (length-full n ways (All-tail (λ x. x.stamp ≤ n) w ways most) (λ j lt. full (suc j) (omega arith)))

pub length-most : (n : ℕ) (ways : List Way) → All (λ w. w.stamp ≤ n) ways → length (newest_first n ways) ≤ length ways
length-most n [] most = omega (arith, ap length (latest-empty n (stamped []) (λ m p q. refl)))
length-most n (w ∷ ways) most = by_case (w.stamp == 0) refl (length-most n ways (All-tail (λ x. x.stamp ≤ n) w ways most))
  where
    by_case : (t : Bool) → (w.stamp == 0) ≡ t → length (newest_first n ways) ≤ length ways → length (newest_first n (w ∷ ways)) ≤ suc (length ways)
    by_case true e ih =
        let is : w.stamp ≡ 0 = eqb-true w.stamp 0 e in
        let same : length (newest_first n (w ∷ ways)) ≡ length (newest_first n ways) = ap length (behind_unheld n w ways (λ m a b s. absurd (omega arith))) in
        omega arith
    by_case false e ih =
        let ne : w.stamp ≢ 0 = eqb-false w.stamp 0 e in
        let le : w.stamp ≤ n = most 0 unused (omega arith) in
        let more = longer n w ways (omega arith) le in
        omega arith

pub length-free : (n : ℕ) (ways : List Way) → All (λ w. w.stamp ≤ n) ways → (i : ℕ) → i < length ways → (way_at ways i).stamp ≡ 0 → length (newest_first n ways) < length ways
length-free n [] most i h free = absurd (omega arith)
length-free n (w ∷ ways) most zero h free =
    let same : length (newest_first n (w ∷ ways)) ≡ length (newest_first n ways) = ap length (behind_unheld n w ways (λ m a b s. absurd (omega arith))) in
    let le = length-most n ways (All-tail (λ x. x.stamp ≤ n) w ways most) in
    omega arith
length-free n (w ∷ ways) most (suc i) h free = by_case (w.stamp == 0) refl (length-free n ways (All-tail (λ x. x.stamp ≤ n) w ways most) i (omega arith) free)
  where
    by_case : (t : Bool) → (w.stamp == 0) ≡ t → length (newest_first n ways) < length ways → length (newest_first n (w ∷ ways)) < suc (length ways)
    by_case true e ih =
        let is : w.stamp ≡ 0 = eqb-true w.stamp 0 e in
        let same : length (newest_first n (w ∷ ways)) ≡ length (newest_first n ways) = ap length (behind_unheld n w ways (λ m a b s. absurd (omega arith))) in
        omega arith
    by_case false e ih =
        let ne : w.stamp ≢ 0 = eqb-false w.stamp 0 e in
        let le : w.stamp ≤ n = most 0 unused (omega arith) in
        let more = longer n w ways (omega arith) le in
        omega arith

-- ---- soundness

pub apart-set : (ways : List Way) → AreApart ways → (i : ℕ) (v : Way) → i < length ways → IsFresh ways i v → IsNew ways i v → AreApart (set ways i v)
apart-set ways apart i v h fresh new = record { stamps = stamps; tags = tags }
  where
    size : length (set ways i v) ≡ length ways
    size = length-set ways i v

    stamps : (j k : ℕ) → j < length (set ways i v) → k < length (set ways i v) → 0 < (way_at (set ways i v) j).stamp → (way_at (set ways i v) j).stamp ≡ (way_at (set ways i v) k).stamp → j ≡ k
    stamps j k a b some e = by_place (set_at ways i v h j) (set_at ways i v h k)
      where
        by_place : SetAt ways i v j → SetAt ways i v k → j ≡ k
        by_place (inl (is, w)) (inl (is', w')) = is ∙ sym is'
        by_place (inl (is, w)) (inr (ne, w')) =
            absurd (fresh k (omega (arith, size)) ne (ap (λ (x : Way). x.stamp) (sym w') ∙ (sym e ∙ ap (λ (x : Way). x.stamp) w)))
        by_place (inr (ne, w)) (inl (is', w')) =
            absurd (fresh j (omega (arith, size)) ne (ap (λ (x : Way). x.stamp) (sym w) ∙ (e ∙ ap (λ (x : Way). x.stamp) w')))
        by_place (inr (ne, w)) (inr (ne', w')) =
            apart.stamps j k (omega (arith, size)) (omega (arith, size)) (omega (arith, ap (λ (x : Way). x.stamp) w)) (ap (λ (x : Way). x.stamp) (sym w) ∙ (e ∙ ap (λ (x : Way). x.stamp) w'))

    tags : (j k : ℕ) → j < length (set ways i v) → k < length (set ways i v) → 0 < (way_at (set ways i v) j).stamp → 0 < (way_at (set ways i v) k).stamp
        → (way_at (set ways i v) j).tag ≡ (way_at (set ways i v) k).tag → j ≡ k
    tags j k a b some some' e = by_place (set_at ways i v h j) (set_at ways i v h k)
      where
        by_place : SetAt ways i v j → SetAt ways i v k → j ≡ k
        by_place (inl (is, w)) (inl (is', w')) = is ∙ sym is'
        by_place (inl (is, w)) (inr (ne, w')) =
            absurd (new k (omega (arith, size)) ne (omega (arith, ap (λ (x : Way). x.stamp) w')) (ap (λ (x : Way). x.tag) (sym w') ∙ (sym e ∙ ap (λ (x : Way). x.tag) w)))
        by_place (inr (ne, w)) (inl (is', w')) =
            absurd (new j (omega (arith, size)) ne (omega (arith, ap (λ (x : Way). x.stamp) w)) (ap (λ (x : Way). x.tag) (sym w) ∙ (e ∙ ap (λ (x : Way). x.tag) w')))
        by_place (inr (ne, w)) (inr (ne', w')) =
            apart.tags j k (omega (arith, size)) (omega (arith, size)) (omega (arith, ap (λ (x : Way). x.stamp) w)) (omega (arith, ap (λ (x : Way). x.stamp) w'))
            (ap (λ (x : Way). x.tag) (sym w) ∙ (e ∙ ap (λ (x : Way). x.tag) w'))
