-- The ways of one set among those of all.
use Rattle.std.proofs.Common.{◌≡◌, ◌≢◌, ℕ, zero, suc, ◌+◌, ◌-◌, ◌*◌, ◌^◌, ◌<◌, ◌≤◌, Bool, true, false, List, [], ◌∷◌, ◌++◌, length, set, take, drop, map, replicate, ◌⊎◌, inl, inr, refl, sym, ◌∙◌, ap, subst, arith, length-append, length-take, length-drop}
use Rattle.std.specs.Prelude.{All, ◌==◌}
use Rattle.std.proofs.lemmas.Bool.{cases_lt, eqb-true, eqb-false}
use Rattle.std.proofs.lemmas.Nat.{row_fits}
use Rattle.std.proofs.lemmas.List.{take_all, drop_all, append-nil, take-map, drop-take, get_or_default, length-map, length-replicate, length-take-le}
use Rattle.std.proofs.lemmas.List.Edits.{map_over_more}
use Rattle.std.proofs.lemmas.List.Elements.{All-take, All-drop, All-replicate, All-weaker}
use Rattle.std.proofs.lemmas.Slice.{between-put_mid, drop-put_mid, take-put_mid_below}
use borrow.Rule.Slice.PartMut.{put_mid, post_of}
use Rattle.cache_core.specs.declared.config.CacheConfig.{CacheConfig}
use Rattle.cache_core.specs.declared.answers.Counts.{Counts}
use Rattle.cache_core.specs.declared.ways.Way.{Way}
use Rattle.cache_core.specs.Limits.{IsWithinLimits}
use Rattle.cache_core.specs.Replay.{Line, ending_at}
use Rattle.cache_core.specs.Stands.{IsBalanced}
use Rattle.cache_core.specs.Ways.{unused, way_at, ended, newest_first, IsSoundSet, ways_of}
use Rattle.cache_core.specs.Sound.{Fields, lines_in, IsSound}
use Rattle.cache_core.proofs.Accesses.{lines_of_settling, settling_sound, sound_later, lines_later}
use Rattle.cache_core.proofs.Replays.{SetBecomes}

-- what a write through a part of a Vec leaves of it
pub all_written : {X : Type 0} (n : ℕ) (new old : List X) → n ≡ length old → length new ≡ length old → take n (new ++ drop (length new) old) ≡ new
all_written n new old e same =
    let none : length old ≤ length new = omega arith in
    let all : length new ≤ n = omega arith in
    rw (drop_all (length new) old none, append-nil new) (take_all n new all)

-- the ways of set k are these now, and those of all other sets as they were
pub record Written (c : CacheConfig) (old new : List Way) (k : ℕ) (ways : List Way) : Type 0 where
  pub number : length new ≡ length old
  pub own : ways_of c new k ≡ ways
  pub others : (j : ℕ) → j ≢ k → ways_of c new j ≡ ways_of c old j

module _ (c : CacheConfig) (old ways : List Way) (k : ℕ) (number : length old ≡ c.sets * c.ways) (below : k < c.sets) (size : length ways ≡ c.ways) where
  fits : k * c.ways + c.ways ≤ length old
  fits = omega (arith, row_fits k c.ways c.sets c.ways below (omega arith))

  before : (j : ℕ) → j < k → ways_of c (put_mid (k * c.ways) c.ways old ways) j ≡ ways_of c old j
  before j lt =
      let end : j * c.ways + c.ways ≤ k * c.ways = row_fits j c.ways k c.ways lt (omega arith) in
      sym (drop-take (j * c.ways) c.ways (put_mid (k * c.ways) c.ways old ways))
      ∙ (ap (drop (j * c.ways)) (take-put_mid_below (k * c.ways) c.ways old ways (j * c.ways + c.ways) end (omega (arith, fits)))
      ∙ drop-take (j * c.ways) c.ways old)

  behind : (j : ℕ) → k < j → ways_of c (put_mid (k * c.ways) c.ways old ways) j ≡ ways_of c old j
  behind j lt =
      let start : k * c.ways + c.ways ≤ j * c.ways = row_fits k c.ways j c.ways lt (omega arith) in
      ap (take c.ways) (drop-put_mid (k * c.ways) c.ways old ways (j * c.ways) start (omega (arith, fits)) size)

  pub written_part : Written c old (put_mid (k * c.ways) c.ways old ways) k ways
  written_part =
      record {
        number =
            omega (
              arith,
              fits,
              size,
              length-append (take (k * c.ways) old) (ways ++ post_of (k * c.ways) c.ways old),
              length-append ways (post_of (k * c.ways) c.ways old),
              length-take (k * c.ways) old,
              length-drop c.ways (drop (k * c.ways) old),
              length-drop (k * c.ways) old,
            );
        own =
            let width : k * c.ways + c.ways - k * c.ways ≡ c.ways = omega arith in
            ap (λ m. take m (drop (k * c.ways) (put_mid (k * c.ways) c.ways old ways))) (sym width)
            ∙ between-put_mid (k * c.ways) c.ways old ways (k * c.ways + c.ways) (omega (arith, fits)) (size ∙ sym width);
        others = λ j ne. by_order j ne (cases_lt j k);
      }
    where
      by_order : (j : ℕ) → j ≢ k → (j < k) ⊎ (k ≤ j) → ways_of c (put_mid (k * c.ways) c.ways old ways) j ≡ ways_of c old j
      by_order j ne (inl lt) = before j lt
      by_order j ne (inr le) = behind j (omega arith)

-- the part of the ways that a call gets
pub part_is : (c : CacheConfig) (k first : ℕ) (given old : List Way) → given ≡ old → first ≡ k * c.ways → take (first + c.ways - first) (drop first given) ≡ ways_of c old k
part_is c k first given old same is =
    let width : first + c.ways - first ≡ c.ways = omega arith in
    ap (λ m. take m (drop first given)) width ∙ (ap (λ m. take c.ways (drop m given)) is ∙ ap (λ ws. take c.ways (drop (k * c.ways) ws)) same)

-- what is left of all ways after the call wrote its part
pub written : (c : CacheConfig) (k first n : ℕ) (given old ways : List Way) → given ≡ old → first ≡ k * c.ways → n ≡ length old → length old ≡ c.sets * c.ways → k < c.sets → length ways ≡ c.ways
    → Written c old (take n (put_mid first (first + c.ways - first) given ways ++ drop (length (put_mid first (first + c.ways - first) given ways)) old)) k ways
written c k first n given old ways same is len number below size =
    let width : first + c.ways - first ≡ c.ways = omega arith in
    let part = written_part c old ways k number below size in
    let mid : put_mid first (first + c.ways - first) given ways ≡ put_mid (k * c.ways) c.ways old ways =
    ap (λ m. put_mid first m given ways) width ∙ (ap (λ m. put_mid m c.ways given ways) is ∙ ap (λ ws. put_mid (k * c.ways) c.ways ws ways) same)
    in
    subst (λ ws. Written c old (take n (ws ++ drop (length ws) old)) k ways) (sym mid)
    (subst (λ ws. Written c old ws k ways) (sym (all_written n (put_mid (k * c.ways) c.ways old ways) old len part.number)) part)

pub size_of : (v : Fields) (k : ℕ) → IsSound v → k < v.config.sets → length (ways_of v.config v.ways k) ≡ v.config.ways
size_of v k sound below = (sound.sets k below).number

-- ---- an access

pub becomes_accessed : (v : Fields) (n : Counts) (k : ℕ) (new ways : List Way) (lines : List Line) → IsSound v → Written v.config v.ways new k ways → n.accesses ≡ v.counts.accesses + 1
    → newest_first (v.counts.accesses + 1) ways ≡ lines → SetBecomes v (record { config = v.config; ways = new; counts = n }) k lines
becomes_accessed v n k new ways lines sound part more is =
    record {
      config = refl;
      own = ap (λ m. newest_first m (ways_of v.config new k)) more ∙ (ap (newest_first (v.counts.accesses + 1)) part.own ∙ is);
      others = λ j below ne.
          ap (λ m. newest_first m (ways_of v.config new j)) more
          ∙ (ap (newest_first (v.counts.accesses + 1)) (part.others j ne) ∙ lines_later v.config v.counts.accesses (ways_of v.config v.ways j) (sound.sets j below));
    }

pub sound_accessed : (v : Fields) (n : Counts) (k : ℕ) (new ways : List Way) → IsSound v → Written v.config v.ways new k ways → n.accesses ≡ v.counts.accesses + 1 → IsBalanced n
    → IsSoundSet v.config (v.counts.accesses + 1) ways → IsSound (record { config = v.config; ways = new; counts = n })
sound_accessed v n k new ways sound part more balanced own =
    record { limits = sound.limits; number = part.number ∙ sound.number; sets = λ j below. subst (λ m. IsSoundSet v.config m (ways_of v.config new j)) (sym more) (each j below); counts = balanced }
  where
    each : (j : ℕ) → j < v.config.sets → IsSoundSet v.config (v.counts.accesses + 1) (ways_of v.config new j)
    each j below = by_case (j == k) refl
      where
        by_case : (t : Bool) → (j == k) ≡ t → IsSoundSet v.config (v.counts.accesses + 1) (ways_of v.config new j)
        by_case true e =
            subst (λ i. IsSoundSet v.config (v.counts.accesses + 1) (ways_of v.config new i)) (sym (eqb-true j k e)) (subst (IsSoundSet v.config (v.counts.accesses + 1)) (sym part.own) own)
        by_case false e =
            subst (IsSoundSet v.config (v.counts.accesses + 1)) (sym (part.others j (eqb-false j k e))) (sound_later v.config v.counts.accesses (ways_of v.config v.ways j) (sound.sets j below))

-- ---- a fill

pub becomes_filled : (v : Fields) (k : ℕ) (new ways : List Way) (lines : List Line) → Written v.config v.ways new k ways → newest_first v.counts.accesses ways ≡ lines
    → SetBecomes v (record { config = v.config; ways = new; counts = v.counts }) k lines
becomes_filled v k new ways lines part is =
    record {
      config = refl;
      own = ap (newest_first v.counts.accesses) part.own ∙ is;
      others = λ j below ne. ap (newest_first v.counts.accesses) (part.others j ne);
    }

pub sound_filled : (v : Fields) (k : ℕ) (new ways : List Way) → IsSound v → Written v.config v.ways new k ways → IsSoundSet v.config v.counts.accesses ways
    → IsSound (record { config = v.config; ways = new; counts = v.counts })
sound_filled v k new ways sound part own =
    record { limits = sound.limits; number = part.number ∙ sound.number; sets = each; counts = sound.counts }
  where
    each : (j : ℕ) → j < v.config.sets → IsSoundSet v.config v.counts.accesses (ways_of v.config new j)
    each j below = by_case (j == k) refl
      where
        by_case : (t : Bool) → (j == k) ≡ t → IsSoundSet v.config v.counts.accesses (ways_of v.config new j)
        by_case true e =
            subst (λ i. IsSoundSet v.config v.counts.accesses (ways_of v.config new i)) (sym (eqb-true j k e)) (subst (IsSoundSet v.config v.counts.accesses) (sym part.own) own)
        by_case false e = subst (IsSoundSet v.config v.counts.accesses) (sym (part.others j (eqb-false j k e))) (sound.sets j below)

-- ---- a settling

drop-map : (f : Way → Way) (n : ℕ) (ways : List Way) → drop n (map f ways) ≡ map f (drop n ways)
drop-map f zero ways = refl
drop-map f (suc n) [] = refl
drop-map f (suc n) (w ∷ ways) = drop-map f n ways

ways_of-settled : (c : CacheConfig) (ways : List Way) (k : ℕ) → ways_of c (map (ended 0) ways) k ≡ map (ended 0) (ways_of c ways k)
ways_of-settled c ways k = ap (take c.ways) (drop-map (ended 0) (k * c.ways) ways) ∙ take-map (ended 0) c.ways (drop (k * c.ways) ways)

pub lines_settled : (v : Fields) (new : List Way) → new ≡ map (ended 0) v.ways → (j : ℕ) → lines_in (record { config = v.config; ways = new; counts = v.counts }) j ≡ map (ending_at 0) (lines_in v j)
lines_settled v new is j =
    ap (λ ws. newest_first v.counts.accesses (ways_of v.config ws j)) is
    ∙ (ap (newest_first v.counts.accesses) (ways_of-settled v.config v.ways j) ∙ lines_of_settling v.counts.accesses (ways_of v.config v.ways j))

pub sound_settled : (v : Fields) (new : List Way) → IsSound v → new ≡ map (ended 0) v.ways → IsSound (record { config = v.config; ways = new; counts = v.counts })
sound_settled v new sound is =
    subst (λ ws. IsSound (record { config = v.config; ways = ws; counts = v.counts })) (sym is) (record {
      limits = sound.limits;
      number = length-map v.ways (ended 0) ∙ sound.number;
      sets = λ j below. subst (IsSoundSet v.config v.counts.accesses) (sym (ways_of-settled v.config v.ways j)) (settling_sound v.config v.counts.accesses (ways_of v.config v.ways j) (sound.sets j below));
      counts = sound.counts;
    })

-- a loop that settles each way
pub settled_more : (i : ℕ) (old new : List Way) → i < length new → length new ≡ length old → new ≡ map (ended 0) (take i old) ++ drop i old
    → set new i (ended 0 (way_at new i)) ≡ map (ended 0) (take (i + 1) old) ++ drop (i + 1) old
settled_more i old new inside same e =
    map_over_more (ended 0) old new i (way_at new i) (omega arith) e (get_or_default new i unused (way_at new i) inside)

pub settled_all : (i n : ℕ) (old new items : List Way) → length new ≤ i → length new ≡ length old → new ≡ map (ended 0) (take i old) ++ drop i old → old ≡ items → n ≡ length items
    → take n (new ++ drop (length new) items) ≡ map (ended 0) items
settled_all i n old new items le same e is len =
    let all : length old ≤ i = omega arith in
    all_written n new items len (same ∙ ap length is)
    ∙ (e ∙ (ap (λ ws. map (ended 0) ws ++ drop i old) (take_all i old all)
    ∙ (ap (λ ws. map (ended 0) old ++ ws) (drop_all i old all) ∙ (append-nil (map (ended 0) old) ∙ ap (map (ended 0)) is))))

-- ---- a new cache

unused_sound : (c : CacheConfig) (n : ℕ) (ways : List Way) → length ways ≡ c.ways → All (λ w. w ≡ unused) ways → IsSoundSet c n ways
unused_sound c n ways number all =
    record {
      number = number;
      stamps = All-weaker (λ w. w ≡ unused) (λ w. w.stamp ≤ n) (λ w e. let z : w.stamp ≡ 0 = ap (λ (x : Way). x.stamp) e in omega arith) ways all;
      space = All-weaker (λ w. w ≡ unused) (λ w. w.tag * c.block < 2 ^ 32) (λ w e. subst (λ (x : Way). x.tag * c.block < 2 ^ 32) (sym e) (omega arith)) ways all;
      apart =
          record {
            stamps = λ i j a b some e. let z : (way_at ways i).stamp ≡ 0 = ap (λ (x : Way). x.stamp) (all i unused a) in absurd (omega arith);
            tags = λ i j a b some some' e. let z : (way_at ways i).stamp ≡ 0 = ap (λ (x : Way). x.stamp) (all i unused a) in absurd (omega arith);
          };
    }

pub sound_new : (c : CacheConfig) (ways : List Way) (n : Counts) → IsWithinLimits c → ways ≡ replicate (c.sets * c.ways) unused
    → n ≡ record { accesses = 0; hits = 0; misses = 0; replacements = 0; writebacks = 0 } → IsSound (record { config = c; ways = ways; counts = n })
sound_new c ways n limits is zeros =
    record {
      limits = limits;
      number = number;
      sets = λ k below. unused_sound c n.accesses (ways_of c ways k) (size k below) (All-take (λ w. w ≡ unused) c.ways (drop (k * c.ways) ways) (All-drop (λ w. w ≡ unused) (k * c.ways) ways all));
      counts = subst IsBalanced (sym zeros) (record { accesses = refl; misses = omega arith; replacements = omega arith });
    }
  where
    number : length ways ≡ c.sets * c.ways
    number = ap length is ∙ length-replicate (c.sets * c.ways) unused

    all : All (λ w. w ≡ unused) ways
    all = subst (All (λ w. w ≡ unused)) (sym is) (All-replicate (λ w. w ≡ unused) (c.sets * c.ways) unused refl)

    size : (k : ℕ) → k < c.sets → length (ways_of c ways k) ≡ c.ways
    size k below =
        let fits : k * c.ways + c.ways ≤ c.sets * c.ways = row_fits k c.ways c.sets c.ways below (omega arith) in
        length-take-le c.ways (drop (k * c.ways) ways) (omega (arith, number, length-drop (k * c.ways) ways))
