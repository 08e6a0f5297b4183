-- Tables that stand for a list of updates stand for one more update after it was counted.
use Rattle.std.proofs.Common.{◌≡◌, ◌≢◌, ℕ, ◌+◌, ◌*◌, ◌%◌, ◌^◌, ◌<◌, Bool, true, false, cond, not, ◌&&◌, List, ◌∷◌, length, get_or, set, refl, sym, ◌∙◌, ap, subst, eqb, length-set, get_or-set_same, get_or-set_other}
use Rattle.std.proofs.lemmas.Bool.{eqb-true, eqb-false, and_right}
use Rattle.bpred_tables.specs.Updates.{Update, Levels, Pair, Bimodal, Adaptive, counter, counted, digit, outcomes_at, pattern_place, second_place, history, place_in, bimodal, two_level, same, contests}
use Rattle.bpred_tables.specs.Tables.{Counts, BimodalStands, TwoTables, levels_of, TwoLevelStands, ThreeTables, pair_of, CombiningStands}
use Rattle.bpred_tables.proofs.Histories.{history_here, history_elsewhere}

-- what a counter is after the update, by whether its place is the update's
counter_step : (b : Bool) (up : Bool) (outcomes : List Bool)
    → counter (cond b (up ∷ outcomes) outcomes) ≡ cond b (counted up (counter outcomes)) (counter outcomes)
counter_step true up outcomes = refl
counter_step false up outcomes = refl

pub counts_step : (place : List Update → ℕ → ℕ) (counters : List ℕ) (older : List Update) (u : Update) (j : ℕ)
    → j ≡ place older u.pc → j < length counters → Counts place counters older
    → Counts place (set counters j (counted u.taken (get_or counters j 0))) (u ∷ older)
counts_step place counters older u j at within stands =
    record { each = λ k h. by_case k (rw length-set at h) (eqb (place older u.pc) k) refl }
  where
    by_case : (k : ℕ) → k < length counters → (b : Bool) → eqb (place older u.pc) k ≡ b
        → get_or (set counters j (counted u.taken (get_or counters j 0))) k 0 ≡ counter (outcomes_at place k (u ∷ older))
    by_case k h true e =
        let here : j ≡ k = at ∙ eqb-true _ _ e in
        let is : get_or counters k 0 ≡ counter (outcomes_at place k older) = stands.each k h in
        rw (e, here, get_or-set_same, is) refl
    by_case k h false e =
        let other : k ≢ j = λ same'. eqb-false _ _ e (sym (same' ∙ at)) in
        rw (e, get_or-set_other) (stands.each k h)

-- the same of the tables of a two-level predictor, of sizes that stay
record Stand (l : Levels) (histories counters : List ℕ) (updates : List Update) : Type 0 where
  shifts : (k : ℕ) → k < length histories → get_or histories k 0 ≡ history l k updates
  counts : Counts (pattern_place l) counters updates

stand_step : (l : Levels) (histories counters : List ℕ) (older : List Update) (u : Update) (i j h : ℕ)
    → i ≡ place_in l.first u.pc → i < length histories
    → j ≡ second_place l (get_or histories i 0) u.pc → j < length counters
    → h ≡ (2 * get_or histories i 0 + digit u.taken) % 2 ^ l.width
    → Stand l histories counters older
    → Stand l (set histories i h) (set counters j (counted u.taken (get_or counters j 0))) (u ∷ older)
stand_step l histories counters older u i j h at within at' within' next stands =
    let was : get_or histories i 0 ≡ history l i older = stands.shifts i within in
    let second : j ≡ pattern_place l older u.pc =
    at' ∙ ap (λ n. second_place l n u.pc) (was ∙ ap (λ k. history l k older) at) in
    record {
      shifts = λ k k_in. by_case k (rw length-set at k_in) (eqb i k) refl;
      counts = counts_step (pattern_place l) counters older u j second within' stands.counts;
    }
  where
    by_case : (k : ℕ) → k < length histories → (b : Bool) → eqb i k ≡ b → get_or (set histories i h) k 0 ≡ history l k (u ∷ older)
    by_case k k_in true e =
        let here : k ≡ i = sym (eqb-true _ _ e) in
        let place : k ≡ place_in l.first u.pc = here ∙ at in
        let was : get_or histories i 0 ≡ history l (place_in l.first u.pc) older =
        stands.shifts i within ∙ ap (λ m. history l m older) at in
        ap (λ m. get_or (set histories i h) m 0) here ∙ get_or-set_same histories i h 0 within ∙ next
        ∙ ap (λ n. (2 * n + digit u.taken) % 2 ^ l.width) was ∙ sym (history_here l u older)
        ∙ ap (λ m. history l m (u ∷ older)) (sym place)
    by_case k k_in false e =
        let other : k ≢ i = λ same'. eqb-false _ _ e (sym same') in
        get_or-set_other histories i k h 0 other ∙ stands.shifts k k_in
        ∙ sym (history_elsewhere l u older k (λ same'. other (same' ∙ sym at)))

levels_stay : (t : TwoTables) (i h j c : ℕ)
    → levels_of (record { histories = set t.histories i h; counters = set t.counters j c; width = t.width; xored = t.xored }) ≡ levels_of t
levels_stay t i h j c = simp length-set

pub two_level_step : (t : TwoTables) (older : List Update) (u : Update) (i j h c : ℕ)
    → i ≡ place_in (length t.histories) u.pc → i < length t.histories
    → j ≡ second_place (levels_of t) (get_or t.histories i 0) u.pc → j < length t.counters
    → h ≡ (2 * get_or t.histories i 0 + digit u.taken) % 2 ^ t.width
    → c ≡ counted u.taken (get_or t.counters j 0)
    → TwoLevelStands t older
    → TwoLevelStands (record { histories = set t.histories i h; counters = set t.counters j c; width = t.width; xored = t.xored }) (u ∷ older)
two_level_step t older u i j h c at within at' within' next is stands =
    let step : Stand (levels_of t) (set t.histories i h) (set t.counters j (counted u.taken (get_or t.counters j 0))) (u ∷ older) =
    stand_step (levels_of t) t.histories t.counters older u i j h at within at' within' next
    (record { shifts = stands.shifts; counts = stands.counts }) in
    let step' : Stand (levels_of t) (set t.histories i h) (set t.counters j c) (u ∷ older) =
    subst (λ n. Stand (levels_of t) (set t.histories i h) (set t.counters j n) (u ∷ older)) (sym is) step in
    let moved : Stand (levels_of (record { histories = set t.histories i h; counters = set t.counters j c; width = t.width; xored = t.xored })) (set t.histories i h) (set t.counters j c) (u ∷ older) =
    subst (λ l. Stand l (set t.histories i h) (set t.counters j c) (u ∷ older)) (sym (levels_stay t i h j c)) step' in
    record { shifts = moved.shifts; counts = moved.counts }

-- a chooser after the update, by whether its place is the update's and whether the answers agreed
judged : (choosers : List ℕ) (at k place : ℕ) (agree up : Bool) (outcomes : List Bool) (hit : Bool)
    → eqb place k ≡ hit → at ≡ place → at < length choosers → get_or choosers k 0 ≡ counter outcomes
    → get_or (cond agree choosers (set choosers at (counted up (get_or choosers at 0)))) k 0
    ≡ counter (cond (hit && not agree) (up ∷ outcomes) outcomes)
judged choosers at k place true up outcomes true e here within is = is
judged choosers at k place true up outcomes false e here within is = is
judged choosers at k place false up outcomes true e here within is =
    let same_place : at ≡ k = here ∙ eqb-true _ _ e in
    let read : get_or choosers at 0 ≡ counter outcomes = ap (λ m. get_or choosers m 0) same_place ∙ is in
    ap (λ m. get_or (set choosers at (counted up (get_or choosers at 0))) m 0) (sym same_place)
    ∙ get_or-set_same choosers at (counted up (get_or choosers at 0)) 0 within ∙ ap (counted up) read
judged choosers at k place false up outcomes false e here within is =
    let other : k ≢ at = λ same'. eqb-false _ _ e (sym (same' ∙ here)) in
    get_or-set_other choosers at k (counted up (get_or choosers at 0)) 0 other ∙ is

length-judged : (choosers : List ℕ) (at n : ℕ) (agree : Bool) → length (cond agree choosers (set choosers at n)) ≡ length choosers
length-judged choosers at n true = refl
length-judged choosers at n false = length-set choosers at n

same_size : (m n : ℕ) → Bimodal m ≡ Bimodal n → m ≡ n
same_size m n e = cc

same_levels : (l m : Levels) → Adaptive l ≡ Adaptive m → l ≡ m
same_levels l m e = cc

pub combining_step : (old : ThreeTables) (b : List ℕ) (t : TwoTables) (older : List Update) (u : Update) (at : ℕ) (first second : Bool) (choosers : List ℕ)
    → Bimodal (length b) ≡ Bimodal (length old.bimodal) → Adaptive (levels_of t) ≡ Adaptive (levels_of old.two_level)
    → at ≡ place_in (length old.choosers) u.pc → at < length old.choosers
    → first ≡ bimodal (length old.bimodal) older u.pc → second ≡ two_level (levels_of old.two_level) older u.pc
    → choosers ≡ cond (same first second) old.choosers (set old.choosers at (counted (same second u.taken) (get_or old.choosers at 0)))
    → BimodalStands b (u ∷ older) → TwoLevelStands t (u ∷ older)
    → CombiningStands old older
    → CombiningStands (record { bimodal = b; two_level = t; choosers = choosers }) (u ∷ older)
combining_step old b t older u at first second choosers size levels here within first_is second_is now b_stands t_stands stands =
    record { bimodal = b_stands; two_level = t_stands; chooses = chooses }
  where
    long : length choosers ≡ length old.choosers
    long = ap length now ∙ length-judged old.choosers at _ (same first second)

    pair : pair_of (record { bimodal = b; two_level = t; choosers = choosers }) ≡ pair_of old
    pair = λ i. record { bimodal_size = same_size _ _ size i; levels = same_levels _ _ levels i; choosers = long i }

    chooses_by : (k : ℕ) → k < length old.choosers → get_or choosers k 0 ≡ counter (contests (pair_of old) k (u ∷ older))
    chooses_by k k_in =
        rw (now, first_is, second_is)
        (judged old.choosers at k (place_in (length old.choosers) u.pc)
        (same (bimodal (length old.bimodal) older u.pc) (two_level (levels_of old.two_level) older u.pc))
        (same (two_level (levels_of old.two_level) older u.pc) u.taken)
        (contests (pair_of old) k older) (eqb (place_in (length old.choosers) u.pc) k) refl here within (stands.chooses k k_in))

    chooses : (k : ℕ) → k < length choosers → get_or choosers k 0 ≡ counter (contests (pair_of (record { bimodal = b; two_level = t; choosers = choosers })) k (u ∷ older))
    chooses k k_in =
        subst (λ p. get_or choosers k 0 ≡ counter (contests p k (u ∷ older))) (sym pair) (chooses_by k (rw long at k_in))

same_self : (b : Bool) → same b b ≡ true
same_self true = refl
same_self false = refl

pub agreed : (p : Pair) (k : ℕ) (u : Update) (older : List Update)
    → bimodal p.bimodal_size older u.pc ≡ two_level p.levels older u.pc → contests p k (u ∷ older) ≡ contests p k older
agreed p k u older e =
    let first = bimodal p.bimodal_size older u.pc in
    let second = two_level p.levels older u.pc in
    let alike : same first second ≡ true = ap (λ b. same b second) e ∙ same_self second in
    let off : (eqb (place_in p.choosers u.pc) k && not (same first second)) ≡ false = and_right _ _ (ap not alike) in
    rw off refl
