-- The newest updates of different pcs, and what a set of the buffer keeps of them.
use Rattle.std.proofs.Common.{◌≡◌, ◌≢◌, ℕ, zero, suc, ◌+◌, ◌<◌, Bool, true, false, cond, not, List, [], ◌∷◌, ◌++◌, length, get_or, set, take, map, replicate, refl, sym, ◌∙◌, ap, subst, arith, eqb, length-set, get_or-set_same, get_or-set_other}
use Rattle.std.specs.Prelude.{filter, find, option_map, Some, None, All, Contains}
use Rattle.std.proofs.lemmas.List.{take-take, take-map, length-map, length-replicate, get_or-replicate, get_or-map, map-set, map_push, replicate_more}
use Rattle.std.proofs.lemmas.Bool.{eqb-true, eqb-false, eq-eqb, ne_eqb}
use Rattle.bpred_tables.specs.Updates.{place_in}
use Rattle.bpred_tables.specs.Buffer.{Entry, latest, of_set, entries, target_of, Buffer, BufferStands}
use Rattle.bpred_tables.specs.declared.target_buffer.Slot.{Slot}

abbrev other : ℕ → Entry → Bool
other pc e = not (eqb e.pc pc)

-- no entry is of pc
abbrev Absent : ℕ → List Entry → Type 0
Absent pc [] = Unit {0}
Absent pc (e ∷ es) = (eqb e.pc pc ≡ false) × Absent pc es

-- no two entries are of one pc
abbrev Apart : List Entry → Type 0
Apart [] = Unit {0}
Apart (e ∷ es) = Absent e.pc es × Apart es

absent_filter : (p : Entry → Bool) (pc : ℕ) (es : List Entry) → Absent pc es → Absent pc (filter p es)
absent_filter p pc [] h = tt
absent_filter p pc (e ∷ es) h = by_case (p e) (absent_filter p pc es h.1)
  where
    by_case : (b : Bool) → Absent pc (filter p es) → Absent pc (cond b (e ∷ filter p es) (filter p es))
    by_case true rest = (h.0, rest)
    by_case false rest = rest

apart_filter : (p : Entry → Bool) (es : List Entry) → Apart es → Apart (filter p es)
apart_filter p [] h = tt
apart_filter p (e ∷ es) h = by_case (p e) (apart_filter p es h.1)
  where
    by_case : (b : Bool) → Apart (filter p es) → Apart (cond b (e ∷ filter p es) (filter p es))
    by_case true rest = (absent_filter p e.pc es h.0, rest)
    by_case false rest = rest

absent_others : (pc : ℕ) (es : List Entry) → Absent pc (filter (other pc) es)
absent_others pc [] = tt
absent_others pc (e ∷ es) = by_case (eqb e.pc pc) refl (absent_others pc es)
  where
    by_case : (b : Bool) → eqb e.pc pc ≡ b → Absent pc (filter (other pc) es)
        → Absent pc (cond (not b) (e ∷ filter (other pc) es) (filter (other pc) es))
    by_case true h rest = rest
    by_case false h rest = (h, rest)

apart_latest : (updates : List Entry) → Apart (latest updates)
apart_latest [] = tt
apart_latest (u ∷ older) = (absent_others u.pc (latest older), apart_filter (other u.pc) (latest older) (apart_latest older))

absent_take : (n pc : ℕ) (es : List Entry) → Absent pc es → Absent pc (take n es)
absent_take zero pc es h = tt
absent_take (suc n) pc [] h = tt
absent_take (suc n) pc (e ∷ es) h = (h.0, absent_take n pc es h.1)

apart_take : (n : ℕ) (es : List Entry) → Apart es → Apart (take n es)
apart_take zero es h = tt
apart_take (suc n) [] h = tt
apart_take (suc n) (e ∷ es) h = (absent_take n e.pc es h.0, apart_take n es h.1)

filter_absent : (pc : ℕ) (es : List Entry) → Absent pc es → filter (other pc) es ≡ es
filter_absent pc [] h = refl
filter_absent pc (e ∷ es) h = rw h.0 (ap (λ l. e ∷ l) (filter_absent pc es h.1))

-- where at most one entry goes, the first n that are left lie among the first n + 1
take_others : (pc n : ℕ) (es : List Entry) → Apart es → take n (filter (other pc) (take (suc n) es)) ≡ take n (filter (other pc) es)
take_others pc n [] h = refl
take_others pc n (e ∷ es) h = by_case (eqb e.pc pc) refl (λ m. take_others pc m es h.1) n
  where
    by_case : (b : Bool) → eqb e.pc pc ≡ b
        → ((m : ℕ) → take m (filter (other pc) (take (suc m) es)) ≡ take m (filter (other pc) es)) → (m : ℕ)
        → take m (cond (not b) (e ∷ filter (other pc) (take m es)) (filter (other pc) (take m es)))
        ≡ take m (cond (not b) (e ∷ filter (other pc) es) (filter (other pc) es))
    by_case true is rest m =
        let absent : Absent pc es = subst (λ q. Absent q es) (eqb-true _ _ is) h.0 in
        rw (filter_absent pc (take m es) (absent_take m pc es absent), filter_absent pc es absent)
        (take-take m m es (omega arith))
    by_case false is rest zero = refl
    by_case false is rest (suc m) = ap (λ l. e ∷ l) (rest m)

-- a set after an update of its own
entered : (ways : ℕ) (u : Entry) (es : List Entry) → Apart es
    → take ways (u ∷ filter (other u.pc) es) ≡ take ways (u ∷ filter (other u.pc) (take ways es))
entered zero u es h = refl
entered (suc n) u es h = ap (λ l. u ∷ l) (sym (take_others u.pc n es h))

pub entries_here : (sets ways k : ℕ) (u : Entry) (older : List Entry) → place_in sets u.pc ≡ k
    → entries sets ways k (u ∷ older) ≡ take ways (u ∷ filter (other u.pc) (entries sets ways k older))
entries_here sets ways k u older e =
    let hit : eqb (place_in sets u.pc) k ≡ true = eq-eqb _ _ e in
    rw hit (entered ways u (latest (of_set sets k older)) (apart_latest (of_set sets k older)))

pub entries_elsewhere : (sets ways k : ℕ) (u : Entry) (older : List Entry) → (place_in sets u.pc ≡ k → ⊥)
    → entries sets ways k (u ∷ older) ≡ entries sets ways k older
entries_elsewhere sets ways k u older ne =
    let miss : eqb (place_in sets u.pc) k ≡ false = ne_eqb _ _ ne in rw miss refl

pub buffer_step : (b : Buffer) (older : List Entry) (u : Entry) (at : ℕ)
    → at ≡ place_in (length b.sets) u.pc → at < length b.sets → BufferStands b older
    → BufferStands (record { sets = set b.sets at (take b.ways (u ∷ filter (other u.pc) (get_or b.sets at []))); ways = b.ways }) (u ∷ older)
buffer_step b older u at here within stands =
    record { each = λ k h. subst (λ n. get_or new k [] ≡ entries n b.ways k (u ∷ older)) (sym long) (by_case k (rw long at h) (eqb at k) refl) }
  where
    new : List (List Entry)
    new = set b.sets at (take b.ways (u ∷ filter (other u.pc) (get_or b.sets at [])))

    long : length new ≡ length b.sets
    long = length-set b.sets at (take b.ways (u ∷ filter (other u.pc) (get_or b.sets at [])))

    by_case : (k : ℕ) → k < length b.sets → (hit : Bool) → eqb at k ≡ hit
        → get_or new k [] ≡ entries (length b.sets) b.ways k (u ∷ older)
    by_case k h true e =
        let same_place : at ≡ k = eqb-true _ _ e in
        let read : get_or b.sets at [] ≡ entries (length b.sets) b.ways k older = ap (λ m. get_or b.sets m []) same_place ∙ stands.each k h in
        ap (λ m. get_or new m []) (sym same_place)
        ∙ get_or-set_same b.sets at _ [] within
        ∙ ap (λ es. take b.ways (u ∷ filter (other u.pc) es)) read
        ∙ sym (entries_here (length b.sets) b.ways k u older (sym here ∙ same_place))
    by_case k h false e =
        let ne : k ≢ at = λ same'. eqb-false _ _ e (sym same') in
        get_or-set_other b.sets at k _ [] ne ∙ stands.each k h
        ∙ sym (entries_elsewhere (length b.sets) b.ways k u older (λ same'. ne (sym same' ∙ sym here)))

absent_at : (pc : ℕ) (es : List Entry) (j : ℕ) (d : Entry) → Absent pc es → j < length es → pc ≡ (get_or es j d).pc → ⊥
absent_at pc [] j d h within e = omega arith
absent_at pc (x ∷ es) zero d h within e = eqb-false _ _ h.0 (sym e)
absent_at pc (x ∷ es) (suc j) d h within e = absent_at pc es j d h.1 (omega arith) e

apart_at : (es : List Entry) → Apart es → (i j : ℕ) (d : Entry) → i < j → j < length es → (get_or es i d).pc ≡ (get_or es j d).pc → ⊥
apart_at [] h i j d less within e = omega arith
apart_at (x ∷ es) h i zero d less within e = omega arith
apart_at (x ∷ es) h zero (suc j) d less within e = absent_at x.pc es j d h.0 (omega arith) e
apart_at (x ∷ es) h (suc i) (suc j) d less within e = apart_at es h.1 i j d (omega arith) (omega arith) e

pub entries_apart : (sets ways k : ℕ) (updates : List Entry) (i j : ℕ) (d : Entry) → i < j → j < length (entries sets ways k updates)
    → (get_or (entries sets ways k updates) i d).pc ≡ (get_or (entries sets ways k updates) j d).pc → ⊥
entries_apart sets ways k updates =
    apart_at (entries sets ways k updates) (apart_take ways (latest (of_set sets k updates)) (apart_latest (of_set sets k updates)))

-- nothing is found exactly where no entry is of pc
pub found_none : (pc : ℕ) (es : List Entry) → option_map (λ e. e.target) (find (λ e. eqb e.pc pc) es) ≡ None → All (λ e. e.pc ≢ pc) es
found_none pc [] h k d within same' = absurd (omega arith)
found_none pc (x ∷ es) h k d within same' = by_case (eqb x.pc pc) refl h (found_none pc es) k within same'
  where
    by_case : (b : Bool) → eqb x.pc pc ≡ b → option_map (λ e. e.target) (cond b (Some x) (find (λ e. eqb e.pc pc) es)) ≡ None
        → (option_map (λ e. e.target) (find (λ e. eqb e.pc pc) es) ≡ None → All (λ e. e.pc ≢ pc) es)
        → (j : ℕ) → j < length (x ∷ es) → (get_or (x ∷ es) j d).pc ≡ pc → ⊥
    by_case true is none rest j below same'' = cc
    by_case false is none rest zero below same'' = eqb-false _ _ is same''
    by_case false is none rest (suc j) below same'' = rest none j d (omega arith) same''

pub none_found : (pc : ℕ) (es : List Entry) → All (λ e. e.pc ≢ pc) es → option_map (λ e. e.target) (find (λ e. eqb e.pc pc) es) ≡ None
none_found pc [] h = refl
none_found pc (x ∷ es) h =
    let miss : eqb x.pc pc ≡ false = ne_eqb _ _ (h 0 x (omega arith)) in
    rw miss (none_found pc es (λ k d within. h (suc k) d (omega arith)))

-- the entry at a place is the one that is found for its pc
found_at : (es : List Entry) (k : ℕ) (d : Entry) → Apart es → k < length es
    → find (λ e. eqb e.pc (get_or es k d).pc) es ≡ Some (get_or es k d)
found_at [] k d h within = absurd (omega arith)
found_at (x ∷ es) zero d h within = rw (eq-eqb x.pc x.pc refl) refl
found_at (x ∷ es) (suc k) d h within =
    let miss : eqb x.pc (get_or es k d).pc ≡ false = ne_eqb _ _ (absent_at x.pc es k d h.0 (omega arith)) in
    rw miss (found_at es k d h.1 (omega arith))

pub found_entry : (sets ways : ℕ) (updates : List Entry) (e : Entry) → Contains (entries sets ways (place_in sets e.pc) updates) e
    → target_of sets ways updates e.pc ≡ Some e.target
found_entry sets ways updates e (k, within, is) =
    let es = entries sets ways (place_in sets e.pc) updates in
    let apart : Apart es = apart_take ways (latest (of_set sets (place_in sets e.pc) updates)) (apart_latest (of_set sets (place_in sets e.pc) updates)) in
    let found = found_at es k e apart within in
    let here : find (λ x. eqb x.pc e.pc) es ≡ Some e = subst (λ y. find (λ x. eqb x.pc y.pc) es ≡ Some y) is found in
    ap (option_map (λ x. x.target)) here

take-nil : (n : ℕ) → take {A = Entry} n [] ≡ []
take-nil zero = refl
take-nil (suc n) = refl

-- a list of empty sets stands for no updates
pub stands_empty : (sets : List (List Entry)) (n ways : ℕ) → sets ≡ replicate n [] → BufferStands (record { sets = sets; ways = ways }) []
stands_empty sets n ways e = record { each = each }
  where
    each : (k : ℕ) → k < length sets → get_or sets k [] ≡ entries (length sets) ways k []
    each k h =
        let empty : List Entry = [] in
        let below : k < n = omega (arith, ap length e, length-replicate n empty) in
        ap (λ l. get_or l k []) e ∙ get_or-replicate n k [] [] below ∙ sym (take-nil ways)

-- ---- what the code's sets hold, as the buffer's view shows it

abbrev pub shown : Slot → Entry
shown e = record { pc = e.pc; target = e.target }

shown_others : (pc : ℕ) (es : List Slot) → map shown (filter (λ e. not (eqb e.pc pc)) es) ≡ filter (other pc) (map shown es)
shown_others pc [] = refl
shown_others pc (e ∷ es) = by_case (eqb e.pc pc) (shown_others pc es)
  where
    by_case : (b : Bool) → map shown (filter (λ x. not (eqb x.pc pc)) es) ≡ filter (other pc) (map shown es)
        → map shown (cond (not b) (e ∷ filter (λ x. not (eqb x.pc pc)) es) (filter (λ x. not (eqb x.pc pc)) es))
        ≡ cond (not b) (shown e ∷ filter (other pc) (map shown es)) (filter (other pc) (map shown es))
    by_case true rest = rest
    by_case false rest = ap (λ l. shown e ∷ l) rest

pub shown_entered : (ways : ℕ) (u : Slot) (es : List Slot)
    → map shown (take ways (u ∷ filter (λ e. not (eqb e.pc u.pc)) es)) ≡ take ways (shown u ∷ filter (other u.pc) (map shown es))
shown_entered ways u es =
    sym (take-map shown ways (u ∷ filter (λ e. not (eqb e.pc u.pc)) es)) ∙ ap (λ l. take ways (shown u ∷ l)) (shown_others u.pc es)

pub shown_target : (pc : ℕ) (es : List Slot)
    → option_map (λ e. e.target) (find (λ e. eqb e.pc pc) es) ≡ option_map (λ e. e.target) (find (λ e. eqb e.pc pc) (map shown es))
shown_target pc [] = refl
shown_target pc (e ∷ es) = by_case (eqb e.pc pc) (shown_target pc es)
  where
    by_case : (b : Bool)
        → option_map (λ x. x.target) (find (λ x. eqb x.pc pc) es) ≡ option_map (λ x. x.target) (find (λ x. eqb x.pc pc) (map shown es))
        → option_map (λ x. x.target) (cond b (Some e) (find (λ x. eqb x.pc pc) es))
        ≡ option_map (λ x. x.target) (cond b (Some (shown e)) (find (λ x. eqb x.pc pc) (map shown es)))
    by_case true rest = refl
    by_case false rest = rest

-- the same where f shows the entries of a set
module _ {X : Type 0} (f : X → List Entry) where
  pub length_empty : (xs : List X) (n : ℕ) → map f xs ≡ replicate n [] → length xs ≡ n
  length_empty xs n e = sym (length-map xs f) ∙ ap length e ∙ length-replicate n []

  pub push_empty : (xs : List X) (x : X) (n : ℕ) → map f xs ≡ replicate n [] → f x ≡ [] → map f (xs ++ x ∷ []) ≡ replicate (n + 1) []
  push_empty xs x n e empty = map_push f xs x ∙ (λ i. e i ++ (empty i ∷ [])) ∙ replicate_more n []

  pub buffer_entered : (xs : List X) (ways at : ℕ) (x y : X) (u : Entry) (older : List Entry)
      → at ≡ place_in (length xs) u.pc → at < length xs → y ≡ get_or xs at y
      → f x ≡ take ways (u ∷ filter (other u.pc) (f y))
      → BufferStands (record { sets = map f xs; ways = ways }) older
      → BufferStands (record { sets = map f (set xs at x); ways = ways }) (u ∷ older)
  buffer_entered xs ways at x y u older here within read now stands =
      let long : length (map f xs) ≡ length xs = length-map xs f in
      let was : f y ≡ get_or (map f xs) at [] = ap f read ∙ sym (get_or-map f xs at y [] within) in
      let here' : at ≡ place_in (length (map f xs)) u.pc = rw long here in
      let within' : at < length (map f xs) = rw long within in
      let step = buffer_step (record { sets = map f xs; ways = ways }) older u at here' within' stands in
      let left : map f (set xs at x) ≡ set (map f xs) at (take ways (u ∷ filter (other u.pc) (get_or (map f xs) at []))) =
      map-set f xs at x ∙ ap (λ l. set (map f xs) at l) (now ∙ ap (λ l. take ways (u ∷ filter (other u.pc) l)) was) in
      subst (λ l. BufferStands (record { sets = l; ways = ways }) (u ∷ older)) (sym left) step

  pub buffer_found : (xs : List X) (ways at pc : ℕ) (y : X) (updates : List Entry)
      → at ≡ place_in (length xs) pc → at < length xs → y ≡ get_or xs at y
      → BufferStands (record { sets = map f xs; ways = ways }) updates
      → option_map (λ e. e.target) (find (λ e. eqb e.pc pc) (f y)) ≡ target_of (length (map f xs)) ways updates pc
  buffer_found xs ways at pc y updates here within read stands =
      let long : length (map f xs) ≡ length xs = length-map xs f in
      let was : f y ≡ get_or (map f xs) at [] = ap f read ∙ sym (get_or-map f xs at y [] within) in
      let here' : at ≡ place_in (length (map f xs)) pc = rw long here in
      let within' : at < length (map f xs) = rw long within in
      let found = λ (es : List Entry). option_map (λ e. e.target) (find (λ e. eqb e.pc pc) es) in
      ap found (was ∙ stands.each at within') ∙ ap (λ k. found (entries (length (map f xs)) ways k updates)) here'
