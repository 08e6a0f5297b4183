-- What the parts keep in a turn.
use Rattle.std.proofs.Common.{◌≡◌, ℕ, ◌+◌, ◌<◌, ◌≤◌, Some, None, cond, Bool, true, false, List, [], ◌∷◌, ◌++◌, length, get_or, zero, suc, refl, sym, ap, ◌∙◌, subst, arith, length-append, All}
use Rattle.std.specs.Prelude.{map, filter, Option, ◌||◌, count_by, nat_lt}
use Rattle.std.proofs.lemmas.Bool.{ltb-true, lt-ltb}
use Rattle.fu_pool.specs.declared.pools.Pool.{Pool}
use Rattle.fu_pool.specs.declared.pools.Pool.TheVariants as pool
use Rattle.fu_pool.specs.Takes.{Units, units_in}
use Rattle.mem_hier.specs.Stands as hierarchy
use Rattle.ooo_table.specs.Execution.{unit_hold}
use Rattle.bpred_unit.specs.Stands.{IsTop, cells_of}
use Rattle.ruu_core.specs.declared.station.Station.{Station}
use Rattle.ruu_core.specs.Window.{Row, is_above, is_load, is_store}
use Rattle.core_parts.specs.declared.answers.Issued.{Issued}
use Rattle.core_parts.specs.declared.parts.Parts.{Parts}
use Rattle.core_parts.specs.Fits.{Tag, is_memory, unit_tags, Fits}
use Rattle.core_parts.specs.Addresses.{address_of}
use Rattle.core_parts.specs.Rows.{unit_class}
use Rattle.core_parts.proofs.Lists.{count_cons}
use Rattle.core_issue.specs.declared.turns.Turn.{Turn}
use Rattle.core_issue.specs.Turns.{pool_for, TakesUnit, Returns}
use Rattle.core_issue.specs.Stage.{Rules, Shared, rules_of, shared_of, main_issues, access_issues, forwards, StepBy}
use Rattle.core_issue.proofs.Next.{apart}
use Rattle.core_issue.proofs.Turned.{Step, Taken}

-- one row changes and keeps its station
abbrev tag_by : Station → Tag
tag_by x = record { row = x.row; store = is_store x }

abbrev tag_of : Row → Tag
tag_of u = tag_by u.station

tags_same : (front before : List Row) (r s : Row) → r.station ≡ s.station → unit_tags (front ++ (r ∷ before)) ≡ unit_tags (front ++ (s ∷ before))
tags_same [] before r s e = by_kind (is_load s.station || is_store s.station) (is_memory r) (ap (λ (x : Station). is_load x || is_store x) e)
  where
    by_kind : (b d : Bool) → d ≡ b → map tag_of (cond d (r ∷ filter is_memory before) (filter is_memory before)) ≡ map tag_of (cond b (s ∷ filter is_memory before) (filter is_memory before))
    by_kind true true f = ap (λ (x : Station). tag_by x ∷ map tag_of (filter is_memory before)) e
    by_kind false false f = refl
    by_kind true false f = absurd cc
    by_kind false true f = absurd cc
tags_same (y ∷ ys) before r s e = by_kind (is_memory y) (tags_same ys before r s e)
  where
    by_kind : (b : Bool) → unit_tags (ys ++ (r ∷ before)) ≡ unit_tags (ys ++ (s ∷ before))
        → map tag_of (cond b (y ∷ filter is_memory (ys ++ (r ∷ before))) (filter is_memory (ys ++ (r ∷ before)))) ≡ map tag_of (cond b (y ∷ filter is_memory (ys ++ (s ∷ before))) (filter is_memory (ys ++ (s ∷ before))))
    by_kind true ih = ap (λ (l : List Tag). tag_of y ∷ l) ih
    by_kind false ih = ih

station_at : (front before : List Row) (r s : Row) → r.station ≡ s.station → (k : ℕ) (d : Row) → (get_or (front ++ (r ∷ before)) k d).station ≡ (get_or (front ++ (s ∷ before)) k d).station
station_at [] before r s e zero d = e
station_at [] before r s e (suc k) d = refl
station_at (y ∷ ys) before r s e zero d = refl
station_at (y ∷ ys) before r s e (suc k) d = station_at ys before r s e k d

tops_same : (P : Station → Type 0) (front before : List Row) (r s : Row) → r.station ≡ s.station → All (λ (u : Row). P u.station) (front ++ (s ∷ before)) → All (λ (u : Row). P u.station) (front ++ (r ∷ before))
tops_same P front before r s e h k d less =
    let long : k < length (front ++ (s ∷ before)) = omega (arith, less, length-append front (r ∷ before), length-append front (s ∷ before)) in
    subst P (sym (station_at front before r s e k d)) (h k d long)

count_same : (p : Station → Bool) (front before : List Row) (r s : Row) → r.station ≡ s.station → count_by (λ (u : Row). p u.station) (front ++ (r ∷ before)) ≡ count_by (λ (u : Row). p u.station) (front ++ (s ∷ before))
count_same p [] before r s e =
    let same : cond {A = ℕ} (p r.station) 1 0 ≡ cond {A = ℕ} (p s.station) 1 0 = ap (λ x. cond {A = ℕ} (p x) 1 0) e in
    omega (arith, same, count_cons (λ (u : Row). p u.station) r before, count_cons (λ (u : Row). p u.station) s before)
count_same p (y ∷ ys) before r s e =
    omega (arith, count_same p ys before r s e, count_cons (λ (u : Row). p u.station) y (ys ++ (r ∷ before)), count_cons (λ (u : Row). p u.station) y (ys ++ (s ∷ before)))

-- ---- what is shared

sizes_kept : (o : Option Pool) (c hold : ℕ) (old new : Units) → TakesUnit o c hold old new → (q : Pool) → units_in new q ≡ units_in old q
sizes_kept None c hold old new h q = ap (λ v. units_in v q) h
sizes_kept (Some p) c hold old new h q = h.sizes q

last_kept : (o : Option Pool) (c hold : ℕ) (old new : Units) → TakesUnit o c hold old new → old.last ≤ c → new.last ≤ c
last_kept None c hold old new h le = subst (λ (v : Units). v.last ≤ c) (sym h) le
last_kept (Some p) c hold old new h le = let e : new.last ≡ c = h.last in omega arith

-- the pools and the hierarchy after a turn
pub record Kept (c : ℕ) (made : List Issued) (a b : Shared) : Type 0 where
  pub sizes : (q : Pool) → units_in b.pools q ≡ units_in a.pools q
  pub last : a.pools.last ≤ c → b.pools.last ≤ c
  pub references : hierarchy.references_of b.hier ≤ hierarchy.references_of a.hier + length made
  pub last_cycle : hierarchy.last_cycle_of a.hier ≤ c → hierarchy.last_cycle_of b.hier ≤ c

pub kept_by : (i d : Bool) (c : ℕ) (k : Rules) (a b : Shared) (s s' : Row) (made : List Issued) → StepBy i d c k a s s' made b → Kept c made a b
kept_by true d c k a b s s' made (is, made_is, pools, hier) =
    record {
      sizes = sizes_kept (pool_for (unit_class s.station)) c (unit_hold (unit_class s.station)) a.pools b.pools pools;
      last = last_kept (pool_for (unit_class s.station)) c (unit_hold (unit_class s.station)) a.pools b.pools pools;
      references = let e : hierarchy.references_of b.hier ≡ hierarchy.references_of a.hier = ap hierarchy.references_of hier in omega arith;
      last_cycle = λ le. let e : hierarchy.last_cycle_of b.hier ≡ hierarchy.last_cycle_of a.hier = ap hierarchy.last_cycle_of hier in omega arith;
    }
kept_by false true c k a b s s' made (back, is, made_is, pools, returns) =
    by_forward (forwards c k s) (address_of s.station.row k.addresses) returns
  where
    sizes : (q : Pool) → units_in b.pools q ≡ units_in a.pools q
    sizes = pools.sizes

    last : a.pools.last ≤ c → b.pools.last ≤ c
    last le = let e : b.pools.last ≡ c = pools.last in omega arith

    one : length made ≡ 1
    one = ap length made_is

    by_forward : (f : Bool) (addr : ℕ) → Returns f c addr back a.hier b.hier → Kept c made a b
    by_forward true addr r =
        record {
          sizes = sizes;
          last = last;
          references = let e : hierarchy.references_of b.hier ≡ hierarchy.references_of a.hier = ap hierarchy.references_of r.1 in omega arith;
          last_cycle = λ le. let e : hierarchy.last_cycle_of b.hier ≡ hierarchy.last_cycle_of a.hier = ap hierarchy.last_cycle_of r.1 in omega arith;
        }
    by_forward false addr r =
        record {
          sizes = sizes;
          last = last;
          references = let e : hierarchy.references_of b.hier ≡ hierarchy.references_of a.hier + 1 = r.2.references in omega (arith, one);
          last_cycle = λ le. let e : hierarchy.last_cycle_of b.hier ≡ c = r.2.last_cycle in omega arith;
        }
kept_by false false c k a b s s' made (is, none, same) =
    record {
      sizes = λ q. ap (λ (x : Shared). units_in x.pools q) same;
      last = λ le. subst (λ (x : Shared). x.pools.last ≤ c) (sym same) le;
      references = let e : hierarchy.references_of b.hier ≡ hierarchy.references_of a.hier = ap (λ (x : Shared). hierarchy.references_of x.hier) same in omega arith;
      last_cycle = λ le. let e : hierarchy.last_cycle_of b.hier ≡ hierarchy.last_cycle_of a.hier = ap (λ (x : Shared). hierarchy.last_cycle_of x.hier) same in omega arith;
    }

-- the turn of a row keeps that the parts fit
pub fits_step : (c n used : ℕ) (old new : Parts) (front before : List Row) (s : Row) (made : List Issued) → old.unit.rows ≡ front ++ (s ∷ before)
    → Fits c used old → Step c n old new front before s made → Fits c (used + length made) new
fits_step c n used old new front before s made is fits step =
    subst (Fits c (used + length made)) (sym step.parts) (
    record {
      sizes = record {
        allowed = fits.sizes.allowed;
        unit = fits.sizes.unit;
        queue = fits.sizes.queue;
        addresses = fits.sizes.addresses;
        front = fits.sizes.front;
        width = fits.sizes.width;
        overlay = fits.sizes.overlay;
        alus = kept.sizes pool.Alu ∙ fits.sizes.alus;
        mults = kept.sizes pool.Mult ∙ fits.sizes.mults;
        ports = kept.sizes pool.Port ∙ fits.sizes.ports;
      };
      time = record { cycle = fits.time.cycle; unit = fits.time.unit; pools = kept.last fits.time.pools; front = fits.time.front; hier = kept.last_cycle fits.time.hier };
      numbers = record { references = (let old_fits = fits.numbers.references in let more = kept.references in omega arith); rows = fits.numbers.rows; instructions = fits.numbers.instructions };
      agree = record {
        queue = fits.agree.queue ∙ tags;
        addresses = fits.agree.addresses ∙ tags;
        behind = fits.agree.behind;
        memory_behind = fits.agree.memory_behind;
        tops = tops_same (λ (x : Station). IsTop (cells_of old.predictor) x.top) front before step.now s step.station (subst (All (λ (u : Row). IsTop (cells_of old.predictor) u.station.top)) is fits.agree.tops);
        waiting_tops = fits.agree.waiting_tops;
        applied = (let le = fits.agree.applied in omega (arith, count_same (λ (x : Station). x.wrong) front before step.now s step.station, ap (count_by (λ (u : Row). u.station.wrong)) is));
      };
    }
    )
  where
    kept : Kept c made (shared_of old) (shared_of new)
    kept = kept_by (main_issues c n (rules_of old) old.pools before s) (access_issues c n (rules_of old) old.pools before s) c (rules_of old) (shared_of old) (shared_of new) s step.now made step.step

    tags : unit_tags old.unit.rows ≡ unit_tags (front ++ (step.now ∷ before))
    tags = ap unit_tags is ∙ sym (tags_same front before step.now s step.station)

-- ---- fewer rows are above the number

count_front : (p : Row → Bool) (front before : List Row) (s : Row) → count_by p (front ++ (s ∷ before)) ≡ count_by p front + (cond (p s) 1 0 + count_by p before)
count_front p [] before s = omega (arith, count_cons p s before)
count_front p (y ∷ ys) before s = omega (arith, count_front p ys before s, count_cons p y (ys ++ (s ∷ before)), count_cons p y ys)

count_less : (p q : Row → Bool) (rows : List Row) → ((r : Row) → p r ≡ true → q r ≡ true) → count_by p rows ≤ count_by q rows
count_less p q [] h = omega arith
count_less p q (r ∷ rows) h = by_test (p r) (q r) refl refl (count_cons p r rows) (count_cons q r rows) (count_less p q rows h)
  where
    by_test : (b d : Bool) → p r ≡ b → q r ≡ d → count_by p (r ∷ rows) ≡ cond b 1 0 + count_by p rows → count_by q (r ∷ rows) ≡ cond d 1 0 + count_by q rows → count_by p rows ≤ count_by q rows → count_by p (r ∷ rows) ≤ count_by q (r ∷ rows)
    by_test true true e f g i ih = omega (arith, g, i, ih)
    by_test true false e f g i ih = absurd (apart (h r e) f)
    by_test false true e f g i ih = omega (arith, g, i, ih)
    by_test false false e f g i ih = omega (arith, g, i, ih)

abbrev pub above_count : Option ℕ → Parts → ℕ
above_count after p = count_by (λ (r : Row). is_above after r.station.row) p.unit.rows

pub fewer : (c : ℕ) (after : Option ℕ) (t : Turn) (old new : Parts) (n : ℕ) (made : List Issued) → Taken c after t old new n made → above_count (Some t.row) new < above_count after old
fewer c after t old new n made taken =
    let step : Step c n old new taken.front taken.before taken.row made = taken.step in
    let rows : new.unit.rows ≡ taken.front ++ (step.now ∷ taken.before) = ap (λ (p : Parts). p.unit.rows) step.parts in
    let was : above_count after old ≡ count_by above taken.front + (cond (above taken.row) 1 0 + count_by above taken.before) = ap (count_by above) taken.is ∙ count_front above taken.front taken.before taken.row in
    let now : above_count (Some t.row) new ≡ count_by higher taken.front + (cond (higher step.now) 1 0 + count_by higher taken.before) = ap (count_by higher) rows ∙ count_front higher taken.front taken.before step.now in
    let here : cond {A = ℕ} (above taken.row) 1 0 ≡ 1 = ap (λ b. cond {A = ℕ} b 1 0) (ap (is_above after) taken.number ∙ taken.above) in
    let there : cond {A = ℕ} (higher step.now) 1 0 ≡ 0 = ap (λ b. cond {A = ℕ} b 1 0) (ap (λ (x : Station). nat_lt t.row x.row) step.station ∙ (ap (nat_lt t.row) taken.number ∙ own t.row)) in
    omega (arith, was, now, here, there, count_less higher above taken.front less, count_less higher above taken.before less)
  where
    above : Row → Bool
    above r = is_above after r.station.row

    higher : Row → Bool
    higher r = is_above (Some t.row) r.station.row

    own : (n : ℕ) → nat_lt n n ≡ false
    own n = by_test (nat_lt n n) refl
      where
        by_test : (b : Bool) → nat_lt n n ≡ b → b ≡ false
        by_test true e = let l : n < n = ltb-true n n e in absurd (omega arith)
        by_test false e = refl

    less : (r : Row) → is_above (Some t.row) r.station.row ≡ true → is_above after r.station.row ≡ true
    less r e = by_after after taken.above
      where
        by_after : (o : Option ℕ) → is_above o t.row ≡ true → is_above o r.station.row ≡ true
        by_after None h = refl
        by_after (Some m) h =
            let a : m < t.row = ltb-true m t.row h in
            let b : t.row < r.station.row = ltb-true t.row r.station.row e in
            lt-ltb m r.station.row (omega arith)
