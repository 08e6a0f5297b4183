-- The parts fit together after a turn.
use Rattle.std.proofs.Common.{◌≡◌, ℕ, suc, ◌+◌, ◌<◌, ◌≤◌, Bool, true, false, cond, List, [], ◌∷◌, ◌++◌, Option, Some, None, refl, sym, ap, ◌∙◌, subst, arith, length, length-append, take}
use Rattle.std.specs.Prelude.{◌&&◌, ◌-◌, not, max, map, filter, All, count_by}
use Rattle.std.proofs.lemmas.Bool.{and_parts, lt-ltb, ltb-true}
use Rattle.std.proofs.Math.Nat.{max-le}
use Rattle.std.proofs.lemmas.List.Elements.{All-cons, All-head, All-tail, All-nil}
use Rattle.pisa_isa.specs.declared.classes.AccessKind.{AccessKind}
use Rattle.pisa_isa.specs.declared.classes.AccessKind.TheVariants as access
use Rattle.pisa_isa.specs.Classes.{access_of}
use Rattle.mem_hier.specs.Stands.{Held, references_of, last_cycle_of}
use Rattle.bpred_unit.specs.Stands.{cells_of, IsTop}
use Rattle.fu_pool.specs.declared.pools.Pool as units
use Rattle.fu_pool.specs.declared.pools.Pool.TheVariants as pool
use Rattle.fu_pool.specs.Takes.{Units, units_in}
use Rattle.lsq_core.specs.Queue.{Entry, Queue}
use Rattle.ruu_core.specs.declared.station.Station.{Station}
use Rattle.ruu_core.specs.Window as unit
use Rattle.ruu_core.specs.Window.{Window, is_above}
use Rattle.ooo_front.specs.declared.row.FetchRow.{FetchRow}
use Rattle.core_parts.specs.declared.addresses.MemoryRow.{MemoryRow}
use Rattle.core_parts.specs.declared.parts.Parts.{Parts}
use Rattle.core_parts.specs.Addresses.{AddressList}
use Rattle.core_parts.specs.Fits as fits
use Rattle.core_parts.specs.Fits.{Fits, Tag, IsBehind, unit_tags, queue_tags, address_tags}
use Rattle.core_parts.proofs.Lists.{count_cons}
use Rattle.core_commit.specs.Turn.{Leaves, Turns, Refers, is_memory, left_queue, left_addresses, stored_address}
use Rattle.core_commit.proofs.Lasts.{ends_in}
use Rattle.core_commit.proofs.Whole.{leaving_some}

-- ---- lists without their last item

snoc_same : {X : Type 0} (xs ys : List X) (a b : X) → xs ++ (a ∷ []) ≡ ys ++ (b ∷ []) → xs ≡ ys
snoc_same [] [] a b e = refl
snoc_same {X = X} (x ∷ xs) (y ∷ ys) a b e =
    let f : xs ++ (a ∷ []) ≡ ys ++ (b ∷ []) = cc in
    let g : x ≡ y = cc in
    ap (λ l. x ∷ l) (snoc_same xs ys a b f) ∙ ap (λ z. z ∷ ys) g
snoc_same [] (y ∷ ys) a b e = absurd (omega (arith, ap length e, length-append ys (b ∷ [])))
snoc_same (x ∷ xs) [] a b e = absurd (omega (arith, ap length e, length-append xs (a ∷ [])))

without_last : {X Y : Type 0} (f : X → Y) (xs : List X) (ys : List Y) (y : Y) → map f xs ≡ ys ++ (y ∷ []) → map f (take (length xs - 1) xs) ≡ ys
without_last f [] [] y e = absurd cc
without_last f [] (z ∷ ys) y e = absurd cc
without_last f (x ∷ []) ys y e =
    let n : length (x ∷ []) - 1 ≡ 0 = omega arith in ap (λ k. map f (take k (x ∷ []))) n ∙ snoc_same [] ys (f x) y e
without_last {X = X} {Y = Y} f (x ∷ (w ∷ xs)) [] y e = absurd (two (map f xs) e)
  where
    two : (l : List Y) → f x ∷ (f w ∷ l) ≡ y ∷ [] → ⊥
    two l e = cc
without_last {Y = Y} f (x ∷ (w ∷ xs)) (z ∷ ys) y e =
    let g : f x ≡ z = cc in
    let h : f w ∷ map f xs ≡ ys ++ (y ∷ []) = cc in
    let n : length (x ∷ (w ∷ xs)) - 1 ≡ suc (length (w ∷ xs) - 1) = omega arith in
    ap (λ k. map f (take k (x ∷ (w ∷ xs)))) n
    ∙ (ap (λ v. v ∷ map f (take (length (w ∷ xs) - 1) (w ∷ xs))) g ∙ ap (λ l. z ∷ l) (without_last f (w ∷ xs) ys y h))

-- a load or store by its row
abbrev tag_of : unit.Row → Tag
tag_of u = record { row = u.station.row; store = unit.is_store u.station }

pub tags_some : (xs : List unit.Row) (u : unit.Row) → fits.is_memory u ≡ true
    → unit_tags (xs ++ (u ∷ [])) ≡ unit_tags xs ++ (record { row = u.station.row; store = unit.is_store u.station } ∷ [])
tags_some [] u e = ap (λ b. map {B = Tag} (λ u. record { row = u.station.row; store = unit.is_store u.station }) (cond b (u ∷ []) [])) e
tags_some (x ∷ xs) u e = by_case (fits.is_memory x) (tags_some xs u e)
  where
    by_case : (b : Bool) → unit_tags (xs ++ (u ∷ [])) ≡ unit_tags xs ++ (record { row = u.station.row; store = unit.is_store u.station } ∷ [])
        → map {B = Tag} (λ u. record { row = u.station.row; store = unit.is_store u.station }) (cond b (x ∷ filter fits.is_memory (xs ++ (u ∷ []))) (filter fits.is_memory (xs ++ (u ∷ []))))
        ≡ map {B = Tag} (λ u. record { row = u.station.row; store = unit.is_store u.station }) (cond b (x ∷ filter fits.is_memory xs) (filter fits.is_memory xs)) ++ (record { row = u.station.row; store = unit.is_store u.station } ∷ [])
    by_case true ih = ap (λ (l : List Tag). tag_of x ∷ l) ih
    by_case false ih = ih

tags_none : (xs : List unit.Row) (u : unit.Row) → fits.is_memory u ≡ false → unit_tags (xs ++ (u ∷ [])) ≡ unit_tags xs
tags_none [] u e = ap (λ b. map {B = Tag} (λ u. record { row = u.station.row; store = unit.is_store u.station }) (cond b (u ∷ []) [])) e
tags_none (x ∷ xs) u e = by_case (fits.is_memory x) (tags_none xs u e)
  where
    by_case : (b : Bool) → unit_tags (xs ++ (u ∷ [])) ≡ unit_tags xs
        → map {B = Tag} (λ u. record { row = u.station.row; store = unit.is_store u.station }) (cond b (x ∷ filter fits.is_memory (xs ++ (u ∷ []))) (filter fits.is_memory (xs ++ (u ∷ []))))
        ≡ map {B = Tag} (λ u. record { row = u.station.row; store = unit.is_store u.station }) (cond b (x ∷ filter fits.is_memory xs) (filter fits.is_memory xs))
    by_case true ih = ap (λ (l : List Tag). tag_of x ∷ l) ih
    by_case false ih = ih

all_front : {X : Type 0} (P : X → Type 0) (xs : List X) (x : X) → All P (xs ++ (x ∷ [])) → All P xs
all_front P [] x h = All-nil P
all_front P (y ∷ xs) x h = All-cons P y xs (All-head P y (xs ++ (x ∷ [])) h) (all_front P xs x (All-tail P y (xs ++ (x ∷ [])) h))

count_front : (p : unit.Row → Bool) (xs : List unit.Row) (x : unit.Row) → p x ≡ false → count_by p (xs ++ (x ∷ [])) ≡ count_by p xs
count_front p [] x e =
    let k : cond {A = ℕ} (p x) 1 0 ≡ 0 = ap (λ b. cond {A = ℕ} b 1 0) e in omega (arith, count_cons p x [], k)
count_front p (y ∷ xs) x e = omega (arith, count_cons p y (xs ++ (x ∷ [])), count_cons p y xs, count_front p xs x e)

-- ---- times

before_above : (c : ℕ) (m : Option ℕ) → unit.is_before c m ≡ true → is_above m c ≡ true
before_above c None e = refl
before_above c (Some t) e = e

later_above : (c : ℕ) (a b : Option ℕ) → is_above a c ≡ true → is_above b c ≡ true → is_above (unit.later a b) c ≡ true
later_above c None b e f = f
later_above c (Some x) None e f = e
later_above c (Some x) (Some y) e f =
    let i : x < c = ltb-true x c e in
    let j : y < c = ltb-true y c f in
    let m : max x y ≤ c - 1 = max-le (omega (arith, i)) (omega (arith, j)) in
    lt-ltb (max x y) c (omega (arith, m, i))

store_no_load : (s : Station) → unit.is_store s ≡ true → unit.is_load s ≡ false
store_no_load s e = by_inert s.inert (access_of s.instr.op) e
  where
    by_inert : (b : Bool) (k : AccessKind) → (not b && unit.is_store_kind k) ≡ true → (not b && unit.is_load_kind k) ≡ false
    by_inert true k e = refl
    by_inert false access.Nothing e = absurd cc
    by_inert false access.Load e = absurd cc
    by_inert false access.Store e = refl

pub done_finished : (c : ℕ) (u : unit.Row) → unit.is_done (unit.is_before c) [] u ≡ true → unit.is_before c (unit.finished u) ≡ true
done_finished c u e = by_store (unit.is_store u.station) refl e
  where
    by_load : (b : Bool) → b ≡ false → unit.is_before c u.written ≡ true → unit.is_before c (cond b u.returned u.written) ≡ true
    by_load true e h = absurd cc
    by_load false e h = h

    by_store : (b : Bool) → unit.is_store u.station ≡ b
        → cond b (unit.is_before c u.written && unit.second_done (unit.is_before c) [] u) (unit.is_before c (unit.finished u)) ≡ true → unit.is_before c (unit.finished u) ≡ true
    by_store true f h =
        by_load (unit.is_load u.station) (store_no_load u.station f) (and_parts (unit.is_before c u.written) (unit.second_done (unit.is_before c) [] u) h).0
    by_store false f h = h

-- ---- the whole

module _ (c n : ℕ) (old new : Parts) (u : unit.Row) (f : Fits c n old) (first : unit.first old.unit.rows ≡ Some u) (due : unit.commits c u ≡ true)
    (l : Leaves c u.station old new) where
  ends : old.unit.rows ≡ take (length old.unit.rows - 1) old.unit.rows ++ (u ∷ [])
  ends = ends_in old.unit.rows u first

  rows_now : new.unit.rows ≡ take (length old.unit.rows - 1) old.unit.rows
  rows_now = ap (λ (w : Window). w.rows) l.unit

  queue_size : (b : Bool) (q q' : Queue) → q' ≡ left_queue b q → q'.size ≡ q.size
  queue_size true q q' e = ap (λ (x : Queue). x.size) e
  queue_size false q q' e = ap (λ (x : Queue). x.size) e

  queue_last : (b : Bool) (q q' : Queue) → q' ≡ left_queue b q → q'.last ≡ q.last
  queue_last true q q' e = ap (λ (x : Queue). x.last) e
  queue_last false q q' e = ap (λ (x : Queue). x.last) e

  address_size : (b : Bool) (a a' : AddressList) → a' ≡ left_addresses b a → a'.size ≡ a.size
  address_size true a a' e = ap (λ (x : AddressList). x.size) e
  address_size false a a' e = ap (λ (x : AddressList). x.size) e

  units_same : (b : Bool) (addr : ℕ) (v v' : Units) (h h' : Held) → Refers b c addr v v' h h' → (p : units.Pool) → units_in v' p ≡ units_in v p
  units_same true addr v v' h h' r p = r.sizes p
  units_same false addr v v' h h' r p = ap (λ x. units_in x p) r.0

  pools_last : (b : Bool) (addr : ℕ) (v v' : Units) (h h' : Held) → Refers b c addr v v' h h' → v.last ≤ c → v'.last ≤ c
  pools_last true addr v v' h h' r le = omega (arith, r.last)
  pools_last false addr v v' h h' r le = subst (λ (x : Units). x.last ≤ c) (sym r.0) le

  hier_last : (b : Bool) (addr : ℕ) (v v' : Units) (h h' : Held) → Refers b c addr v v' h h' → last_cycle_of h ≤ c → last_cycle_of h' ≤ c
  hier_last true addr v v' h h' r le = omega (arith, r.referred.last_cycle)
  hier_last false addr v v' h h' r le = subst (λ x. last_cycle_of x ≤ c) (sym r.1) le

  referred : (b : Bool) (addr : ℕ) (v v' : Units) (h h' : Held) → Refers b c addr v v' h h' → references_of h' ≤ references_of h + 1
  referred true addr v v' h h' r = omega (arith, r.referred.references)
  referred false addr v v' h h' r = omega (arith, ap references_of r.1)

  past_now : is_above new.unit.past c ≡ true
  past_now =
      subst (λ (w : Window). is_above w.past c ≡ true) (sym l.unit)
      (subst (λ o. is_above (unit.later old.unit.past (unit.done_cycle o)) c ≡ true) (sym first)
      (later_above c old.unit.past (unit.finished u) f.time.unit (before_above c (unit.finished u) (done_finished c u (and_parts _ _ due).1))))

  tags_now : {A : Type 0} (tag : A → Tag) (b : Bool) (xs : List A) → is_memory u.station ≡ b → map tag xs ≡ unit_tags old.unit.rows
      → map tag (cond b (take (length xs - 1) xs) xs) ≡ unit_tags new.unit.rows
  tags_now tag true xs e h =
      without_last tag xs (unit_tags (take (length old.unit.rows - 1) old.unit.rows)) (record { row = u.station.row; store = unit.is_store u.station })
      (h ∙ (ap unit_tags ends ∙ tags_some (take (length old.unit.rows - 1) old.unit.rows) u e))
      ∙ ap unit_tags (sym rows_now)
  tags_now tag false xs e h = h ∙ (ap unit_tags ends ∙ (tags_none (take (length old.unit.rows - 1) old.unit.rows) u e ∙ ap unit_tags (sym rows_now)))

  queue_entries : (b : Bool) (q q' : Queue) → q' ≡ left_queue b q → q'.entries ≡ cond b (take (length q.entries - 1) q.entries) q.entries
  queue_entries true q q' e = ap (λ (x : Queue). x.entries) e
  queue_entries false q q' e = ap (λ (x : Queue). x.entries) e

  address_rows : (b : Bool) (a a' : AddressList) → a' ≡ left_addresses b a → a'.rows ≡ cond b (take (length a.rows - 1) a.rows) a.rows
  address_rows true a a' e = ap (λ (x : AddressList). x.rows) e
  address_rows false a a' e = ap (λ (x : AddressList). x.rows) e

  not_wrong : u.station.wrong ≡ false
  not_wrong = by_value u.station.wrong (and_parts _ _ due).0
    where
      by_value : (b : Bool) → not b ≡ true → b ≡ false
      by_value true e = absurd cc
      by_value false e = refl

  fits_left : Fits c (n + 1) new
  fits_left =
      subst (Fits c (n + 1)) (sym l.same)
      (record {
        sizes = record {
          allowed = f.sizes.allowed;
          unit = ap (λ (w : Window). w.size) l.unit ∙ f.sizes.unit;
          queue = queue_size (is_memory u.station) old.queue new.queue l.queue ∙ f.sizes.queue;
          addresses = address_size (is_memory u.station) old.addresses new.addresses l.addresses ∙ f.sizes.addresses;
          front = f.sizes.front;
          width = f.sizes.width;
          overlay = f.sizes.overlay;
          alus = units_same (unit.is_store u.station) (stored_address u.station) old.pools new.pools old.hier new.hier l.refers pool.Alu ∙ f.sizes.alus;
          mults = units_same (unit.is_store u.station) (stored_address u.station) old.pools new.pools old.hier new.hier l.refers pool.Mult ∙ f.sizes.mults;
          ports = units_same (unit.is_store u.station) (stored_address u.station) old.pools new.pools old.hier new.hier l.refers pool.Port ∙ f.sizes.ports;
        };
        time = record {
          cycle = f.time.cycle;
          unit = past_now;
          pools = pools_last (unit.is_store u.station) (stored_address u.station) old.pools new.pools old.hier new.hier l.refers f.time.pools;
          front = f.time.front;
          hier = hier_last (unit.is_store u.station) (stored_address u.station) old.pools new.pools old.hier new.hier l.refers f.time.hier;
        };
        numbers = record {
          references = omega (arith, f.numbers.references, referred (unit.is_store u.station) (stored_address u.station) old.pools new.pools old.hier new.hier l.refers);
          rows = f.numbers.rows;
          instructions = f.numbers.instructions;
        };
        agree = record {
          queue =
              ap queue_tags (queue_entries (is_memory u.station) old.queue new.queue l.queue)
              ∙ tags_now (λ (e : Entry). record { row = e.row; store = e.store }) (is_memory u.station) old.queue.entries refl f.agree.queue;
          addresses =
              ap address_tags (address_rows (is_memory u.station) old.addresses new.addresses l.addresses)
              ∙ tags_now (λ (x : MemoryRow). record { row = x.row; store = x.store }) (is_memory u.station) old.addresses.rows refl f.agree.addresses;
          behind = subst (λ (w : Window). IsBehind w.last old.front) (sym l.unit) f.agree.behind;
          memory_behind = subst (λ m. IsBehind m old.front) (sym (queue_last (is_memory u.station) old.queue new.queue l.queue)) f.agree.memory_behind;
          tops =
              subst (λ n. All (λ (x : unit.Row). IsTop n x.station.top) new.unit.rows) (sym l.cells)
              (subst (λ l. All (λ (x : unit.Row). IsTop (cells_of old.predictor) x.station.top) l) (sym rows_now)
              (all_front (λ (x : unit.Row). IsTop (cells_of old.predictor) x.station.top) (take (length old.unit.rows - 1) old.unit.rows) u
              (subst (λ l. All (λ (x : unit.Row). IsTop (cells_of old.predictor) x.station.top) l) ends f.agree.tops)));
          waiting_tops = subst (λ n. All (λ (w : FetchRow). IsTop n w.top) old.front.rows) (sym l.cells) f.agree.waiting_tops;
          applied =
              subst (λ l. old.overlay.applied ≤ count_by (λ (x : unit.Row). x.station.wrong) l) (sym rows_now)
              (subst (λ n. old.overlay.applied ≤ n) (ap (count_by (λ (x : unit.Row). x.station.wrong)) ends ∙ count_front (λ (x : unit.Row). x.station.wrong) (take (length old.unit.rows - 1) old.unit.rows) u not_wrong) f.agree.applied);
        };
      })

pub fits_after : (c n : ℕ) (old new : Parts) (answer : Option Station) → Fits c n old → Turns c n old new answer → Fits c (n + 1) new
fits_after c n old new None f t =
    subst (Fits c (n + 1)) (sym t.1)
    (record {
      sizes = f.sizes;
      time = f.time;
      numbers = record { references = omega (arith, f.numbers.references); rows = f.numbers.rows; instructions = f.numbers.instructions };
      agree = f.agree;
    })
fits_after c n old new (Some s) f t =
    let it = leaving_some c n old s (unit.first old.unit.rows) t.0 in
    fits_left c n old new it.0 f it.1 (and_parts _ _ it.2.passes).0 (subst (λ x. Leaves c x old new) (sym it.2.is) t.1)
