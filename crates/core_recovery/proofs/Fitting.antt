-- The parts fit together after a recovery, and behind what the queue learns.
use Rattle.std.proofs.Common.{◌≡◌, ℕ, ◌+◌, ◌<◌, ◌≤◌, Bool, true, false, cond, List, [], ◌∷◌, Option, Some, None, refl, sym, ap, ◌∙◌, subst, arith}
use Rattle.std.specs.Prelude.{◌&&◌, map, filter, All, option_map, nat_le, nat_lt}
use Rattle.std.proofs.lemmas.Bool.{ltb-true, lt-ltb, leb-true, le-leb, and_parts, and_from}
use Rattle.std.proofs.lemmas.List.Elements.{All-head, All-tail, All-nil, All-filter}
use Rattle.bpred_unit.specs.declared.predictor.Predictor.{Predictor}
use Rattle.bpred_unit.specs.Stands.{cells_of, IsTop}
use Rattle.lsq_core.specs.Queue.{Entry, Queue}
use Rattle.ruu_core.specs.declared.station.Station.{Station}
use Rattle.ruu_core.specs.Window as unit
use Rattle.ruu_core.specs.Window.{Window, is_row, row_of, rises_to, falls_below}
use Rattle.ooo_front.specs.declared.row.FetchRow.{FetchRow}
use Rattle.ooo_front.specs.Fetching.{FrontEnd}
use Rattle.ooo_front.specs.Stands.{redirected}
use Rattle.spec_state.specs.Overlay.{Overlaid}
use Rattle.core_parts.specs.Addresses.{AddressList, up_to}
use Rattle.core_parts.specs.declared.addresses.MemoryRow.{MemoryRow}
use Rattle.core_parts.specs.declared.parts.Parts.{Parts}
use Rattle.core_parts.specs.Fits.{Fits, Tag, IsBehind, is_memory, unit_tags, queue_tags, address_tags}
use Rattle.core_recovery.specs.Recovery.{Squashes, SquashesAfter}
use Rattle.core_recovery.proofs.Learns.{Keeps}

pub top_of : (cells : Option ℕ) (row : ℕ) (rows : List unit.Row) (s : Station) → option_map (λ (r : unit.Row). r.station) (row_of row rows) ≡ Some s
    → All (λ (u : unit.Row). IsTop cells u.station.top) rows → IsTop cells s.top
top_of cells row [] s e h = absurd cc
top_of cells row (r ∷ rows) s e h = by_row (is_row row r) e (λ f. top_of cells row rows s f (All-tail (λ (u : unit.Row). IsTop cells u.station.top) r rows h))
  where
    by_row : (b : Bool) → option_map (λ (r : unit.Row). r.station) (cond b (Some r) (row_of row rows)) ≡ Some s
        → (option_map (λ (r : unit.Row). r.station) (row_of row rows) ≡ Some s → IsTop cells s.top) → IsTop cells s.top
    by_row true e ih =
        let same : r.station ≡ s = cc in subst (λ (x : Station). IsTop cells x.top) same (All-head (λ (u : unit.Row). IsTop cells u.station.top) r rows h)
    by_row false e ih = ih e

-- ---- tags of what isn't above the row

abbrev within : ℕ → Tag → Bool
within row t = nat_le t.row row

abbrev tag_of : unit.Row → Tag
tag_of u = record { row = u.station.row; store = unit.is_store u.station }

queue_within : (row : ℕ) (entries : List Entry) → queue_tags (filter (λ (e : Entry). nat_le e.row row) entries) ≡ filter (within row) (queue_tags entries)
queue_within row [] = refl
queue_within row (e ∷ entries) = by_test (nat_le e.row row) (queue_within row entries)
  where
    by_test : (b : Bool) → queue_tags (filter (λ (e : Entry). nat_le e.row row) entries) ≡ filter (within row) (queue_tags entries)
        → queue_tags (cond b (e ∷ filter (λ (e : Entry). nat_le e.row row) entries) (filter (λ (e : Entry). nat_le e.row row) entries))
        ≡ cond b (record { row = e.row; store = e.store } ∷ filter (within row) (queue_tags entries)) (filter (within row) (queue_tags entries))
    by_test true ih = ap (λ (l : List Tag). record { row = e.row; store = e.store } ∷ l) ih
    by_test false ih = ih

abbrev tags_in : List unit.Row → List Tag
tags_in rows = map {B = Tag} (λ (u : unit.Row). record { row = u.station.row; store = unit.is_store u.station }) rows

unit_within : (row : ℕ) (rows : List unit.Row) → unit_tags (filter (λ (r : unit.Row). nat_le r.station.row row) rows) ≡ filter (within row) (unit_tags rows)
unit_within row [] = refl
unit_within row (u ∷ rows) = by_tests (nat_le u.station.row row) (is_memory u) refl refl (unit_within row rows)
  where
    kept : List unit.Row
    kept = filter (λ (r : unit.Row). nat_le r.station.row row) rows

    by_tests : (b d : Bool) → nat_le u.station.row row ≡ b → is_memory u ≡ d → unit_tags (filter (λ (r : unit.Row). nat_le r.station.row row) rows) ≡ filter (within row) (unit_tags rows)
        → unit_tags (cond b (u ∷ filter (λ (r : unit.Row). nat_le r.station.row row) rows) (filter (λ (r : unit.Row). nat_le r.station.row row) rows))
        ≡ filter (within row) (tags_in (cond d (u ∷ filter is_memory rows) (filter is_memory rows)))
    by_tests true true e f ih =
        ap (λ d. tags_in (cond d (u ∷ filter is_memory (filter (λ (r : unit.Row). nat_le r.station.row row) rows)) (filter is_memory (filter (λ (r : unit.Row). nat_le r.station.row row) rows)))) f
        ∙ (ap (λ (l : List Tag). tag_of u ∷ l) ih
        ∙ sym (ap (λ b. cond b (tag_of u ∷ filter (within row) (unit_tags rows)) (filter (within row) (unit_tags rows))) e))
    by_tests true false e f ih =
        ap (λ d. tags_in (cond d (u ∷ filter is_memory (filter (λ (r : unit.Row). nat_le r.station.row row) rows)) (filter is_memory (filter (λ (r : unit.Row). nat_le r.station.row row) rows)))) f ∙ ih
    by_tests false true e f ih =
        ih ∙ sym (ap (λ b. cond b (tag_of u ∷ filter (within row) (unit_tags rows)) (filter (within row) (unit_tags rows))) e)
    by_tests false false e f ih = ih

-- tags whose rows fall
tags_below : ℕ → List Tag → Bool
tags_below n [] = true
tags_below n (t ∷ older) = nat_lt t.row n && tags_below t.row older

below_more : (m n : ℕ) (tags : List Tag) → m ≤ n → tags_below m tags ≡ true → tags_below n tags ≡ true
unfolding tags_below
below_more m n [] le h = refl
below_more m n (t ∷ older) le h =
    let (less, rest) = and_parts (nat_lt t.row m) (tags_below t.row older) h in
    let less' : t.row < m = ltb-true t.row m less in
    and_from (nat_lt t.row n) (tags_below t.row older) (lt-ltb t.row n (omega (arith, less', le))) rest

unit_below : (n : ℕ) (rows : List unit.Row) → falls_below n rows ≡ true → tags_below n (unit_tags rows) ≡ true
unfolding tags_below
unit_below n [] h = refl
unit_below n (u ∷ rows) h =
    let (less, rest) = and_parts (nat_lt u.station.row n) (falls_below u.station.row rows) h in
    by_memory (is_memory u) less (unit_below u.station.row rows rest)
  where
    by_memory : (b : Bool) → nat_lt u.station.row n ≡ true → tags_below u.station.row (unit_tags rows) ≡ true
        → tags_below n (tags_in (cond b (u ∷ filter is_memory rows) (filter is_memory rows))) ≡ true
    by_memory true less ih = and_from (nat_lt u.station.row n) (tags_below u.station.row (unit_tags rows)) less ih
    by_memory false less ih = let l : u.station.row < n = ltb-true u.station.row n less in below_more u.station.row n (unit_tags rows) (omega (arith, l)) ih

all_within : (row n : ℕ) (tags : List Tag) → n ≤ row + 1 → tags_below n tags ≡ true → filter (within row) tags ≡ tags
unfolding tags_below
all_within row n [] le h = refl
all_within row n (t ∷ older) le h =
    let (less, rest) = and_parts (nat_lt t.row n) (tags_below t.row older) h in
    let less' : t.row < n = ltb-true t.row n less in
    ap (λ b. cond b (t ∷ filter (within row) older) (filter (within row) older)) (le-leb t.row row (omega (arith, less', le)))
    ∙ ap (λ (l : List Tag). t ∷ l) (all_within row t.row older (omega (arith, less', le)) rest)

address_within : (row n : ℕ) (xs : List MemoryRow) → tags_below n (address_tags xs) ≡ true → address_tags (up_to row xs) ≡ filter (within row) (address_tags xs)
unfolding tags_below
address_within row n [] h = refl
address_within row n (x ∷ xs) h =
    let (less, rest) = and_parts (nat_lt x.row n) (tags_below x.row (address_tags xs)) h in
    by_test (nat_le x.row row) refl rest (address_within row x.row xs rest)
  where
    by_test : (b : Bool) → nat_le x.row row ≡ b → tags_below x.row (address_tags xs) ≡ true → address_tags (up_to row xs) ≡ filter (within row) (address_tags xs)
        → address_tags (cond b (x ∷ xs) (up_to row xs))
        ≡ cond b (record { row = x.row; store = x.store } ∷ filter (within row) (address_tags xs)) (filter (within row) (address_tags xs))
    by_test true e rest ih =
        let le : x.row ≤ row = leb-true x.row row e in
        sym (ap (λ (l : List Tag). record { row = x.row; store = x.store } ∷ l) (all_within row x.row (address_tags xs) (omega (arith, le)) rest))
    by_test false e rest ih = ih

rises_below : (last : Option ℕ) (rows : List unit.Row) → rises_to last rows ≡ true → (n : ℕ) × (falls_below n rows ≡ true)
rises_below None [] h = (0, refl)
rises_below None (r ∷ rows) h = absurd cc
rises_below (Some l) rows h = (l + 1, h)

-- ---- the whole

still_behind : (last : Option ℕ) (pc earliest : ℕ) (f : FrontEnd) → IsBehind last f → IsBehind last (redirected pc earliest f)
still_behind None pc earliest f h = tt
still_behind (Some l) pc earliest f h = omega (arith, h)

pub fits_squashed : (c row : ℕ) (s : Station) (old new : Parts) → rises_to old.unit.last old.unit.rows ≡ true → Fits c 32 old → Squashes c row s old new → Fits c 32 new
fits_squashed c row s old new rises f sq =
    subst (Fits c 32) (sym sq.same)
    (record {
      sizes = record {
        allowed = f.sizes.allowed;
        unit = f.sizes.unit;
        queue = f.sizes.queue;
        addresses = f.sizes.addresses;
        front = f.sizes.front;
        width = f.sizes.width;
        overlay = sq.size ∙ f.sizes.overlay;
        alus = f.sizes.alus;
        mults = f.sizes.mults;
        ports = f.sizes.ports;
      };
      time = record { cycle = f.time.cycle; unit = f.time.unit; pools = f.time.pools; front = f.time.front; hier = f.time.hier };
      numbers = record { references = f.numbers.references; rows = f.numbers.rows; instructions = omega (arith, f.numbers.instructions) };
      agree = record {
        queue = queue_within row old.queue.entries ∙ (ap (filter (within row)) f.agree.queue ∙ sym (unit_within row old.unit.rows));
        addresses =
            address_within row (rises_below old.unit.last old.unit.rows rises).0 old.addresses.rows
            (ap (tags_below (rises_below old.unit.last old.unit.rows rises).0) f.agree.addresses
            ∙ unit_below (rises_below old.unit.last old.unit.rows rises).0 old.unit.rows (rises_below old.unit.last old.unit.rows rises).1)
            ∙ (ap (filter (within row)) f.agree.addresses ∙ sym (unit_within row old.unit.rows));
        behind = still_behind old.unit.last s.actual (c + old.config.penalty) old.front f.agree.behind;
        memory_behind = still_behind old.queue.last s.actual (c + old.config.penalty) old.front f.agree.memory_behind;
        tops =
            subst (λ n. All (λ (x : unit.Row). IsTop n x.station.top) (filter (λ (r : unit.Row). nat_le r.station.row row) old.unit.rows)) (sym sq.cells)
            (All-filter (λ (r : unit.Row). nat_le r.station.row row) (λ (x : unit.Row). IsTop (cells_of old.predictor) x.station.top) old.unit.rows f.agree.tops);
        waiting_tops = All-nil (λ (w : FetchRow). IsTop (cells_of new.predictor) w.top);
        applied = omega (arith, sq.overlay.applied);
      };
    })

pub fits_learned : (c : ℕ) (old : Parts) (q : Queue) → Fits c 32 old → Keeps old.queue q → Fits c 32 (record old { queue = q })
fits_learned c old q f k =
    record {
      sizes = record {
        allowed = f.sizes.allowed;
        unit = f.sizes.unit;
        queue = k.size ∙ f.sizes.queue;
        addresses = f.sizes.addresses;
        front = f.sizes.front;
        width = f.sizes.width;
        overlay = f.sizes.overlay;
        alus = f.sizes.alus;
        mults = f.sizes.mults;
        ports = f.sizes.ports;
      };
      time = record { cycle = f.time.cycle; unit = f.time.unit; pools = f.time.pools; front = f.time.front; hier = f.time.hier };
      numbers = record { references = f.numbers.references; rows = f.numbers.rows; instructions = f.numbers.instructions };
      agree = record {
        queue = k.tags ∙ f.agree.queue;
        addresses = f.agree.addresses;
        behind = f.agree.behind;
        memory_behind = subst (λ m. IsBehind m old.front) (sym k.last) f.agree.memory_behind;
        tops = f.agree.tops;
        waiting_tops = f.agree.waiting_tops;
        applied = f.agree.applied;
      };
    }

pub joined : (old : Parts) (u u' : Window) (q q' : Queue) (a a' : AddressList) (f f' : FrontEnd) (p : Predictor) (o : Overlaid) → u' ≡ u → q' ≡ q → a' ≡ a → f' ≡ f
    → record old { unit = u'; queue = q'; addresses = a'; front = f'; predictor = p; overlay = o; wrong = false }
    ≡ record old { unit = u; queue = q; addresses = a; front = f; predictor = p; overlay = o; wrong = false }
joined old u u' q q' a a' f f' p o e g h i = rw (e, g, h, i) refl

pub fits_after : (c row : ℕ) (old new : Parts) → rises_to old.unit.last old.unit.rows ≡ true → Fits c 32 old → SquashesAfter c row old new → Fits c 32 new
fits_after c row old new rises f sq = fits_squashed c row sq.0 old new rises f sq.2
