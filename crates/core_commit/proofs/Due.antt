-- What the calls of a turn ask, where a row is due.
use Rattle.std.proofs.Common.{◌≡◌, ℕ, suc, Bool, true, false, cond, List, [], ◌∷◌, ◌++◌, Option, Some, None, refl, sym, ap, ◌∙◌, arith, length, take}
use Rattle.std.specs.Prelude.{◌-◌, not, option_map, slice_get, is_some, is_none}
use Rattle.std.proofs.lemmas.Bool.{and_parts, and_from, ltb-true}
use Rattle.fu_pool.specs.declared.pools.Pool.TheVariants as pool
use Rattle.fu_pool.specs.Takes.{IsFree}
use Rattle.lsq_core.specs.Queue.{Entry, first_row}
use Rattle.ruu_core.specs.declared.station.Station.{Station}
use Rattle.ruu_core.specs.Window as unit
use Rattle.core_parts.specs.declared.parts.Parts.{Parts}
use Rattle.core_parts.specs.Fits.{Tag, unit_tags, queue_tags}
use Rattle.core_commit.specs.Turn.{if_may, may_leave, has_port, leaving, is_memory}
use Rattle.core_commit.proofs.Lasts.{ends_in}
use Rattle.core_commit.proofs.Fitting.{done_finished, tags_some}

-- the row that is due
record IsDue (c n : ℕ) (parts : Parts) (u : unit.Row) : Type 0 where
  commits : unit.commits c u ≡ true
  may : may_leave c n parts u.station ≡ true

due : (c n : ℕ) (parts : Parts) (o : Option unit.Row) → is_some (if_may c n parts (unit.head_of c o)) ≡ true → (u : unit.Row) × (o ≡ Some u) × IsDue c n parts u
due c n parts None e = absurd cc
due c n parts (Some u) e = (u, refl, by_test (unit.commits c u) refl e)
  where
    by_width : (b : Bool) → may_leave c n parts u.station ≡ b → unit.commits c u ≡ true → is_some (cond b (Some u.station) None) ≡ true → IsDue c n parts u
    by_width true f h e = record { commits = h; may = f }
    by_width false f h e = absurd cc

    by_test : (b : Bool) → unit.commits c u ≡ b → is_some (if_may c n parts (cond b (Some u.station) None)) ≡ true → IsDue c n parts u
    by_test true h e = by_width (may_leave c n parts u.station) refl h e
    by_test false h e = absurd cc

pub due_retires : (c n : ℕ) (parts : Parts) → is_some (leaving c n parts) ≡ true → unit.may_retire (unit.first parts.unit.rows) ≡ true
due_retires c n parts e =
    let it = due c n parts (unit.first parts.unit.rows) e in
    ap unit.may_retire it.1
    ∙ and_from _ _ (and_parts _ _ it.2.commits).0 (set (unit.finished it.0) (done_finished c it.0 (and_parts _ _ it.2.commits).1))
  where
    set : (m : Option ℕ) → unit.is_before c m ≡ true → not (is_none m) ≡ true
    set None e = absurd cc
    set (Some t) e = refl

station_is : (o : Option unit.Row) (u : unit.Row) (s : Station) → o ≡ Some u → option_map (λ (r : unit.Row). r.station) o ≡ Some s → u.station ≡ s
station_is (Some w) u s e f =
    let g : w ≡ u = cc in
    let h : w.station ≡ s = cc in
    ap (λ (r : unit.Row). r.station) (sym g) ∙ h
station_is None u s e f = absurd cc

pub due_leaves : (c n : ℕ) (parts : Parts) (s : Station) → is_some (leaving c n parts) ≡ true
    → option_map (λ (r : unit.Row). r.station) (unit.first parts.unit.rows) ≡ Some s → leaving c n parts ≡ Some s
due_leaves c n parts s e f =
    let it = due c n parts (unit.first parts.unit.rows) e in
    ap (λ o. if_may c n parts (unit.head_of c o)) it.1
    ∙ (ap (λ b. if_may c n parts (cond b (Some it.0.station) None)) it.2.commits
    ∙ (ap (λ b. cond b (Some it.0.station) None) it.2.may ∙ ap Some (station_is (unit.first parts.unit.rows) it.0 s it.1 f)))

pub none_due : (c n : ℕ) (parts : Parts) → is_some (leaving c n parts) ≡ false → leaving c n parts ≡ None
none_due c n parts e = by_value (leaving c n parts) e
  where
    by_value : (o : Option Station) → is_some o ≡ false → o ≡ None
    by_value None e = refl
    by_value (Some x) e = absurd cc

pub due_port : (c n : ℕ) (parts : Parts) (s : Station) → is_some (leaving c n parts) ≡ true
    → option_map (λ (r : unit.Row). r.station) (unit.first parts.unit.rows) ≡ Some s → unit.is_store s ≡ true → IsFree parts.pools pool.Port c
due_port c n parts s e f store =
    let it = due c n parts (unit.first parts.unit.rows) e in
    let is = station_is (unit.first parts.unit.rows) it.0 s it.1 f in
    let port : has_port true c parts.pools ≡ true =
    ap (λ b. has_port b c parts.pools) (sym store ∙ ap unit.is_store (sym is)) ∙ (and_parts _ _ it.2.may).1 in
    ltb-true _ _ port

last_tag : (entries : List Entry) (ys : List Tag) (y : Tag) → queue_tags entries ≡ ys ++ (y ∷ []) → first_row entries ≡ Some y.row
last_tag [] [] y e = absurd cc
last_tag [] (z ∷ ys) y e = absurd cc
last_tag (x ∷ []) [] y e =
    let g : record { row = x.row; store = x.store } ≡ y = cc in
    let n : length (x ∷ []) - 1 ≡ 0 = omega arith in
    ap (λ k. option_map (λ (e : Entry). e.row) (slice_get (x ∷ []) k)) n ∙ ap (λ (t : Tag). Some t.row) g
last_tag (x ∷ []) (z ∷ []) y e = absurd cc
last_tag (x ∷ []) (z ∷ (w ∷ ys)) y e = absurd cc
last_tag (x ∷ (w ∷ entries)) [] y e = absurd (two (queue_tags entries) e)
  where
    two : (l : List Tag) → record { row = x.row; store = x.store } ∷ (record { row = w.row; store = w.store } ∷ l) ≡ y ∷ [] → ⊥
    two l e = cc
last_tag (x ∷ (w ∷ entries)) (z ∷ ys) y e =
    let h : queue_tags (w ∷ entries) ≡ ys ++ (y ∷ []) = cc in
    let n : length (x ∷ (w ∷ entries)) - 1 ≡ suc (length (w ∷ entries) - 1) = omega arith in
    ap (λ k. option_map (λ (e : Entry). e.row) (slice_get (x ∷ (w ∷ entries)) k)) n ∙ last_tag (w ∷ entries) ys y h

pub due_queued : (c n : ℕ) (parts : Parts) (s : Station) → is_some (leaving c n parts) ≡ true
    → option_map (λ (r : unit.Row). r.station) (unit.first parts.unit.rows) ≡ Some s → queue_tags parts.queue.entries ≡ unit_tags parts.unit.rows
    → is_memory s ≡ true → first_row parts.queue.entries ≡ Some s.row
due_queued c n parts s e f tags memory =
    let it = due c n parts (unit.first parts.unit.rows) e in
    let is = station_is (unit.first parts.unit.rows) it.0 s it.1 f in
    let ends = ends_in parts.unit.rows it.0 it.1 in
    last_tag parts.queue.entries (unit_tags (take (length parts.unit.rows - 1) parts.unit.rows)) (record { row = it.0.station.row; store = unit.is_store it.0.station })
    (tags ∙ (ap unit_tags ends ∙ tags_some (take (length parts.unit.rows - 1) parts.unit.rows) it.0 (ap is_memory is ∙ memory)))
    ∙ ap (λ (x : Station). Some x.row) is

pub due_some : (c n : ℕ) (parts : Parts) (s : Station) → unit.head_of c (unit.first parts.unit.rows) ≡ Some s → is_some (leaving c n parts) ≡ may_leave c n parts s
due_some c n parts s e = ap (λ o. is_some (if_may c n parts o)) e ∙ by_value (may_leave c n parts s)
  where
    by_value : (b : Bool) → is_some (cond b (Some s) None) ≡ b
    by_value true = refl
    by_value false = refl

pub due_none : (c n : ℕ) (parts : Parts) → unit.head_of c (unit.first parts.unit.rows) ≡ None → is_some (leaving c n parts) ≡ false
due_none c n parts e = ap (λ o. is_some (if_may c n parts o)) e
