-- The queue learns of the youngest entry alone, and rows that leave the front are the oldest.
use Rattle.std.proofs.Common.{◌≡◌, ℕ, suc, ◌+◌, ◌<◌, ◌≤◌, Bool, true, false, cond, List, [], ◌∷◌, ◌++◌, Option, Some, None, refl, sym, ap, ◌∙◌, subst, arith, length, length-append}
use Rattle.std.specs.Prelude.{◌&&◌, ◌||◌, ◌==◌, ◌-◌, ◌/◌, slice_get, nat_lt}
use Rattle.std.specs.List.{list_any}
use Rattle.std.proofs.lemmas.Bool.{and_parts, ltb-true, false_from_ne_true, eqb-true}
use Rattle.lsq_core.specs.Queue.{Entry, Queue, added, with_data, at_row, holds_store, set_once, is_above, rises_to, falls_below}
use Rattle.ruu_core.specs.declared.station.Station.{Station}
use Rattle.ruu_core.specs.Window as unit
use Rattle.ruu_core.specs.Window.{Window}
use Rattle.ooo_front.specs.Fetching.{FrontEnd}
use Rattle.ooo_front.specs.declared.row.FetchRow.{FetchRow}
use Rattle.ooo_front.specs.Stands.{oldest, queued_before, with_rows}
use Rattle.ooo_front.specs.Path.{IsPath}
use Rattle.core_parts.proofs.Lists.{same_number}
use Rattle.core_parts.specs.Addresses.{AddressList}
use Rattle.core_dispatch.specs.Turn.{address_at, entered_addresses, entered_queue, entry_at, entry_of, is_fed, is_memory, with_entry}

-- ---- the youngest entry

same_below : (row m : ℕ) (entries : List Entry) (change : Entry → Entry) → m ≤ row → falls_below m entries ≡ true → at_row row change entries ≡ entries
same_below row m [] change le h = refl
same_below row m (e ∷ entries) change le h =
    let p = and_parts (nat_lt e.row m) (falls_below e.row entries) h in
    let below : e.row < m = ltb-true e.row m p.0 in
    ap (λ b. cond b (change e) e ∷ at_row row change entries) (false_from_ne_true (e.row == row) (λ k. absurd (apart (eqb-true e.row row k) below)))
    ∙ ap (λ l. e ∷ l) (same_below row e.row entries change (omega (arith, le, below)) p.1)
  where
    apart : e.row ≡ row → e.row < m → ⊥
    apart k below = omega (arith, k, below, le)

pub others_same : (row : ℕ) (last : Option ℕ) (entries : List Entry) (change : Entry → Entry) → is_above last row ≡ true → rises_to last entries ≡ true
    → at_row row change entries ≡ entries
others_same row None [] change a h = refl
others_same row None (e ∷ entries) change a h = absurd cc
others_same row (Some last) entries change a h =
    let lt : last < row = ltb-true last row a in
    same_below row (last + 1) entries change (omega (arith, lt)) h

pub learns_youngest : (row c addr : ℕ) (store fed : Bool) (q : Queue) → (store && fed) ≡ true → is_above q.last row ≡ true → rises_to q.last q.entries ≡ true
    → with_data row c (added row store (addr / 8) q) ≡ with_entry (entry_at row store addr fed c) q
learns_youngest row c addr store fed q known a h =
    ap (λ b. record q { entries = cond b (record (fresh) { data_done = Some c }) fresh ∷ at_row row change q.entries; last = Some row }) (same_number row)
    ∙ (ap (λ l. record q { entries = record (fresh) { data_done = Some c } ∷ l; last = Some row }) (others_same row q.last q.entries change a h)
    ∙ ap (λ b. with_entry (record (fresh) { data_done = cond b (Some c) None }) q) (sym known))
  where
    fresh : Entry
    fresh = record { row = row; store = store; block = addr / 8; address = None; data_done = None }

    change : Entry → Entry
    change e = record e { data_done = set_once c e.data_done }

pub learns_nothing : (row c addr : ℕ) (store fed : Bool) (q : Queue) → (store && fed) ≡ false
    → added row store (addr / 8) q ≡ with_entry (entry_at row store addr fed c) q
learns_nothing row c addr store fed q known =
    ap (λ b. with_entry (record { row = row; store = store; block = addr / 8; address = None; data_done = cond b (Some c) None }) q) (sym known)

-- what the queue holds in the end
pub learned : (row c addr : ℕ) (store fed known : Bool) (q q1 q2 : Queue) → known ≡ (store && fed) → is_above q.last row ≡ true → rises_to q.last q.entries ≡ true
    → q1 ≡ added row store (addr / 8) q → q2 ≡ cond known (with_data row c q1) q1 → q2 ≡ with_entry (entry_at row store addr fed c) q
learned row c addr store fed true q q1 q2 e a h e1 e2 = e2 ∙ (ap (with_data row c) e1 ∙ learns_youngest row c addr store fed q (sym e) a h)
learned row c addr store fed false q q1 q2 e a h e1 e2 = e2 ∙ (e1 ∙ learns_nothing row c addr store fed q (sym e))

pub store_held : (row addr : ℕ) (store fed known : Bool) (q q1 : Queue) → known ≡ (store && fed) → q1 ≡ added row store (addr / 8) q → known ≡ true → holds_store row q1.entries ≡ true
store_held row addr true fed known q q1 e e1 k =
    ap (λ (x : Queue). holds_store row x.entries) e1 ∙ ap (λ b. (b && true) || list_any (λ (x : Entry). (x.row == row) && x.store) q.entries) (same_number row)
store_held row addr false fed known q q1 e e1 k = absurd (differ (sym k ∙ e))
  where
    differ : true ≡ false → ⊥
    differ e = cc

-- ---- the unit

-- the youngest row of the unit is the one that entered
pub is_there : (s : Station) (c : ℕ) (w w' : Window) → w' ≡ unit.dispatched s c w → unit.is_live s.row w'.rows ≡ true
is_there s c w w' e = ap (λ (x : Window). unit.is_live s.row x.rows) e ∙ ap (λ b. b || unit.is_live s.row w.rows) (same_number s.row)

pub fed_there : (s : Station) (c : ℕ) (w w' : Window) → w' ≡ unit.dispatched s c w → unit.passes (unit.second_done (unit.is_by c)) s.row w'.rows ≡ is_fed c w.rows s
fed_there s c w w' e =
    ap (λ (x : Window). unit.passes (unit.second_done (unit.is_by c)) s.row x.rows) e
    ∙ ap (λ b. cond b (is_fed c w.rows s) (unit.passes (unit.second_done (unit.is_by c)) s.row w.rows)) (same_number s.row)

pub entered_so : (s : Station) (c addr : ℕ) (w w' : Window) (memory store : Bool) (q q' : Queue) → w' ≡ unit.dispatched s c w → memory ≡ is_memory s → store ≡ unit.is_store s
    → q' ≡ entered_queue memory (entry_at s.row store addr (unit.passes (unit.second_done (unit.is_by c)) s.row w'.rows) c) q → q' ≡ entered_queue (is_memory s) (entry_of c w s addr) q
entered_so s c addr w w' memory store q q' e m t f =
    f ∙ (ap (λ b. entered_queue memory (entry_at s.row store addr b c) q) (fed_there s c w w' e)
    ∙ (ap (λ b. entered_queue b (entry_at s.row store addr (is_fed c w.rows s) c) q) m
    ∙ ap (λ b. entered_queue (is_memory s) (entry_at s.row b addr (is_fed c w.rows s) c) q) t))

pub addressed_so : (s : Station) (addr : ℕ) (memory store : Bool) (a a' : AddressList) → memory ≡ is_memory s → store ≡ unit.is_store s
    → a' ≡ entered_addresses memory (record { row = s.row; store = store; addr = addr }) a → a' ≡ entered_addresses (is_memory s) (address_at s addr) a
addressed_so s addr memory store a a' m t f =
    f ∙ (ap (λ b. entered_addresses b (record { row = s.row; store = store; addr = addr }) a) m
    ∙ ap (λ b. entered_addresses (is_memory s) (record { row = s.row; store = b; addr = addr }) a) t)

-- ---- the oldest waiting row

-- the last of these rows
pub last_is : {X : Type 0} (xs : List X) (x : X) → slice_get (xs ++ (x ∷ [])) (length (xs ++ (x ∷ [])) - 1) ≡ Some x
last_is [] x = ap (λ k. slice_get (x ∷ []) k) (one x)
  where
    one : {X : Type 0} (x : X) → length (x ∷ []) - 1 ≡ 0
    one x = omega arith
last_is {X = X} (y ∷ xs) x =
    let n : length (y ∷ (xs ++ (x ∷ []))) - 1 ≡ suc (length (xs ++ (x ∷ [])) - 1) = omega (arith, length-append xs (x ∷ [])) in
    ap (λ k. slice_get (y ∷ (xs ++ (x ∷ []))) k) n ∙ last_is xs x

-- numbers of waiting rows follow one another, up to the next one's
pub numbered : (xs : List FetchRow) (h : FetchRow) (number address at : ℕ) → IsPath (xs ++ (h ∷ [])) number address at → h.row + length (xs ++ (h ∷ [])) ≡ number
numbered [] h number address at p = omega (arith, p.0.row)
numbered (x ∷ xs) h number address at p =
    let ih : h.row + length (xs ++ (h ∷ [])) ≡ x.row = numbered xs h x.row x.pc x.fetched p.1 in
    omega (arith, ih, p.0.row)

pub number_of : (old new : FrontEnd) (h : FetchRow) → old ≡ with_rows (new.rows ++ (h ∷ [])) new → IsPath old.rows old.row old.pc old.earliest → h.row + length old.rows ≡ old.row
number_of old new h e p =
    let rows : old.rows ≡ new.rows ++ (h ∷ []) = ap (λ (f : FrontEnd). f.rows) e in
    ap (λ l. h.row + length l) rows ∙ numbered new.rows h old.row old.pc old.earliest (subst (λ l. IsPath l old.row old.pc old.earliest) rows p)

-- the row that leaves is the oldest
pub head_is : (c : ℕ) (old new : FrontEnd) (h x : FetchRow) → old ≡ with_rows (new.rows ++ (h ∷ [])) new → queued_before c (oldest old.rows) ≡ Some x → queued_before c (oldest old.rows) ≡ Some h
head_is c old new h x e f =
    let is : oldest old.rows ≡ Some h = ap (λ (y : FrontEnd). oldest y.rows) e ∙ last_is new.rows h in
    ap (queued_before c) is ∙ ap (λ b. cond b (Some h) None) (by_test (nat_lt h.queued c) (sym (ap (queued_before c) is) ∙ f))
  where
    by_test : (b : Bool) → cond b (Some h) None ≡ Some x → b ≡ true
    by_test true e = refl
    by_test false e = absurd cc
