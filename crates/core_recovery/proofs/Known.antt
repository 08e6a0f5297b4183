-- What the queue knows of stores after it learned is what is known by the cycle.
use Rattle.std.proofs.Common.{◌≡◌, ℕ, suc, ◌<◌, ◌≤◌, Bool, true, false, cond, List, [], ◌∷◌, ◌++◌, Option, Some, None, refl, sym, ap, ◌∙◌, subst, arith, length, append_assoc}
use Rattle.std.specs.Prelude.{◌&&◌, ◌==◌, is_some, reverse}
use Rattle.std.specs.Option.{option_and_then}
use Rattle.std.specs.List.{AllZip}
use Rattle.std.proofs.lemmas.Bool.{and_parts, lt-ltb}
use Rattle.std.proofs.lemmas.Bool.Decides.{nat_tests}
use Rattle.std.proofs.lemmas.List.{reverse-append}
use Rattle.pisa_isa.specs.declared.places.Place.{Place}
use Rattle.lsq_core.specs.Queue.{Entry, Queue, at_row, set_once}
use Rattle.ruu_core.specs.Window as unit
use Rattle.ooo_table.specs.Row.{Row, is_before}
use Rattle.ooo_table.specs.Execution.{uses_memory}
use Rattle.ooo_table.specs.Table.{Setting}
use Rattle.ooo_table.specs.Path.{execution}
use Rattle.ooo_table.specs.Done.{live, written, finished, has_produced, have_produced, producer}
use Rattle.ooo_table.specs.Later.{Each}
use Rattle.ooo_table.specs.CycleLaws.{SquashSpreads}
use Rattle.ooo_table.specs.Machine.{Given, setting_of}
use Rattle.core_parts.specs.declared.addresses.MemoryRow.{MemoryRow}
use Rattle.core_parts.specs.Rows.{Placed, pick, in_queue, Holds, HasAddress}
use Rattle.core_parts.proofs.Lists.{same_number}
use Rattle.core_parts.proofs.Live.{Fit, none_of, below_later, by_before, live_parts, kinds_of, have_live}
use Rattle.core_recovery.specs.Recovery.{address_noted, data_noted, learned, learned_of}
use Rattle.core_recovery.proofs.Least.{both}
use Rattle.core_recovery.proofs.Held.{differ, Found, IsFound}

-- ---- the entry that changes

-- numbers of entries from n on, and below n
abbrev IsFrom : ℕ → List Entry → Type 0
IsFrom n [] = Unit {0}
IsFrom n (e ∷ es) = (n ≤ e.row) × IsFrom n es

abbrev IsBelow : ℕ → List Entry → Type 0
IsBelow n [] = Unit {0}
IsBelow n (e ∷ es) = (e.row < n) × IsBelow n es

from_less : (m n : ℕ) (es : List Entry) → m ≤ n → IsFrom n es → IsFrom m es
from_less m n [] le h = tt
from_less m n (e ∷ es) le h = (omega (arith, le, h.0), from_less m n es le h.1)

from_last : (n : ℕ) (es : List Entry) (e : Entry) → IsFrom n es → n ≤ e.row → IsFrom n (es ++ (e ∷ []))
from_last n [] e h le = (le, tt)
from_last n (x ∷ es) e h le = (h.0, from_last n es e h.1 le)

below_more : (m n : ℕ) (es : List Entry) → m ≤ n → IsBelow m es → IsBelow n es
below_more m n [] le h = tt
below_more m n (e ∷ es) le h = (omega (arith, le, h.0), below_more m n es le h.1)

below_row : (row : ℕ) (f : Entry → Entry) (es : List Entry) → IsBelow row es → at_row row f es ≡ es
below_row row f [] h = refl
below_row row f (e ∷ es) h = ap (λ b. cond b (f e) e ∷ at_row row f es) (less e.row row h.0) ∙ ap (λ l. e ∷ l) (below_row row f es h.1)
  where
    less : (a b : ℕ) → a < b → (a == b) ≡ false
    less a b h = grind (arith, nat_tests)

-- a change of that row changes this entry alone
changed_there : (row : ℕ) (f : Entry → Entry) (ys : List Entry) (e : Entry) (es : List Entry) → IsFrom (suc row) ys → e.row ≡ row → IsBelow row es
    → at_row row f (ys ++ (e ∷ es)) ≡ ys ++ (f e ∷ es)
changed_there row f [] e es from is below =
    ap (λ b. cond b (f e) e ∷ at_row row f es) (ap (λ k. k == row) is ∙ same_number row) ∙ ap (λ l. f e ∷ l) (below_row row f es below)
changed_there row f (y ∷ ys) e es from is below =
    ap (λ b. cond b (f y) y ∷ at_row row f (ys ++ (e ∷ es))) (differ y.row row (omega (arith, from.0)))
    ∙ ap (λ l. y ∷ l) (changed_there row f ys e es from.1 is below)

-- an entry with its address and its data noted, or not
abbrev marked : Bool → Bool → ℕ → Entry → Entry
marked b d c e = record e { address = cond b (set_once c e.address) e.address; data_done = cond d (set_once c e.data_done) e.data_done }

noted : (b d : Bool) (row c : ℕ) (q : Queue) (ys : List Entry) (e : Entry) (es : List Entry) → q.entries ≡ ys ++ (e ∷ es) → IsFrom (suc row) ys → e.row ≡ row → IsBelow row es
    → (data_noted d row c (address_noted b row c q)).entries ≡ ys ++ (marked b d c e ∷ es)
noted true true row c q ys e es is from at below =
    let f : Entry → Entry = λ e. record e { address = set_once c e.address } in
    let h : Entry → Entry = λ e. record e { data_done = set_once c e.data_done } in
    ap (λ l. at_row row h (at_row row f l)) is
    ∙ (ap (at_row row h) (changed_there row f ys e es from at below) ∙ changed_there row h ys (f e) es from at below)
noted true false row c q ys e es is from at below =
    let f : Entry → Entry = λ e. record e { address = set_once c e.address } in
    ap (at_row row f) is ∙ changed_there row f ys e es from at below
noted false true row c q ys e es is from at below =
    let h : Entry → Entry = λ e. record e { data_done = set_once c e.data_done } in
    ap (at_row row h) is ∙ changed_there row h ys e es from at below
noted false false row c q ys e es is from at below = is

learned_append : (c : ℕ) (rows : List unit.Row) (xs ys : List MemoryRow) (q : Queue) → learned_of c rows (xs ++ ys) q ≡ learned_of c rows ys (learned_of c rows xs q)
learned_append c rows [] ys q = refl
learned_append c rows (x ∷ xs) ys q = learned_append c rows xs ys (learned c rows x q)

-- ---- what an entry knows

module _ (set : Setting) (c : ℕ) where
  -- what is done stays done
  produced_more : (o : Option Row) → has_produced set c o ≡ true → has_produced set (suc c) o ≡ true
  produced_more None h = refl
  produced_more (Some o) h = below_later c (suc c) (finished set o) (omega arith) h

  have_more : (older : List Row) (r : Row) (places : List Place) → have_produced set c older r places ≡ true → have_produced set (suc c) older r places ≡ true
  have_more older r [] h = refl
  have_more older r (p ∷ places) h =
      let k = and_parts (has_produced set c (producer set older r p)) (have_produced set c older r places) h in
      ap (λ b. b && have_produced set (suc c) older r places) (produced_more (producer set older r p) k.0) ∙ have_more older r places k.1

  set_by : (b : Bool) (m : Option ℕ) (old new : Bool) → b ≡ new → is_some m ≡ old → (old ≡ true → new ≡ true) → is_some (cond b (set_once c m) m) ≡ new
  set_by true None old new e f more = e
  set_by true (Some x) old new e f more = e
  set_by false m true new e f more = absurd (both (more refl) (sym e))
  set_by false m false new e f more = f ∙ e

  still_by : (b : Bool) (m : Option ℕ) → (is_some m ≡ true → is_before c m ≡ true) → is_some (cond b (set_once c m) m) ≡ true → is_before (suc c) (cond b (set_once c m) m) ≡ true
  still_by true None old h = lt-ltb c (suc c) (omega arith)
  still_by true (Some x) old h = below_later c (suc c) (Some x) (omega arith) (old refl)
  still_by false m old h = below_later c (suc c) m (omega arith) (old h)

  -- of a store it learns what is so by now
  store_learns : (e : Entry) (p : Placed) (b d : Bool) → Holds set c e p → e.store ≡ true → b ≡ is_before (suc c) (written set p.row)
      → d ≡ have_produced set (suc c) p.older p.row (execution set p.row).second → Holds set (suc c) (marked b d c e) p
  store_learns e p b d h is is_b is_d =
      record {
        row = h.row;
        store = h.store;
        block = h.block;
        address =
            set_by b e.address (is_before c (written set p.row)) (is_before (suc c) (written set p.row)) is_b (h.address ∙ ap (λ s. s && is_before c (written set p.row)) is)
            (below_later c (suc c) (written set p.row) (omega arith))
            ∙ sym (ap (λ s. s && is_before (suc c) (written set p.row)) is);
        data_done =
            set_by d e.data_done (have_produced set c p.older p.row (execution set p.row).second) (have_produced set (suc c) p.older p.row (execution set p.row).second) is_d
            (h.data_done ∙ ap (λ s. s && have_produced set c p.older p.row (execution set p.row).second) is) (have_more p.older p.row (execution set p.row).second)
            ∙ sym (ap (λ s. s && have_produced set (suc c) p.older p.row (execution set p.row).second) is);
        address_by = still_by b e.address h.address_by;
        data_by = still_by d e.data_done h.data_by;
      }

  -- and of a load nothing
  load_learns : (e : Entry) (p : Placed) → Holds set c e p → e.store ≡ false → Holds set (suc c) e p
  load_learns e p h is =
      record {
        row = h.row;
        store = h.store;
        block = h.block;
        address = h.address ∙ (ap (λ s. s && is_before c (written set p.row)) is ∙ sym (ap (λ s. s && is_before (suc c) (written set p.row)) is));
        data_done =
            h.data_done
            ∙ (ap (λ s. s && have_produced set c p.older p.row (execution set p.row).second) is ∙ sym (ap (λ s. s && have_produced set (suc c) p.older p.row (execution set p.row).second) is));
        address_by = λ k. below_later c (suc c) e.address (omega arith) (h.address_by k);
        data_by = λ k. below_later c (suc c) e.data_done (omega arith) (h.data_by k);
      }

  below_zip : (rows : List Row) (es : List Entry) → AllZip (Holds set (suc c)) es (pick (in_queue set) rows) → IsBelow (length rows) es
  below_zip [] [] z = tt
  below_zip [] (e ∷ es) z = absurd z
  below_zip (r ∷ rows) es z = by_case (in_queue set r) es z (below_zip rows)
    where
      by_case : (b : Bool) (es : List Entry) → AllZip (Holds set (suc c)) es (cond b (record { row = r; older = rows } ∷ pick (in_queue set) rows) (pick (in_queue set) rows))
          → ((es : List Entry) → AllZip (Holds set (suc c)) es (pick (in_queue set) rows) → IsBelow (length rows) es) → IsBelow (suc (length rows)) es
      by_case true [] z ih = absurd z
      by_case true (e ∷ es) z ih = (omega (arith, z.0.row), below_more (length rows) (suc (length rows)) es (omega arith) (ih es z.1))
      by_case false es z ih = below_more (length rows) (suc (length rows)) es (omega arith) (ih es z)

-- ---- what the unit says of the rows

module _ (g : Given) (c : ℕ) where
  abbrev set : Setting
  set = setting_of g

  -- of a live row, by its number: whether its W is there by c, and whether what it reads besides is done
  pub record Says (whole : List unit.Row) (older : List Row) (r : Row) : Type 0 where
    pub written : unit.is_by c (unit.written_of (length older) whole) ≡ is_before (suc c) (written set r)
    pub data_done : unit.passes (unit.second_done (unit.is_by c)) (length older) whole ≡ have_produced set (suc c) older r (execution set r).second

  abbrev SaysOf : List unit.Row → List Row → Row → Type 0
  SaysOf whole older r = live r ≡ true → Says whole older r

  pub says : (whole : List unit.Row) (rows : List Row) → Each (IsFound g whole) rows → Each (Fit set c) rows → Each SquashSpreads rows → Each (SaysOf whole) rows
  says whole [] found fit spreads = tt
  says whole (r ∷ older) found fit spreads = (λ at. said at (found.0 at), says whole older found.1 fit.1 spreads.1)
    where
      said : live r ≡ true → Found g whole older r → Says whole older r
      said at f =
          record {
            written =
                ap (λ m. unit.is_by c (option_and_then (λ (u : unit.Row). u.written) m)) f.row
                ∙ (by_before c f.at.written ∙ ap (is_before (suc c)) (sym f.lives.written));
            data_done =
                f.passes (unit.second_done (unit.is_by c))
                ∙ (ap (unit.have_produced (unit.is_by c) f.before) f.lives.station.operates.second
                ∙ sym
                (have_live g c older r f.before f.at.dispatched (execution set r).second f.lives.dispatched f.zip
                (kinds_of set c older r f.at.dispatched fit.0 fit.1 spreads.0 f.lives.dispatched (none_of r.squashed (live_parts r at).2))));
          }

  -- ---- the walk over the addresses

  pub record Knows (whole : List unit.Row) (rows : List Row) (ys : List Entry) (xs : List MemoryRow) (q : Queue) : Type 0 where
    pub now : List Entry
    pub entries : (learned_of c whole (reverse xs) q).entries ≡ ys ++ now
    pub zip : AllZip (Holds set (suc c)) now (pick (in_queue set) rows)

  learns_last : (whole : List unit.Row) (x : MemoryRow) (xs : List MemoryRow) (q : Queue)
      → learned_of c whole (reverse (x ∷ xs)) q ≡ learned c whole x (learned_of c whole (reverse xs) q)
  learns_last whole x xs q =
      ap (λ l. learned_of c whole l q) (reverse-append (x ∷ []) xs) ∙ learned_append c whole (reverse xs) (x ∷ []) q

  -- the entry of the row of that address learns
  turn : (whole : List unit.Row) (older : List Row) (r : Row) (e : Entry) (x : MemoryRow) (ys now : List Entry) (q : Queue) → Says whole older r
      → Holds set c e (record { row = r; older = older }) → HasAddress set x (record { row = r; older = older })
      → q.entries ≡ ys ++ (e ∷ now) → IsFrom (suc (length older)) ys → IsBelow (length older) now
      → (e' : Entry) × ((learned c whole x q).entries ≡ ys ++ (e' ∷ now)) × Holds set (suc c) e' (record { row = r; older = older })
  turn whole older r e x ys now q says h a is from below = by_store x.store (h.store ∙ sym a.store)
    where
      written_by : unit.is_by c (unit.written_of x.row whole) ≡ is_before (suc c) (written set r)
      written_by = ap (λ n. unit.is_by c (unit.written_of n whole)) a.row ∙ says.written

      data_by : unit.passes (unit.second_done (unit.is_by c)) x.row whole ≡ have_produced set (suc c) older r (execution set r).second
      data_by = ap (λ n. unit.passes (unit.second_done (unit.is_by c)) n whole) a.row ∙ says.data_done

      by_store : (b : Bool) → e.store ≡ b
          → (e' : Entry)
          × ((cond b
          (data_noted (unit.passes (unit.second_done (unit.is_by c)) x.row whole) x.row c (address_noted (unit.is_by c (unit.written_of x.row whole)) x.row c q)) q).entries
          ≡ ys ++ (e' ∷ now))
          × Holds set (suc c) e' (record { row = r; older = older })
      by_store true s = (
        marked (unit.is_by c (unit.written_of x.row whole)) (unit.passes (unit.second_done (unit.is_by c)) x.row whole) c e,
        noted (unit.is_by c (unit.written_of x.row whole)) (unit.passes (unit.second_done (unit.is_by c)) x.row whole) x.row c q ys e now is
            (subst (λ n. IsFrom (suc n) ys) (sym a.row) from) (h.row ∙ sym a.row) (subst (λ n. IsBelow n now) (sym a.row) below),
        store_learns set c e (record { row = r; older = older }) (unit.is_by c (unit.written_of x.row whole)) (unit.passes (unit.second_done (unit.is_by c)) x.row whole) h s written_by data_by,
      )
      by_store false s = (e, is, load_learns set c e (record { row = r; older = older }) h s)

  pub knows : (whole : List unit.Row) (rows : List Row) (ys es : List Entry) (xs : List MemoryRow) (q : Queue) → Each (SaysOf whole) rows → q.entries ≡ ys ++ es → IsFrom (length rows) ys
      → AllZip (Holds set c) es (pick (in_queue set) rows) → AllZip (HasAddress set) xs (pick (in_queue set) rows) → Knows whole rows ys xs q
  knows whole [] ys [] [] q says is from z z' = record { now = []; entries = is; zip = tt }
  knows whole [] ys (e ∷ es) xs q says is from z z' = absurd z
  knows whole [] ys [] (x ∷ xs) q says is from z z' = absurd z'
  knows whole (r ∷ older) ys es xs q says is from z z' = by_case (in_queue set r) refl es xs is z z' (λ ys es xs. knows whole older ys es xs q says.1)
    where
      -- the row's own entry learns last
      with_turn : (e : Entry) (x : MemoryRow) (xs : List MemoryRow) (k : Knows whole older (ys ++ (e ∷ [])) xs q)
          → (e' : Entry) × ((learned c whole x (learned_of c whole (reverse xs) q)).entries ≡ ys ++ (e' ∷ k.now)) × Holds set (suc c) e' (record { row = r; older = older })
          → in_queue set r ≡ true → Knows whole (r ∷ older) ys (x ∷ xs) q
      with_turn e x xs k t m =
          record {
            now = t.0 ∷ k.now;
            entries = ap (λ (q : Queue). q.entries) (learns_last whole x xs q) ∙ t.1;
            zip = subst (λ b. AllZip (Holds set (suc c)) (t.0 ∷ k.now) (cond b (record { row = r; older = older } ∷ pick (in_queue set) older) (pick (in_queue set) older))) (sym m) (t.2, k.zip);
          }

      by_case : (b : Bool) → in_queue set r ≡ b → (es : List Entry) (xs : List MemoryRow) → q.entries ≡ ys ++ es
          → AllZip (Holds set c) es (cond b (record { row = r; older = older } ∷ pick (in_queue set) older) (pick (in_queue set) older))
          → AllZip (HasAddress set) xs (cond b (record { row = r; older = older } ∷ pick (in_queue set) older) (pick (in_queue set) older))
          → ((ys es : List Entry) (xs : List MemoryRow) → q.entries ≡ ys ++ es → IsFrom (length older) ys → AllZip (Holds set c) es (pick (in_queue set) older)
          → AllZip (HasAddress set) xs (pick (in_queue set) older) → Knows whole older ys xs q)
          → Knows whole (r ∷ older) ys xs q
      by_case true m [] xs is z z' ih = absurd z
      by_case true m (e ∷ es) [] is z z' ih = absurd z'
      by_case true m (e ∷ es) (x ∷ xs) is z z' ih =
          let at : live r ≡ true = (and_parts (live r) (uses_memory (execution set r).memory) m).0 in
          let k =
          ih (ys ++ (e ∷ [])) es xs (is ∙ sym (append_assoc ys (e ∷ []) es)) (from_last (length older) ys e (from_less (length older) (length (r ∷ older)) ys (omega arith) from) (omega (arith, z.0.row))) z.1
          z'.1 in
          with_turn e x xs k
          (turn whole older r e x ys k.now (learned_of c whole (reverse xs) q) (says.0 at) z.0 z'.0 (k.entries ∙ append_assoc ys (e ∷ []) k.now) from (below_zip set c older k.now k.zip)) m
      by_case false m es xs is z z' ih =
          let k = ih ys es xs is (from_less (length older) (length (r ∷ older)) ys (omega arith) from) z z' in
          record {
            now = k.now;
            entries = k.entries;
            zip = subst (λ b. AllZip (Holds set (suc c)) k.now (cond b (record { row = r; older = older } ∷ pick (in_queue set) older) (pick (in_queue set) older))) (sym m) k.zip;
          }
