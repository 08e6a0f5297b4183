-- The clauses of the calls, over the ring as it lies.
use Rattle.std.proofs.Common.{◌≡◌, ℕ, ◌+◌, ◌<◌, ◌≤◌, Some, None, cond, List, [], ◌∷◌, ◌++◌, All, length, drop, sym, ap, subst, ◌∙◌, arith, length-drop}
use Rattle.std.specs.Prelude.{reverse, slice_get, Option, nat_lt}
use Rattle.std.proofs.lemmas.List.{length-reverse}
use Rattle.std.proofs.lemmas.List.Elements.{All-nil, All-weaker}
use Rattle.std.proofs.lemmas.Bool.Decides.{nat_tests}
use Rattle.circular_buffer.specs.Buffer.{Buffer, buffer}
use Rattle.ooo_front.specs.declared.row.FetchRow.{FetchRow}
use Rattle.ooo_front.specs.Fetching.{FrontEnd, earliest_after, with_row}
use Rattle.ooo_front.specs.Path.{IsPath, IsSound, AreInOrder}
use Rattle.ooo_front.specs.Stands.{IsNext, oldest, queued_before}
use Rattle.ooo_front.proofs.Paths.{pushed, first_last, first_row, path_put, path_front, path_above, path_in_order}

-- a front with this ring and these numbers
abbrev front_of : Buffer FetchRow → ℕ → ℕ → ℕ → ℕ → ℕ → FrontEnd
front_of b width row pc earliest cycle =
    record { rows = reverse b.items; size = b.capacity; width = width; row = row; pc = pc; earliest = earliest; cycle = cycle }

-- ---- put

pub put_shows : (b new : Buffer FetchRow) (width row pc earliest cycle after : ℕ) (r : FetchRow) (old : FrontEnd) → front_of b width row pc earliest cycle ≡ old
    → new ≡ buffer (b.items ++ r ∷ []) b.capacity → after ≡ earliest_after r
    → front_of new width (r.row + 1) r.next after cycle ≡ with_row r old
put_shows b new width row pc earliest cycle after r old v e a =
    ap (λ x. front_of x width (r.row + 1) r.next after cycle) e
    ∙ (ap (λ l. record { rows = l; size = b.capacity; width = width; row = r.row + 1; pc = r.next; earliest = after; cycle = cycle }) (pushed b.items r)
    ∙ (ap (λ n. record { rows = r ∷ reverse b.items; size = b.capacity; width = width; row = r.row + 1; pc = r.next; earliest = n; cycle = cycle }) a
    ∙ ap (with_row r) v))

row_sound : (f : FrontEnd) (r : FetchRow) → IsSound f → length f.rows < f.size → IsNext f r r.fetched → f.earliest ≤ r.fetched → IsSound (with_row r f)
row_sound f r h room next le =
    record {
      path = path_put f r r.fetched h.path next le next.queued;
      room = omega arith;
      small = h.small;
      width = h.width;
    }

pub put_sound : (b new : Buffer FetchRow) (width row pc earliest cycle after : ℕ) (r : FetchRow) (old : FrontEnd) → front_of b width row pc earliest cycle ≡ old
    → IsSound (front_of b width row pc earliest cycle) → new ≡ buffer (b.items ++ r ∷ []) b.capacity → after ≡ earliest_after r
    → length old.rows < old.size → IsNext old r r.fetched → old.earliest ≤ r.fetched
    → IsSound (front_of new width (r.row + 1) r.next after cycle)
put_sound b new width row pc earliest cycle after r old v h e a room next le =
    subst IsSound (sym (put_shows b new width row pc earliest cycle after r old v e a)) (row_sound old r (subst IsSound v h) room next le)

-- ---- pop

pop_path : (xs : List FetchRow) (n a t : ℕ) → IsPath (reverse xs) n a t → IsPath (reverse (drop 1 xs)) n a t
pop_path [] n a t h = h
pop_path (x ∷ xs) n a t h = path_front (reverse xs) x n a t (subst (λ l. IsPath l n a t) (first_last x xs) h)

pub pop_sound : (b new : Buffer FetchRow) (width row pc earliest cycle : ℕ) → IsSound (front_of b width row pc earliest cycle)
    → new ≡ buffer (drop 1 b.items) b.capacity → IsSound (front_of new width row pc earliest cycle)
pop_sound b new width row pc earliest cycle h e =
    subst (λ x. IsSound (front_of x width row pc earliest cycle)) (sym e)
    (record {
      path = pop_path b.items row pc earliest h.path;
      room = omega (arith, h.room, length-reverse (drop 1 b.items), length-reverse b.items, length-drop 1 b.items);
      small = h.small;
      width = h.width;
    })

-- ---- head

pub head_order : (f : FrontEnd) (old : FrontEnd) → f ≡ old → IsSound f → AreInOrder old.rows
head_order f old v h = subst (λ (x : FrontEnd). AreInOrder x.rows) v (path_in_order f.rows f.row f.pc f.earliest h.path)

pub head_is : (b : Buffer FetchRow) (width row pc earliest cycle : ℕ) (old : FrontEnd) (o : Option FetchRow) → front_of b width row pc earliest cycle ≡ old
    → o ≡ slice_get b.items 0 → o ≡ oldest old.rows
head_is b width row pc earliest cycle old o v e = e ∙ (sym (first_row b.items) ∙ ap (λ (x : FrontEnd). oldest x.rows) v)

pub head_late : (n : ℕ) (r : FetchRow) (rows : List FetchRow) → Some r ≡ oldest rows → n ≤ r.queued → None ≡ queued_before n (oldest rows)
head_late n r rows e le = late ∙ ap (queued_before n) e
  where
    late : None ≡ cond (nat_lt r.queued n) (Some r) None
    late = grind (arith, nat_tests)

pub head_none : (n : ℕ) (rows : List FetchRow) → None ≡ oldest rows → None ≡ queued_before n (oldest rows)
head_none n rows e = ap (queued_before n) e

all_later : (n : ℕ) (xs : List FetchRow) (r : FetchRow) (number address at : ℕ) → Some r ≡ slice_get xs 0 → n ≤ r.queued → IsPath (reverse xs) number address at
    → All (λ (x : FetchRow). n ≤ x.queued) (reverse xs)
all_later n [] r number address at e le h = absurd cc
all_later n (x ∷ xs) r number address at e le h =
    subst (All (λ (y : FetchRow). n ≤ y.queued)) (sym (first_last x xs))
    (All-weaker (λ (y : FetchRow). x.queued ≤ y.queued) (λ (y : FetchRow). n ≤ y.queued) (λ y q. omega (arith, q, first)) (reverse xs ++ x ∷ [])
    (path_above (reverse xs) x number address at (subst (λ l. IsPath l number address at) (first_last x xs) h)).0)
  where
    same : r ≡ x
    same = cc

    first : n ≤ x.queued
    first = subst (λ (y : FetchRow). n ≤ y.queued) same le

pub head_all : (n : ℕ) (b : Buffer FetchRow) (width row pc earliest cycle : ℕ) (old : FrontEnd) (r : FetchRow) → front_of b width row pc earliest cycle ≡ old
    → Some r ≡ slice_get b.items 0 → n ≤ r.queued → IsSound (front_of b width row pc earliest cycle)
    → All (λ (x : FetchRow). n ≤ x.queued) old.rows
head_all n b width row pc earliest cycle old r v e le h =
    subst (λ (f : FrontEnd). All (λ (x : FetchRow). n ≤ x.queued) f.rows) v (all_later n b.items r row pc earliest e le h.path)

all_none : (n : ℕ) (xs : List FetchRow) → None ≡ slice_get xs 0 → All (λ (x : FetchRow). n ≤ x.queued) (reverse xs)
all_none n [] e = All-nil (λ (x : FetchRow). n ≤ x.queued)
all_none n (x ∷ xs) e = absurd cc

pub head_empty : (n : ℕ) (b : Buffer FetchRow) (width row pc earliest cycle : ℕ) (old : FrontEnd) → front_of b width row pc earliest cycle ≡ old
    → None ≡ slice_get b.items 0 → All (λ (x : FetchRow). n ≤ x.queued) old.rows
head_empty n b width row pc earliest cycle old v e =
    subst (λ (f : FrontEnd). All (λ (x : FetchRow). n ≤ x.queued) f.rows) v (all_none n b.items e)
