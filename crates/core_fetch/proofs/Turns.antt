-- The front end fetches the rows that the table fetches, turn by turn.
use Rattle.std.proofs.Common.{◌≡◌, ℕ, zero, suc, ◌+◌, Bool, true, false, cond, List, ◌∷◌, ◌++◌, length, refl, sym, ap, ◌∙◌, subst, arith}
use Rattle.std.specs.Prelude.{◌&&◌, ◌==◌, ◌%◌, ◌^◌, max, nat_le, nat_lt, count_by}
use Rattle.std.specs.List.{AllZip}
use Rattle.bpred_unit.specs.History.{LookUp}
use Rattle.ooo_front.specs.declared.row.FetchRow.{FetchRow}
use Rattle.ooo_front.specs.Fetching as front
use Rattle.ooo_front.specs.Fetching.{FrontEnd, Stage, next_row, fetch_one, fetch_up_to, queued_at, looked_up, goes_on, earliest_after, with_reference}
use Rattle.ooo_table.specs.Row.{Row}
use Rattle.ooo_table.specs.Table.{Table}
use Rattle.ooo_table.specs.Done.{waiting}
use Rattle.ooo_table.specs.References.{references_of, predictor_events_of}
use Rattle.ooo_table.specs.Fetch as table
use Rattle.ooo_table.specs.Fetch.{fetched_row, queue_cycle}
use Rattle.ooo_table.specs.Machine.{Given, setting_of, words_at}
use Rattle.core_parts.specs.Rows.{pick, Waits}
use Rattle.core_parts.proofs.Lists.{zip_length, pick_length, pick_take, same_number}
use Rattle.core_fetch.proofs.Row.{Same, same_refl, same_trans, same_one, references_more, events_more}

-- ---- the next row of the front end

next_number : (c : ℕ) (g : Given) (s : Stage) → (next_row g.hier g.pred g.start.text c s).row ≡ s.front.row
unfolding next_row
next_number c g s = refl

next_pc : (c : ℕ) (g : Given) (s : Stage) → (next_row g.hier g.pred g.start.text c s).pc ≡ s.front.pc
unfolding next_row
next_pc c g s = refl

next_a : (c : ℕ) (g : Given) (s : Stage) → (next_row g.hier g.pred g.start.text c s).a ≡ (words_at g.start.text s.front.pc).0
unfolding next_row
next_a c g s = refl

next_b : (c : ℕ) (g : Given) (s : Stage) → (next_row g.hier g.pred g.start.text c s).b ≡ (words_at g.start.text s.front.pc).1
unfolding next_row
next_b c g s = refl

next_next : (c : ℕ) (g : Given) (s : Stage) → (next_row g.hier g.pred g.start.text c s).next ≡ ((setting_of g).look s.front.pc s.events).next
unfolding next_row
next_next c g s = refl

next_top : (c : ℕ) (g : Given) (s : Stage) → (next_row g.hier g.pred g.start.text c s).top ≡ ((setting_of g).look s.front.pc s.events).top
unfolding next_row
next_top c g s = refl

next_fetched : (c : ℕ) (g : Given) (s : Stage) → (next_row g.hier g.pred g.start.text c s).fetched ≡ c
unfolding next_row
next_fetched c g s = refl

next_queued : (c : ℕ) (g : Given) (s : Stage) → (next_row g.hier g.pred g.start.text c s).queued ≡ queue_cycle (setting_of g) c s.front.pc s.references
unfolding next_row
next_queued c g s = refl

-- what the front end holds and asked within the stage is the table's; these rows were fetched since its beginning
pub record Fetching (g : Given) (c : ℕ) (base fresh : List FetchRow) (s : Stage) (t : Table) : Type 0 where
  pub front : AllZip (Waits g) s.front.rows (pick waiting t.rows)
  pub row : s.front.row ≡ length t.rows
  pub pc : s.front.pc ≡ t.next_fetch.pc
  pub earliest : s.front.earliest ≡ t.next_fetch.earliest
  pub size : s.front.size ≡ g.config.ifq
  pub references : s.references ≡ references_of (setting_of g) c t.rows t.references
  pub events : s.events ≡ predictor_events_of (setting_of g) c t.rows t.predictor_events
  pub split : s.front.rows ≡ fresh ++ base
  pub new : AllZip (Waits g) fresh (pick (λ r. r.fetched.at == c) t.rows)

may_same : (g : Given) (c : ℕ) (base fresh : List FetchRow) (s : Stage) (t : Table) → Fetching g c base fresh s t
    → front.may_fetch c s.front ≡ table.may_fetch (setting_of g) c t
may_same g c base fresh s t f =
    ap (λ n. nat_le n c && nat_lt (length s.front.rows) s.front.size) f.earliest
    ∙ (ap (λ n. nat_le t.next_fetch.earliest c && nat_lt n s.front.size) (zip_length (Waits g) s.front.rows (pick waiting t.rows) f.front ∙ pick_length waiting t.rows)
    ∙ ap (λ n. nat_le t.next_fetch.earliest c && nat_lt (count_by waiting t.rows) n) f.size)

-- the row that the table fetches
abbrev new_row : (g : Given) (c : ℕ) (t : Table) → Row
new_row g c t =
    fetched_row (setting_of g) c t.next_fetch ((setting_of g).look t.next_fetch.pc (predictor_events_of (setting_of g) c t.rows t.predictor_events))
    (queue_cycle (setting_of g) c t.next_fetch.pc (references_of (setting_of g) c t.rows t.references))

row_waits : (g : Given) (c : ℕ) (base fresh : List FetchRow) (s : Stage) (t : Table) → Fetching g c base fresh s t
    → Waits g (next_row g.hier g.pred g.start.text c s) (record { row = new_row g c t; older = t.rows })
row_waits g c base fresh s t f =
    record {
      row = next_number c g s ∙ f.row;
      pc = next_pc c g s ∙ f.pc;
      a = next_a c g s ∙ ap (λ x. (words_at g.start.text x).0) f.pc;
      b = next_b c g s ∙ ap (λ x. (words_at g.start.text x).1) f.pc;
      next = next_next c g s ∙ (ap (λ x. ((setting_of g).look x s.events).next) f.pc ∙ ap (λ h. ((setting_of g).look t.next_fetch.pc h).next) f.events);
      top = next_top c g s ∙ (ap (λ x. ((setting_of g).look x s.events).top) f.pc ∙ ap (λ h. ((setting_of g).look t.next_fetch.pc h).top) f.events);
      fetched = next_fetched c g s;
      queued = next_queued c g s ∙ (ap (λ x. queue_cycle (setting_of g) c x s.references) f.pc ∙ ap (λ h. queue_cycle (setting_of g) c t.next_fetch.pc h) f.references);
    }

same_earliest : (c q q' n n' x x' y : ℕ) → q ≡ q' → n ≡ n' → x ≡ x' → y ≡ c
    → cond ((q == y) && (n == ((x + 8) % 2 ^ 32))) y (max (y + 1) q) ≡ cond ((q' == c) && (n' == ((x' + 8) % 2 ^ 32))) c (max (suc c) q')
same_earliest c q q' n n' x x' y e f k h = rw (e, f, k, h) (ap (λ m. cond ((q' == c) && (n' == ((x' + 8) % 2 ^ 32))) c (max m q')) (omega arith))

step : (g : Given) (c : ℕ) (base fresh : List FetchRow) (s : Stage) (t : Table) → Fetching g c base fresh s t
    → Fetching g c base (next_row g.hier g.pred g.start.text c s ∷ fresh) (fetch_one g.hier g.pred g.start.text c s) (table.fetch_one (setting_of g) c t)
step g c base fresh s t f =
    let waits = row_waits g c base fresh s t f in
    record {
      front = (waits, f.front);
      row = omega (arith, waits.row);
      pc = waits.next;
      earliest =
          same_earliest c (next_row g.hier g.pred g.start.text c s).queued (new_row g c t).fetched.queued (next_row g.hier g.pred g.start.text c s).next (new_row g c t).fetched.predicted
          (next_row g.hier g.pred g.start.text c s).pc t.next_fetch.pc (next_row g.hier g.pred g.start.text c s).fetched waits.queued waits.next waits.pc waits.fetched;
      size = f.size;
      references =
          ap (λ x. with_reference g.start.text c x s.references) f.pc
          ∙ (ap (λ h. with_reference g.start.text c t.next_fetch.pc h) f.references
          ∙ sym (references_more (setting_of g) c t.next_fetch
          ((setting_of g).look t.next_fetch.pc (predictor_events_of (setting_of g) c t.rows t.predictor_events))
          (queue_cycle (setting_of g) c t.next_fetch.pc (references_of (setting_of g) c t.rows t.references)) t.rows t.references));
      events =
          ap (λ x. LookUp x ((setting_of g).instruction x) ∷ s.events) f.pc
          ∙ (ap (λ h. LookUp t.next_fetch.pc ((setting_of g).instruction t.next_fetch.pc) ∷ h) f.events
          ∙ sym (events_more (setting_of g) c t.next_fetch
          ((setting_of g).look t.next_fetch.pc (predictor_events_of (setting_of g) c t.rows t.predictor_events))
          (queue_cycle (setting_of g) c t.next_fetch.pc (references_of (setting_of g) c t.rows t.references)) t.rows t.predictor_events));
      split = ap (λ l. next_row g.hier g.pred g.start.text c s ∷ l) f.split;
      new =
          subst (AllZip (Waits g) (next_row g.hier g.pred g.start.text c s ∷ fresh))
          (sym (pick_take (λ r. r.fetched.at == c) (new_row g c t) t.rows (same_number c)))
          (waits, f.new);
    }

-- what many turns leave: more rows, and the rest as it was
pub record Fetches (g : Given) (c n : ℕ) (base : List FetchRow) (s : Stage) (t : Table) : Type 0 where
  pub fresh : List FetchRow
  pub turns : Fetching g c base fresh (fetch_up_to g.hier g.pred g.start.text c n s) (table.fetch_up_to (setting_of g) n c t)
  pub same : Same (setting_of g) t (table.fetch_up_to (setting_of g) n c t)

up_to_none : (g : Given) (c : ℕ) (s : Stage) → fetch_up_to g.hier g.pred g.start.text c zero s ≡ s
unfolding fetch_up_to
up_to_none g c s = refl

up_to_more : (g : Given) (c n : ℕ) (s : Stage)
    → fetch_up_to g.hier g.pred g.start.text c (suc n) s
    ≡ cond (front.may_fetch c s.front) (fetch_up_to g.hier g.pred g.start.text c n (fetch_one g.hier g.pred g.start.text c s)) s
unfolding fetch_up_to
up_to_more g c n s = refl

pub fetches : (g : Given) (c n : ℕ) (base fresh : List FetchRow) (s : Stage) (t : Table) → Fetching g c base fresh s t → Fetches g c n base s t
fetches g c zero base fresh s t f =
    record {
      fresh = fresh;
      turns = subst (λ x. Fetching g c base fresh x t) (sym (up_to_none g c s)) f;
      same = same_refl (setting_of g) t;
    }
fetches g c (suc n) base fresh s t f =
    by_test (table.may_fetch (setting_of g) c t) refl (may_same g c base fresh s t f)
    (fetches g c n base (next_row g.hier g.pred g.start.text c s ∷ fresh) (fetch_one g.hier g.pred g.start.text c s) (table.fetch_one (setting_of g) c t)
    (step g c base fresh s t f))
  where
    by_test : (b : Bool) → table.may_fetch (setting_of g) c t ≡ b → front.may_fetch c s.front ≡ b
        → Fetches g c n base (fetch_one g.hier g.pred g.start.text c s) (table.fetch_one (setting_of g) c t)
        → Fetches g c (suc n) base s t
    by_test true e h next =
        let turn : fetch_up_to g.hier g.pred g.start.text c (suc n) s ≡ fetch_up_to g.hier g.pred g.start.text c n (fetch_one g.hier g.pred g.start.text c s) =
        up_to_more g c n s ∙ ap (λ d. cond d (fetch_up_to g.hier g.pred g.start.text c n (fetch_one g.hier g.pred g.start.text c s)) s) h in
        let row : table.fetch_up_to (setting_of g) (suc n) c t ≡ table.fetch_up_to (setting_of g) n c (table.fetch_one (setting_of g) c t) =
        ap (λ d. cond d (table.fetch_up_to (setting_of g) n c (table.fetch_one (setting_of g) c t)) t) e in
        record {
          fresh = next.fresh;
          turns = subst (λ x. Fetching g c base next.fresh x (table.fetch_up_to (setting_of g) (suc n) c t)) (sym turn)
              (subst (λ u. Fetching g c base next.fresh (fetch_up_to g.hier g.pred g.start.text c n (fetch_one g.hier g.pred g.start.text c s)) u) (sym row) next.turns);
          same =
              subst (λ u. Same (setting_of g) t u) (sym row)
              (same_trans (setting_of g) t (table.fetch_one (setting_of g) c t) (table.fetch_up_to (setting_of g) n c (table.fetch_one (setting_of g) c t)) (same_one (setting_of g) c t) next.same);
        }
    by_test false e h next =
        let turn : fetch_up_to g.hier g.pred g.start.text c (suc n) s ≡ s =
        up_to_more g c n s ∙ ap (λ d. cond d (fetch_up_to g.hier g.pred g.start.text c n (fetch_one g.hier g.pred g.start.text c s)) s) h in
        let row : table.fetch_up_to (setting_of g) (suc n) c t ≡ t =
        ap (λ d. cond d (table.fetch_up_to (setting_of g) n c (table.fetch_one (setting_of g) c t)) t) e in
        record {
          fresh = fresh;
          turns = subst (λ x. Fetching g c base fresh x (table.fetch_up_to (setting_of g) (suc n) c t)) (sym turn) (subst (λ u. Fetching g c base fresh s u) (sym row) f);
          same = subst (λ u. Same (setting_of g) t u) (sym row) (same_refl (setting_of g) t);
        }
