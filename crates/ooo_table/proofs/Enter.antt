-- In which phase the oldest right row in flight is, so that its deadline is known.
use Rattle.std.proofs.Common.{◌≡◌, ℕ, ◌+◌, ◌<◌, ◌≤◌, Bool, true, false, cond, List, [], ◌∷◌, Option, Some, None, refl, sym, ap, ◌∙◌, subst, arith, inl, inr}
use Rattle.std.specs.Prelude.{◌&&◌, ◌||◌, is_some, ◌⊎◌}
use Rattle.std.proofs.lemmas.Bool.{and_parts, ltb-true, lt-ltb}
use Rattle.ooo_table.specs.Row.{Row, is_before, MemoryAccess, returned}
use Rattle.ooo_table.specs.Execution.{MemoryUse, NoMemory, LoadFrom, StoreTo, unit_latency, unit_hold, is_load, is_store, Multipliers, is_of}
use Rattle.ooo_table.specs.Table.{Setting}
use Rattle.ooo_table.specs.Path.{execution, loads}
use Rattle.ooo_table.specs.Done.{written, finished, done_before, have_produced}
use Rattle.ooo_table.specs.Cycle.{table}
use Rattle.ooo_table.specs.Ends.{stops_in, commits_in, exited}
use Rattle.ooo_table.specs.Later.{Each, Where}
use Rattle.ooo_table.specs.Legal.{CommitAllowed}
use Rattle.ooo_table.specs.Bound.{Bounded}
use Rattle.ooo_table.specs.CycleLaws.{RowFacts, Focus}
use Rattle.ooo_table.proofs.RowFacts.{done_issued, below_is_some}
use Rattle.ooo_table.proofs.Over.{Over, AllOver}
use Rattle.ooo_table.proofs.Times.{Times, Gone, Reads, times_table}
use Rattle.ooo_table.proofs.Deadlines.{focus_more, each_split, Ends, Phase, queued, waits, runs, addressed, reads, Front, hold_most, latency_most, commits_soon}
use Rattle.ooo_table.proofs.RowFacts.{facts_table}

-- all right rows have committed
abbrev pub Settled : List Row → Type 0
Settled rows = Each (λ _ o. o.fetched.right ≡ true → is_some o.committed ≡ true) rows

abbrev pub Oldest : List Row → Row → Type 0
Oldest older r = (r.fetched.right ≡ true) × (r.committed ≡ None) × Settled older

pub oldest : (rows : List Row) → Settled rows ⊎ Focus Oldest rows
oldest [] = inl tt
oldest (r ∷ older) = by_older (oldest older)
  where
    both : {b : Bool} → b ≡ true → b ≡ false → ⊥
    both e g = cc

    by_older : Settled older ⊎ Focus Oldest older → Settled (r ∷ older) ⊎ Focus Oldest (r ∷ older)
    by_older (inr f) = inr (focus_more Oldest r older f)
    by_older (inl s) = by_row r.fetched.right r.committed refl refl
      where
        by_row : (b : Bool) (m : Option ℕ) → r.fetched.right ≡ b → r.committed ≡ m → Settled (r ∷ older) ⊎ Focus Oldest (r ∷ older)
        by_row true None e f = inr ([], older, r, refl, (e, f, s))
        by_row true (Some x) e f = inl ((λ w. ap is_some f), s)
        by_row false m e f = inl ((λ w. absurd (both w e)), s)

pub some_is : {A : Type 0} (m : Option A) → is_some m ≡ true → (x : A) × (m ≡ Some x)
some_is None h = absurd cc
some_is (Some x) h = (x, refl)

pub where_is : {A : Type 0} (m : Option A) (P : A → Type 0) (x : A) → m ≡ Some x → Where m P → P x
where_is None P x e w = absurd cc
where_is {A = A} (Some y) P x e w = let k : y ≡ x = cc in subst P k w

none_if : {A B : Type 0} (m : Option A) (n : Option B) → (is_some m ≡ true → is_some n ≡ true) → n ≡ None → m ≡ None
none_if None n h e = refl
none_if (Some x) n h e = absurd cc (sym (ap is_some e) ∙ h refl)

module _ (set : Setting) (I M : ℕ) (limits : Bounded set I M) where
  -- a row that has committed is over
  pub over_row : (c f : ℕ) (older : List Row) (o : Row) → RowFacts set c older o → Times set I M limits c older o → (o.fetched.right ≡ true → is_some o.committed ≡ true)
      → (o.fetched.right ≡ false → (x : ℕ) × (o.squashed ≡ Some x) × (x ≤ f)) → Over set c f o
  over_row c f older o g t s gone' =
      record {
        dispatched = early_d o.dispatched t.dispatched;
        issued = t.issued;
        access = early_a o.access t.access;
        committed = t.committed;
        left = s;
        came = λ w. g.left (s w);
        began = λ w. done_issued set (at w).0 older o g.reached (well w).done;
        read = λ w l. below_is_some set c (λ a. a.back) o.access (ap (λ b. is_before c (cond b (returned o) (written set o))) (sym l) ∙ ends w);
        done = ends;
        gone = gone';
      }
    where
      early_d : (m : Option ℕ) → Where m (λ d. (d < c) × (o.fetched.queued < d)) → Where m (λ d. d < c)
      early_d None h = tt
      early_d (Some d) h = h.0

      early_a : (m : Option MemoryAccess) → Where m (Reads set I M limits c (written set o)) → Where m (λ a. a.at < c)
      early_a None h = tt
      early_a (Some a) h = h.0

      at : o.fetched.right ≡ true → (x : ℕ) × (o.committed ≡ Some x)
      at w = some_is o.committed (s w)

      well : (w : o.fetched.right ≡ true) → CommitAllowed set older o (at w).0
      well w = where_is o.committed (CommitAllowed set older o) (at w).0 (at w).1 g.order

      before : (w : o.fetched.right ≡ true) → (at w).0 < c
      before w = where_is o.committed (λ x. x < c) (at w).0 (at w).1 t.committed

      later : (x : ℕ) (m : Option ℕ) → x < c → is_before x m ≡ true → is_before c m ≡ true
      later x None le h = absurd cc
      later x (Some y) le h = let lt : y < x = ltb-true _ _ h in lt-ltb y c (omega arith)

      fin : (x : ℕ) → done_before set x older o ≡ true → is_before x (finished set o) ≡ true
      fin x h = by_access (execution set o).memory refl
        where
          by_access : (a : MemoryUse) → (execution set o).memory ≡ a → is_before x (finished set o) ≡ true
          by_access NoMemory e = sym (ap (λ a. cond (is_store a) (is_before x (written set o) && have_produced set x older o (execution set o).second) (is_before x (finished set o))) e) ∙ h
          by_access (LoadFrom a) e = sym (ap (λ a. cond (is_store a) (is_before x (written set o) && have_produced set x older o (execution set o).second) (is_before x (finished set o))) e) ∙ h
          by_access (StoreTo a) e =
              let k : (is_before x (written set o) && have_produced set x older o (execution set o).second) ≡ true =
              sym (ap (λ a. cond (is_store a) (is_before x (written set o) && have_produced set x older o (execution set o).second) (is_before x (finished set o))) e) ∙ h in
              ap (λ a. is_before x (cond (is_load a) (returned o) (written set o))) e ∙ (and_parts _ _ k).0

      ends : o.fetched.right ≡ true → is_before c (finished set o) ≡ true
      ends w = later (at w).0 (finished set o) (before w) (fin (at w).0 (well w).done)

  pub all_over : (c f : ℕ) (rows : List Row) → Each (RowFacts set c) rows → Each (Times set I M limits c) rows → Settled rows → Gone f rows → AllOver set c f rows
  all_over c f [] g t s k = tt
  all_over c f (o ∷ rows) g t s k = (over_row c f rows o g.0 t.0 s.0 k.0, all_over c f rows g.1 t.1 s.1 k.1)

  ends_now : (c : ℕ) (rows : List Row) → Each (Times set I M limits c) rows → Ends set I M limits (c + 19) rows
  ends_now c [] h = tt
  ends_now c (o ∷ rows) h = (one o.issued h.0.issued, ends_now c rows h.1)
    where
      one : (m : Option ℕ) → Where m (λ i. i < c) → Where m (λ i. is_of Multipliers (execution set o).unit ≡ true → i + unit_hold (execution set o).unit ≤ c + 19)
      one None w = tt
      one (Some i) w = λ u. omega (arith, hold_most set I M limits (execution set o).unit)

  phase_of : (c : ℕ) (rows older : List Row) (r : Row) → Each (Times set I M limits c) rows → RowFacts set c older r → Times set I M limits c older r
      → Phase set I M limits (c + I + M + 43) c rows r
  phase_of c rows older r all g t = by_mark r.dispatched r.issued r.access refl refl refl
    where
      lat : unit_latency (execution set r).unit ≤ 20
      lat = latency_most set I M limits (execution set r).unit

      by_load : (d i : ℕ) (a : Option MemoryAccess) (b : Bool) → r.dispatched ≡ Some d → r.issued ≡ Some i → r.access ≡ a → loads set r ≡ b → Phase set I M limits (c + I + M + 43) c rows r
      by_load d i a false e f h l =
          let early : i < c = where_is r.issued (λ i. i < c) i f t.issued in
          let late : (d < c) × (r.fetched.queued < d) = where_is r.dispatched (λ d. (d < c) × (r.fetched.queued < d)) d e t.dispatched in
          runs d i e (omega (arith, late.1, t.least)) f l (omega arith) (omega (arith, lat, early))
      by_load d i None true e f h l =
          let early : i < c = where_is r.issued (λ i. i < c) i f t.issued in
          let late : (d < c) × (r.fetched.queued < d) = where_is r.dispatched (λ d. (d < c) × (r.fetched.queued < d)) d e t.dispatched in
          addressed d i e (omega (arith, late.1, t.least)) f l h (omega arith) (omega (arith, lat, early))
      by_load d i (Some a) true e f h l =
          let late : (d < c) × (r.fetched.queued < d) = where_is r.dispatched (λ d. (d < c) × (r.fetched.queued < d)) d e t.dispatched in
          let back : Reads set I M limits c (written set r) a = where_is r.access (Reads set I M limits c (written set r)) a h t.access in
          reads d a e (omega (arith, late.1, t.least)) (ap is_some f) l h (omega arith) (omega (arith, back.0, back.1))

      by_mark : (d i : Option ℕ) (a : Option MemoryAccess) → r.dispatched ≡ d → r.issued ≡ i → r.access ≡ a → Phase set I M limits (c + I + M + 43) c rows r
      by_mark None i a e f h =
          let un : r.issued ≡ None = none_if r.issued r.dispatched g.came e in
          queued e un (none_if r.access r.issued g.reached un) (omega arith) (omega (arith, t.most, t.at))
      by_mark (Some d) None a e f h =
          let late : (d < c) × (r.fetched.queued < d) = where_is r.dispatched (λ d. (d < c) × (r.fetched.queued < d)) d e t.dispatched in
          waits d (c + 19) e (omega (arith, late.1, t.least)) late.0 f (none_if r.access r.issued g.reached f) (ends_now c rows all) (omega arith) (omega arith)
      by_mark (Some d) (Some i) a e f h = by_load d i a (loads set r) e f h refl

  -- while a right row is in flight, one commits or the machine stops within I + M + 43 cycles
  pub fetched_commits : (c : ℕ) → exited set (table set c) ≡ false → Focus Oldest (table set c).rows
      → (x : ℕ) × (c ≤ x) × (x < c + I + M + 43) × ((commits_in set x (table set x) || stops_in set x (table set x)) ≡ true)
  fetched_commits c running (younger, older, r, e, (right, un, settled)) =
      commits_soon set I M limits (I + M + 43) c (c + I + M + 43) (omega arith) running (younger, older, r, e, front)
    where
      all_facts : RowFacts set c older r × Each (RowFacts set c) older
      all_facts = each_split (RowFacts set c) younger older r (subst (Each (RowFacts set c)) e (facts_table set c))

      times : Times set I M limits c older r × Each (Times set I M limits c) older
      times = each_split (Times set I M limits c) younger older r (subst (Each (Times set I M limits c)) e (times_table set I M limits c))

      front : Front set I M limits (c + I + M + 43) c (table set c).rows older r
      front = record {
        right = right;
        unset = un;
        over = all_over c r.fetched.at older all_facts.1 times.1 settled (times.0.gone right);
        phase = phase_of c (table set c).rows older r (times_table set I M limits c) all_facts.0 times.0;
      }
