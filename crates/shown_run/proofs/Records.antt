-- The records that are shown are those of the rows that committed, in row order.
use Rattle.std.proofs.Common.{◌≡◌, ℕ, zero, suc, ◌<◌, ◌≤◌, Bool, true, false, cond, List, [], ◌∷◌, ◌++◌, Option, Some, None, refl, sym, ap, ◌∙◌, subst, arith, inl, inr, length, append_assoc, append-nil}
use Rattle.std.specs.Prelude.{◌⊎◌, ◌==◌, nat_lt, map, is_some}
use Rattle.std.proofs.lemmas.Bool.{cases_lt, lt-ltb, le-ltb, eq-eqb}
use Rattle.std.proofs.lemmas.Bool.Decides.{nat_tests}
use Rattle.sim_safe.specs.Record.{Item}
use Rattle.sim_safe.specs.Step.{step_of}
use Rattle.ooo_table.specs.declared.event.Mark.TheVariants as mark
use Rattle.ooo_table.specs.declared.event.Event.{Event}
use Rattle.ooo_table.specs.Row.{Row, is_at, is_before, accessed}
use Rattle.ooo_table.specs.Ends.{Extent, Whole, AtCommit, AtStop, rows_at, written_by, returned_by}
use Rattle.ooo_table.specs.Events.{by_row, event_at, fetch_mark, cycles_of}
use Rattle.ooo_table.specs.Later.{Each, Where, By}
use Rattle.ooo_table.specs.Legal.{Happened as Past', InOrder, CommitAllowed}
use Rattle.ooo_table.specs.Machine.{Given, setting_of}
use Rattle.ooo_table.specs.RunLaws.{recorded_by, committed_items}
use Rattle.ooo_table.proofs.Ends.{happened_at}
use Rattle.ooo_table.proofs.Sound.{Sound, sound_at}
use Rattle.core_watch.specs.Shown.{Shown, Happened, Committed, events}
use Rattle.core_watch.specs.Items.{items_in}
use Rattle.core_watch.specs.StageItems.{commit_items}
use Rattle.core_watch.proofs.Pieces.{items_split}
use Rattle.shown_run.specs.Run.{items_below, all_items, records_among}

-- ---- records among what is shown

records_append : (xs ys : List Shown) → records_among (xs ++ ys) ≡ records_among xs ++ records_among ys
records_append [] ys = refl
records_append (Happened e ∷ xs) ys = records_append xs ys
records_append (Committed did ∷ xs) ys = ap (λ l. did ∷ l) (records_append xs ys)

records_of : (dids : List Item) → records_among (map Committed dids) ≡ dids
records_of [] = refl
records_of (did ∷ dids) = ap (λ l. did ∷ l) (records_of dids)

no_records : (es : List Event) (ys : List Shown) → records_among ys ≡ [] → records_among (events es ++ ys) ≡ []
no_records [] ys h = h
no_records (e ∷ es) ys h = no_records es ys h

only_events : (es : List Event) → records_among (events es) ≡ []
only_events [] = refl
only_events (e ∷ es) = only_events es

six : (xs : List Shown) (w s i d f : List Event) → records_among (xs ++ (events w ++ (events s ++ (events i ++ (events d ++ events f))))) ≡ records_among xs
six xs w s i d f =
    records_append xs (events w ++ (events s ++ (events i ++ (events d ++ events f))))
    ∙ (ap (λ l. records_among xs ++ l) (no_records w _ (no_records s _ (no_records i _ (no_records d _ (only_events f))))) ∙ append-nil (records_among xs))

six_of : (l xs : List Shown) (w s i d f : List Event) → l ≡ xs ++ (events w ++ (events s ++ (events i ++ (events d ++ events f)))) → records_among l ≡ records_among xs
six_of l xs w s i d f e = ap records_among e ∙ six xs w s i d f

module _ (g : Given) where
  -- what rows record whose commit passes
  abbrev recorded_if : (Option ℕ → Bool) → List Row → List Item
  recorded_if p [] = []
  recorded_if p (r ∷ older) = recorded_if p older ++ cond (p r.committed) (recorded_by g (step_of g.trace r.fetched.state)) []

  records_of_commits : (x : ℕ) (rows : List Row) → records_among (commit_items g x rows) ≡ recorded_if (is_at x) rows
  records_of_commits x [] = refl
  records_of_commits x (r ∷ rows) =
      records_append (commit_items g x rows) (shown (is_at x r.committed))
      ∙ (ap (λ l. l ++ records_among (shown (is_at x r.committed))) (records_of_commits x rows) ∙ ap (λ l. recorded_if (is_at x) rows ++ l) (one (is_at x r.committed)))
    where
      shown : Bool → List Shown
      shown b = cond b (Happened (record { cycle = x; row = length rows; mark = mark.Committed }) ∷ map Committed (recorded_by g (step_of g.trace r.fetched.state))) []

      one : (b : Bool) → records_among (shown b) ≡ cond b (recorded_by g (step_of g.trace r.fetched.state)) []
      one true = records_of (recorded_by g (step_of g.trace r.fetched.state))
      one false = refl

  records_in : (e : Extent) (c x : ℕ) → records_among (items_in g e c x) ≡ recorded_if (is_at x) (rows_at (setting_of g) e c)
  records_in e c x =
      let rows : List Row = rows_at (setting_of g) e c in
      six_of (items_in g e c x) (commit_items g x rows)
      (by_row (λ n r. event_at x (written_by (setting_of g) e c r) mark.Written n ++ event_at x (returned_by (setting_of g) e c r) mark.Returned n) rows)
      (by_row (λ n r. event_at x r.squashed mark.Squashed n) rows)
      (by_row (λ n r. event_at x r.issued mark.Issued n ++ event_at x (accessed r) mark.Accessed n) rows)
      (by_row (λ n r. event_at x r.dispatched mark.Dispatched n) rows)
      (by_row (λ n r. event_at x (Some r.fetched.at) (fetch_mark r.fetched) n) rows)
      (items_split g e c x)
      ∙ records_of_commits x rows

  -- ---- commits come in row order

  abbrev Upto : ℕ → List Row → Type 0
  Upto t rows = Each (λ _ o. Where o.committed (λ u. u ≤ t)) rows

  abbrev Ordered : List Row → Type 0
  Ordered rows = Each (λ older r. Where r.committed (λ t. Upto t older)) rows

  in_order : (c t : ℕ) (rows : List Row) → Each (λ _. InOrder t) rows → Each (Sound (setting_of g) c) rows → Upto t rows
  in_order c t [] i s = tt
  in_order c t (o ∷ rows) i s = (upto o.committed refl s.0.facts.order, in_order c t rows i.1 s.1)
    where
      upto : (m : Option ℕ) → o.committed ≡ m → Where m (CommitAllowed (setting_of g) rows o) → Where m (λ u. u ≤ t)
      upto None e w = tt
      upto (Some u) e w = subst (By t) e (i.0.before w.right)

  ordered : (c : ℕ) (rows : List Row) → Each (Sound (setting_of g) c) rows → Ordered rows
  ordered c [] s = tt
  ordered c (r ∷ rows) s = (by_mark r.committed s.0.facts.order, ordered c rows s.1)
    where
      by_mark : (m : Option ℕ) → Where m (CommitAllowed (setting_of g) rows r) → Where m (λ t. Upto t rows)
      by_mark None w = tt
      by_mark (Some t) w = in_order c t rows w.order s.1

  -- no commit of these rows is of a later cycle
  none_later : (t x : ℕ) (rows : List Row) → t < x → Upto t rows → recorded_if (is_at x) rows ≡ []
  none_later t x [] lt u = refl
  none_later t x (o ∷ rows) lt u =
      ap (λ l. l ++ cond (is_at x o.committed) (recorded_by g (step_of g.trace o.fetched.state)) []) (none_later t x rows lt u.1)
      ∙ ap (λ b. cond b (recorded_by g (step_of g.trace o.fetched.state)) []) (early o.committed u.0)
    where
      early : (m : Option ℕ) → Where m (λ u. u ≤ t) → is_at x m ≡ false
      early None w = refl
      early (Some v) w = grind (arith, nat_tests)

  -- ---- commits of the first cycles, and of the next one

  join_none : (a b c : List Item) → a ≡ b ++ c → (a ++ []) ≡ (b ++ []) ++ (c ++ [])
  join_none a b c e = append-nil a ∙ (e ∙ (ap (λ l. l ++ c) (sym (append-nil b)) ∙ ap (λ l. (b ++ []) ++ l) (sym (append-nil c))))

  join_old : (a b c d : List Item) → a ≡ b ++ c → c ≡ [] → (a ++ d) ≡ (b ++ d) ++ (c ++ [])
  join_old a b c d e f =
      ap (λ l. l ++ d) (e ∙ (ap (λ l. b ++ l) f ∙ append-nil b)) ∙ (sym (append-nil (b ++ d)) ∙ ap (λ l. (b ++ d) ++ l) (sym (append-nil c ∙ f)))

  join_now : (a b c d : List Item) → a ≡ b ++ c → (a ++ d) ≡ (b ++ []) ++ (c ++ d)
  join_now a b c d e = ap (λ l. l ++ d) e ∙ (append_assoc b c d ∙ ap (λ l. l ++ (c ++ d)) (sym (append-nil b)))

  before_next : (x : ℕ) (rows : List Row) → Ordered rows → recorded_if (is_before (suc x)) rows ≡ recorded_if (is_before x) rows ++ recorded_if (is_at x) rows
  before_next x [] h = refl
  before_next x (r ∷ rows) h = by_mark (before_next x rows h.1) r.committed h.0
    where
      did : List Item
      did = recorded_by g (step_of g.trace r.fetched.state)

      a : List Item
      a = recorded_if (is_before (suc x)) rows

      b : List Item
      b = recorded_if (is_before x) rows

      d : List Item
      d = recorded_if (is_at x) rows

      tests : (p q s p' q' s' : Bool) → p ≡ p' → q ≡ q' → s ≡ s' → (a ++ cond p' did []) ≡ (b ++ cond q' did []) ++ (d ++ cond s' did []) → (a ++ cond p did []) ≡ (b ++ cond q did []) ++ (d ++ cond s did [])
      tests p q s p' q' s' e f k h = rw (e, f, k) h

      by_time : a ≡ b ++ d → (t : ℕ) → Upto t rows → (t < x) ⊎ (x ≤ t) → (x < t) ⊎ (t ≤ x)
          → (a ++ cond (nat_lt t (suc x)) did []) ≡ (b ++ cond (nat_lt t x) did []) ++ (d ++ cond (t == x) did [])
      by_time ih t u (inl lt) k =
          tests (nat_lt t (suc x)) (nat_lt t x) (t == x) true true false (lt-ltb t (suc x) (omega (arith, lt))) (lt-ltb t x lt) (grind (arith, nat_tests))
          (join_old a b d did ih (none_later t x rows lt u))
      by_time ih t u (inr le) (inl lt) =
          tests (nat_lt t (suc x)) (nat_lt t x) (t == x) false false false (le-ltb t (suc x) (omega (arith, lt))) (le-ltb t x (omega (arith, lt))) (grind (arith, nat_tests))
          (join_none a b d ih)
      by_time ih t u (inr le) (inr ge) =
          tests (nat_lt t (suc x)) (nat_lt t x) (t == x) true false true (lt-ltb t (suc x) (omega (arith, ge))) (le-ltb t x le) (eq-eqb t x (omega (arith, le, ge)))
          (join_now a b d did ih)

      by_mark : a ≡ b ++ d → (m : Option ℕ) → Where m (λ t. Upto t rows)
          → (a ++ cond (is_before (suc x) m) did []) ≡ (b ++ cond (is_before x m) did []) ++ (d ++ cond (is_at x m) did [])
      by_mark ih None w = join_none a b d ih
      by_mark ih (Some t) w = by_time ih t w (cases_lt t x) (cases_lt x t)

  before_first : (rows : List Row) → recorded_if (is_before 0) rows ≡ []
  before_first [] = refl
  before_first (r ∷ rows) =
      ap (λ l. l ++ cond (is_before 0 r.committed) (recorded_by g (step_of g.trace r.fetched.state)) []) (before_first rows)
      ∙ ap (λ b. cond b (recorded_by g (step_of g.trace r.fetched.state)) []) (none r.committed)
    where
      none : (m : Option ℕ) → is_before 0 m ≡ false
      none None = refl
      none (Some t) = le-ltb t 0 (omega arith)

  before_all : (n : ℕ) (rows : List Row) → Each (λ _ r. Where r.committed (λ t. t < n)) rows → recorded_if (is_before n) rows ≡ committed_items g rows
  before_all n [] h = refl
  before_all n (r ∷ rows) h =
      ap (λ l. l ++ cond (is_before n r.committed) (recorded_by g (step_of g.trace r.fetched.state)) []) (before_all n rows h.1)
      ∙ ap (λ b. committed_items g rows ++ cond b (recorded_by g (step_of g.trace r.fetched.state)) []) (same r.committed h.0)
    where
      same : (m : Option ℕ) → Where m (λ t. t < n) → is_before n m ≡ is_some m
      same None w = refl
      same (Some t) w = lt-ltb t n w

  -- ---- the whole run

  records_below : (e : Extent) (c n : ℕ) → records_among (items_below g e c n) ≡ recorded_if (is_before n) (rows_at (setting_of g) e c)
  unfolding items_below
  records_below e c zero = sym (before_first (rows_at (setting_of g) e c))
  records_below e c (suc n) =
      records_append (items_below g e c n) (items_in g e c n)
      ∙ (ap (λ l. l ++ records_among (items_in g e c n)) (records_below e c n)
      ∙ (ap (λ l. recorded_if (is_before n) (rows_at (setting_of g) e c) ++ l) (records_in e c n)
      ∙ sym (before_next n (rows_at (setting_of g) e c) (ordered c (rows_at (setting_of g) e c) (sound_at (setting_of g) e c)))))

  past : (e : Extent) (c : ℕ) (older : List Row) (r : Row) → Past' e c older r → Where r.committed (λ t. t < cycles_of e c)
  past Whole c older r h = h.committed
  past (AtCommit row) c older r h = all r.committed h.1
    where
      all : (m : Option ℕ) → Where m (λ x. (x < c) ⊎ ((x ≡ c) × (length older ≤ row))) → Where m (λ t. t < suc c)
      all None w = tt
      all (Some x) (inl lt) = omega (arith, lt)
      all (Some x) (inr (e, le)) = omega (arith, e)
  past AtStop c older r h = h.0.committed

  all_past : (e : Extent) (c : ℕ) (rows : List Row) → Each (Past' e c) rows → Each (λ _ r. Where r.committed (λ t. t < cycles_of e c)) rows
  all_past e c [] h = tt
  all_past e c (r ∷ rows) h = (past e c rows r h.0, all_past e c rows h.1)

  pub records_all : (e : Extent) (c : ℕ) → records_among (all_items g e c) ≡ committed_items g (rows_at (setting_of g) e c)
  records_all e c =
      records_below e c (cycles_of e c)
      ∙ before_all (cycles_of e c) (rows_at (setting_of g) e c) (all_past e c (rows_at (setting_of g) e c) (happened_at (setting_of g) e c))
