-- The oldest live row: the test of its commit by its station, and no other row commits before it.
use Rattle.std.proofs.Common.{◌≡◌, ℕ, ◌<◌, ◌≤◌, Bool, true, false, cond, List, [], ◌∷◌, ◌++◌, Option, Some, None, refl, sym, ap, ◌∙◌, subst, arith, inl, inr}
use Rattle.std.specs.Prelude.{◌&&◌, ◌||◌, not, is_some, is_none, ◌⊎◌, filter}
use Rattle.std.specs.List.{list_any, list_all}
use Rattle.std.proofs.lemmas.Bool.{and_parts, and_from, and_left, and_right, ltb-true, lt-ltb}
use Rattle.pisa_isa.specs.declared.places.Place.{Place}
use Rattle.ruu_core.specs.Window as unit
use Rattle.ooo_table.specs.Row.{Row, is_before, returned}
use Rattle.ooo_table.specs.Execution.{MemoryUse, NoMemory, LoadFrom, StoreTo, is_load, is_store, same_place}
use Rattle.ooo_table.specs.Table.{Setting}
use Rattle.ooo_table.specs.Path.{execution, loads, stores}
use Rattle.ooo_table.specs.Done.{live, waiting, written, finished, have_produced, done_before, unsquashed_before}
use Rattle.ooo_table.specs.Commit.{commits}
use Rattle.ooo_table.specs.Later.{Each, Where, By}
use Rattle.ooo_table.specs.Legal.{CommitAllowed}
use Rattle.ooo_table.specs.CycleLaws.{SquashSpreads, Passed}
use Rattle.ooo_table.specs.Machine.{Given, setting_of}
use Rattle.ooo_table.proofs.RowFacts.{done_issued}
use Rattle.ooo_table.proofs.Steps.{Kind, made_for, live_have}
use Rattle.ooo_table.proofs.Times.{Gone}
use Rattle.core_parts.specs.Rows.{pick, Lives}
use Rattle.core_commit.proofs.Partial.{Fit}

-- ---- small facts

pub both : {b : Bool} → b ≡ true → b ≡ false → ⊥
both e f = cc

pub either : (P : Type 0) (b : Bool) → (b ≡ true → P) → (b ≡ false → P) → P
either P true f g = f refl
either P false f g = g refl

none_not : {A : Type 0} (m : Option A) → is_some m ≡ true → is_none m ≡ false
none_not None h = absurd cc
none_not (Some x) h = refl

pub some_is : {A : Type 0} (m : Option A) → is_some m ≡ true → (x : A) × (m ≡ Some x)
some_is None h = absurd cc
some_is (Some x) h = (x, refl)

where_at : {A : Type 0} (m : Option A) (P : A → Type 0) (x : A) → m ≡ Some x → Where m P → P x
where_at None P x e w = absurd cc
where_at {A = A} (Some y) P x e w = let k : y ≡ x = cc in subst P k w

pub not_picked : (p : Row → Bool) (o : Row) (older : List Row) → pick p (o ∷ older) ≡ [] → (p o ≡ false) × (pick p older ≡ [])
not_picked p o older e = by_case (p o) e
  where
    by_case : (b : Bool) → cond b (record { row = o; older = older } ∷ pick p older) (pick p older) ≡ [] → (b ≡ false) × (pick p older ≡ [])
    by_case true e = absurd cc
    by_case false e = (refl, e)

pub none_filtered : (p : Row → Bool) (rows : List Row) → pick p rows ≡ [] → filter p rows ≡ []
none_filtered p [] e = refl
none_filtered p (o ∷ rows) e =
    let n = not_picked p o rows e in ap (λ b. cond b (o ∷ filter p rows) (filter p rows)) n.0 ∙ none_filtered p rows n.1

-- a row in the middle of others that pass
pub in_middle : (P : List Row → Row → Type 0) (left older : List Row) (r : Row) → Each P (left ++ (r ∷ older)) → P older r × Each P older
in_middle P [] older r h = (h.0, h.1)
in_middle P (y ∷ left) older r h = in_middle P left older r h.1

pub live_parts : (o : Row) → live o ≡ true → (is_some o.dispatched ≡ true) × (is_none o.committed ≡ true) × (is_none o.squashed ≡ true)
live_parts o h =
    let a : ((is_some o.dispatched && is_none o.committed) ≡ true) × (is_none o.squashed ≡ true) = and_parts _ _ h in
    let b : (is_some o.dispatched ≡ true) × (is_none o.committed ≡ true) = and_parts _ _ a.0 in
    (b.0, b.1, a.1)

-- neither live nor waiting: a row is committed or squashed
over : (o : Row) → live o ≡ false → waiting o ≡ false → (is_some o.committed ≡ true) ⊎ (is_some o.squashed ≡ true)
over o l w = by_marks o.dispatched o.committed o.squashed l w
  where
    by_marks : (d m s : Option ℕ) → (is_some d && is_none m && is_none s) ≡ false → (is_none d && is_none s) ≡ false → (is_some m ≡ true) ⊎ (is_some s ≡ true)
    by_marks d (Some x) s l w = inl refl
    by_marks d None (Some x) l w = inr refl
    by_marks (Some d) None None l w = absurd cc
    by_marks None None None l w = absurd cc

left_over : (o : Row) → o.squashed ≡ None → live o ≡ false → waiting o ≡ false → is_some o.committed ≡ true
left_over o e l w = by_over (over o l w)
  where
    by_over : (is_some o.committed ≡ true) ⊎ (is_some o.squashed ≡ true) → is_some o.committed ≡ true
    by_over (inl h) = h
    by_over (inr h) = absurd (both h (ap is_some e))

pub before_later : (x c : ℕ) (m : Option ℕ) → x ≤ c → is_before x m ≡ true → is_before c m ≡ true
before_later x c None le h = h
before_later x c (Some t) le h = lt-ltb t c (let k : t < x = ltb-true t x h in omega arith)

store_no_load : (m : MemoryUse) → is_store m ≡ true → is_load m ≡ false
store_no_load NoMemory h = refl
store_no_load (LoadFrom a) h = absurd cc
store_no_load (StoreTo a) h = refl

module _ (set : Setting) (c : ℕ) where
  -- ---- which rows commit

  done_of : (older : List Row) (r : Row) → commits set c older r ≡ true → done_before set c older r ≡ true
  done_of older r h = grind (arith, and_parts)

  right_of : (older : List Row) (r : Row) → commits set c older r ≡ true → r.fetched.right ≡ true
  right_of older r h = grind (arith, and_parts)

  unset_of : (older : List Row) (r : Row) → commits set c older r ≡ true → is_none r.committed ≡ true
  unset_of older r h = grind (arith, and_parts)

  all_of : (older : List Row) (r : Row) → commits set c older r ≡ true → list_all (λ o. not o.fetched.right || is_some o.committed) older ≡ true
  all_of older r h = grind (arith, and_parts)

  -- a row that commits is live
  pub commits_live : (before older : List Row) (r : Row) → Fit set c before r → commits set c older r ≡ true → live r ≡ true
  commits_live before older r fit h =
      let came : is_some r.dispatched ≡ true = fit.facts.came (done_issued set c older r fit.facts.reached (done_of older r h)) in
      and_from _ _ (and_from _ _ came (unset_of older r h)) (ap is_none (fit.stays (right_of older r h)))

  committed_over : (o : Row) → is_some o.committed ≡ true → live o ≡ false
  committed_over o h = and_left (is_some o.dispatched && is_none o.committed) (is_none o.squashed) (and_right (is_some o.dispatched) (is_none o.committed) (none_not o.committed h))

  squashed_over : (o : Row) → (x : ℕ) (f : ℕ) → o.squashed ≡ Some x → live o ≡ false
  squashed_over o x f e = and_right (is_some o.dispatched && is_none o.committed) (is_none o.squashed) (ap is_none e)

  -- and no row before it is
  none_before : (f : ℕ) (older : List Row) → Gone f older → list_all (λ o. not o.fetched.right || is_some o.committed) older ≡ true → pick live older ≡ []
  none_before f [] g h = refl
  none_before f (o ∷ older) g h =
      let parts : ((not o.fetched.right || is_some o.committed) ≡ true) × (list_all (λ o. not o.fetched.right || is_some o.committed) older ≡ true) = and_parts _ _ h in
      ap (λ b. cond b (record { row = o; older = older } ∷ pick live older) (pick live older))
      (either (live o ≡ false) o.fetched.right
      (λ w. committed_over o (rw w at parts.0))
      (λ w. squashed_over o (g.0 w).0 f (g.0 w).1))
      ∙ none_before f older g.1 parts.1

  pub commits_oldest : (older : List Row) (r : Row) → Fit set c older r → commits set c older r ≡ true → pick live older ≡ []
  commits_oldest older r fit h = none_before r.fetched.at older (fit.gone (right_of older r h)) (all_of older r h)

  -- ---- the rows before the oldest live one

  -- each right one has committed
  pub settled : (older : List Row) → Each (Fit set c) older → Passed older → pick live older ≡ [] → list_all (λ o. not o.fetched.right || is_some o.committed) older ≡ true
  settled [] fit p e = refl
  settled (o ∷ older) fit p e =
      let n = not_picked live o older e in
      and_from _ _
      (either ((not o.fetched.right || is_some o.committed) ≡ true) o.fetched.right
      (λ w. rw w (left_over o (fit.0.stays w) n.0 p.0))
      (λ w. rw w refl))
      (settled older fit.1 p.1 n.1)

  finished_by : (x : ℕ) (older : List Row) (o : Row) → x ≤ c → done_before set x older o ≡ true → is_before c (finished set o) ≡ true
  finished_by x older o le h = by_store (stores set o) refl h
    where
      by_load : (b : Bool) → b ≡ false → is_before x (written set o) ≡ true → is_before c (cond b (returned o) (written set o)) ≡ true
      by_load true e h = absurd cc
      by_load false e h = before_later x c _ le h

      by_store : (b : Bool) → stores set o ≡ b
          → cond b (is_before x (written set o) && have_produced set x older o (execution set o).second) (is_before x (finished set o)) ≡ true → is_before c (finished set o) ≡ true
      by_store true e h = by_load (loads set o) (store_no_load (execution set o).memory e) (and_parts _ _ h).0
      by_store false e h = before_later x c (finished set o) le h

  -- each is no producer of a row that was fetched at f and dispatched at d, or was done before c
  kinds : (d f : ℕ) (older : List Row) → f < d → Each (Fit set c) older → Passed older → Each (λ _ o. Where o.squashed (λ x. x ≤ f)) older → pick live older ≡ []
      → Each (Kind set c d) older
  kinds d f [] lt fit p g e = tt
  kinds d f (o ∷ older) lt fit p g e = (by_over (over o n.0 p.0), kinds d f older lt fit.1 p.1 g.1 n.1)
    where
      n : (live o ≡ false) × (pick live older ≡ [])
      n = not_picked live o older e

      done : is_some o.committed ≡ true → is_before c (finished set o) ≡ true
      done h =
          let it : (x : ℕ) × (o.committed ≡ Some x) = some_is o.committed h in
          finished_by it.0 older o (where_at o.committed (λ d. d ≤ c) it.0 it.1 fit.0.facts.committed_by)
          (where_at o.committed (CommitAllowed set older o) it.0 it.1 fit.0.facts.order).done

      unmade : is_some o.squashed ≡ true → (q : Place) → made_for set d q o ≡ false
      unmade h q =
          let it : (x : ℕ) × (o.squashed ≡ Some x) = some_is o.squashed h in
          let le : it.0 ≤ f = where_at o.squashed (λ x. x ≤ f) it.0 it.1 g.0 in
          and_right (list_any (λ w. same_place w q) (execution set o).writes && is_some o.dispatched) (unsquashed_before (Some d) o)
          (ap (λ m. not (is_before d m)) it.1 ∙ ap not (lt-ltb it.0 d (omega arith)))

      by_over : (is_some o.committed ≡ true) ⊎ (is_some o.squashed ≡ true) → Kind set c d older o
      by_over (inl h) = inr (inr (done h, none_filtered live older n.1))
      by_over (inr h) = inr (inl (unmade h))

  have_none : (n : ℕ) (r : Row) (places : List Place) → have_produced set n [] r places ≡ true
  have_none n r [] = refl
  have_none n r (p ∷ places) = have_none n r places

  -- squashes before an unsquashed row come before its fetch
  squashed_by : (older : List Row) (r : Row) → r.squashed ≡ None → SquashSpreads older r → Each (λ _ o. Where o.squashed (λ x. x ≤ r.fetched.at)) older
  squashed_by [] r e h = tt
  squashed_by (o ∷ older) r e h = (by_mark o.squashed h.0, squashed_by older r e h.1)
    where
      by_mark : (m : Option ℕ) → Where m (λ x. (x ≤ r.fetched.at) ⊎ By x r.squashed) → Where m (λ x. x ≤ r.fetched.at)
      by_mark None w = tt
      by_mark (Some x) (inl le) = le
      by_mark (Some x) (inr b) = absurd (subst (By x) e b)

  -- what it reads is there
  pub head_has : (older : List Row) (r : Row) (places : List Place) → Fit set c older r → Each (Fit set c) older → live r ≡ true → pick live older ≡ []
      → have_produced set c older r places ≡ true
  head_has older r places fit fits at none =
      let parts = live_parts r at in
      let d : (x : ℕ) × (r.dispatched ≡ Some x) = some_is r.dispatched parts.0 in
      let early : r.fetched.at < d.0 = (where_at r.dispatched (λ d. (d < c) × (r.fetched.at < d)) d.0 d.1 fit.own.dispatched).1 in
      live_have set c d.0 older r places d.1
      (kinds d.0 r.fetched.at older early fits (fit.facts.first parts.0) (squashed_by older r (none_is r.squashed parts.2) fit.spreads) none)
      ∙ (ap (λ l. have_produced set c l r places) (none_filtered live older none) ∙ have_none c r places)
    where
      none_is : (m : Option ℕ) → is_none m ≡ true → m ≡ None
      none_is None h = refl
      none_is (Some x) h = absurd cc

-- ---- the same by the station

pub same_before : (c : ℕ) (m : Option ℕ) → is_before c m ≡ unit.is_before c m
same_before c None = refl
same_before c (Some t) = refl

unit_has : (test : Option ℕ → Bool) (places : List Place) → unit.have_produced test [] places ≡ true
unit_has test [] = refl
unit_has test (p ∷ places) = unit_has test places

and_true : (a b : Bool) → b ≡ true → (a && b) ≡ a
and_true true b e = e
and_true false b e = refl

-- a row is done as its station says, where what it reads is there
pub done_same : (g : Given) (c : ℕ) (older : List Row) (r : Row) (u : unit.Row) → Lives g u (record { row = r; older = older })
    → have_produced (setting_of g) c older r (execution (setting_of g) r).second ≡ true
    → done_before (setting_of g) c older r ≡ unit.is_done (unit.is_before c) [] u
done_same g c older r u lv has =
    by_store (stores (setting_of g) r) (unit.is_store u.station) (loads (setting_of g) r) (unit.is_load u.station)
    (written (setting_of g) r) u.written (returned r) u.returned
    (have_produced (setting_of g) c older r (execution (setting_of g) r).second) (unit.second_done (unit.is_before c) [] u)
    lv.station.operates.store lv.station.operates.load lv.written lv.returned has (unit_has (unit.is_before c) (unit.second_reads u.station))
  where
    by_store : (sr ss lr ls : Bool) (w w' b b' : Option ℕ) (h h' : Bool) → ss ≡ sr → ls ≡ lr → w ≡ w' → b ≡ b' → h ≡ true → h' ≡ true
        → cond sr (is_before c w && h) (is_before c (cond lr b w)) ≡ cond ss (unit.is_before c w' && h') (unit.is_before c (cond ls b' w'))
    by_store true ss lr ls w w' b b' h h' e f k m n q =
        rw e (and_true (is_before c w) h n ∙ (same_before c w ∙ (ap (unit.is_before c) k ∙ sym (and_true (unit.is_before c w') h' q))))
    by_store false ss lr ls w w' b b' h h' e f k m n q =
        rw (e, f) (same_before c (cond lr b w) ∙ (ap (λ x. unit.is_before c (cond lr x w)) m ∙ ap (λ x. unit.is_before c (cond lr b' x)) k))
