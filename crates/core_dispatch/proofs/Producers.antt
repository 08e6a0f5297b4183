-- The producers of a row that is dispatched are found among the live rows of the unit.
use Rattle.std.proofs.Common.{◌≡◌, ℕ, suc, ◌<◌, ◌≤◌, Bool, true, false, cond, List, [], ◌∷◌, Option, Some, None, refl, sym, ap, ◌∙◌, subst, arith, inl, inr}
use Rattle.std.specs.Prelude.{◌⊎◌, ◌&&◌, not, is_some, is_none, filter, find}
use Rattle.std.specs.List.{AllZip, list_any}
use Rattle.std.proofs.lemmas.Bool.{and_parts, ltb-true, lt-ltb}
use Rattle.std.proofs.lemmas.Bool.Decides.{nat_tests}
use Rattle.pisa_isa.specs.declared.places.Place.{Place}
use Rattle.ruu_core.specs.Window as unit
use Rattle.ooo_table.specs.Row.{Row, is_before, returned}
use Rattle.ooo_table.specs.Execution.{MemoryUse, NoMemory, LoadFrom, StoreTo, is_load, is_store, same_place}
use Rattle.ooo_table.specs.Table.{Setting}
use Rattle.ooo_table.specs.Path.{execution, loads, stores}
use Rattle.ooo_table.specs.Done.{live, waiting, written, finished, unsquashed_before, has_produced, have_produced, done_before}
use Rattle.ooo_table.specs.Later.{Each, Where, By}
use Rattle.ooo_table.specs.Legal.{CommitAllowed, InOrder}
use Rattle.ooo_table.specs.CycleLaws.{Passed, SquashSpreads}
use Rattle.ooo_table.specs.Machine.{Given, setting_of}
use Rattle.ooo_table.proofs.Steps.{Kind, made_for}
use Rattle.ooo_table.proofs.Times.{Gone}
use Rattle.core_parts.specs.Rows.{pick, Placed, Lives}
use Rattle.core_dispatch.proofs.Partial.{Fit}

differ : {b : Bool} → b ≡ true → b ≡ false → ⊥
differ e f = cc

pub none_of : {A : Type 0} (m : Option A) → is_none m ≡ true → m ≡ None
none_of None h = refl
none_of (Some x) h = absurd cc

pub some_is : {A : Type 0} (m : Option A) → is_some m ≡ true → (x : A) × (m ≡ Some x)
some_is None h = absurd cc
some_is (Some x) h = (x, refl)

pub where_at : {A : Type 0} (m : Option A) (P : A → Type 0) (x : A) → m ≡ Some x → Where m P → P x
where_at None P x e w = absurd cc
where_at {A = A} (Some y) P x e w = let k : y ≡ x = cc in subst P k w

pub below_later : (x c : ℕ) (m : Option ℕ) → x ≤ c → is_before x m ≡ true → is_before c m ≡ true
below_later x c None le h = h
below_later x c (Some t) le h = lt-ltb t c (let k : t < x = ltb-true t x h in omega arith)

pub by_before : (c : ℕ) (m : Option ℕ) → unit.is_by c m ≡ is_before (suc c) m
by_before c None = refl
by_before c (Some t) = grind (arith, nat_tests)

pub same_before : (c : ℕ) (m : Option ℕ) → unit.is_before c m ≡ is_before c m
same_before c None = refl
same_before c (Some t) = refl

pub live_parts : (o : Row) → live o ≡ true → (is_some o.dispatched ≡ true) × (is_none o.committed ≡ true) × (is_none o.squashed ≡ true)
live_parts o h =
    let a : ((is_some o.dispatched && is_none o.committed) ≡ true) × (is_none o.squashed ≡ true) = and_parts (is_some o.dispatched && is_none o.committed) (is_none o.squashed) h in
    let b : (is_some o.dispatched ≡ true) × (is_none o.committed ≡ true) = and_parts (is_some o.dispatched) (is_none o.committed) a.0 in
    (b.0, b.1, a.1)

-- neither live nor waiting nor squashed: committed
left_over : (o : Row) → o.squashed ≡ None → live o ≡ false → waiting o ≡ false → is_some o.committed ≡ true
left_over o e l w = by_marks o.dispatched o.committed o.squashed e l w
  where
    by_marks : (d m s : Option ℕ) → s ≡ None → (is_some d && is_none m && is_none s) ≡ false → (is_none d && is_none s) ≡ false → is_some m ≡ true
    by_marks d (Some x) s e l w = refl
    by_marks (Some d) None None e l w = absurd cc
    by_marks None None None e l w = absurd cc
    by_marks d None (Some x) e l w = absurd cc

committed_over : (o : Row) → is_some o.committed ≡ true → live o ≡ false
committed_over o h = by_marks o.dispatched o.committed o.squashed h
  where
    by_marks : (d m s : Option ℕ) → is_some m ≡ true → (is_some d && is_none m && is_none s) ≡ false
    by_marks d None s h = absurd cc
    by_marks None (Some x) s h = refl
    by_marks (Some d) (Some x) s h = refl

squashed_over : (o : Row) (x : ℕ) → o.squashed ≡ Some x → live o ≡ false
squashed_over o x e = ap (λ s. is_some o.dispatched && is_none o.committed && is_none s) e ∙ off (is_some o.dispatched) (is_none o.committed)
  where
    off : (a b : Bool) → (a && b && false) ≡ false
    off true true = refl
    off true false = refl
    off false b = refl

store_no_load : (m : MemoryUse) → is_store m ≡ true → is_load m ≡ false
store_no_load NoMemory h = refl
store_no_load (LoadFrom a) h = absurd cc
store_no_load (StoreTo a) h = refl

-- each row that was squashed was so by f
abbrev pub Cut : ℕ → List Row → Type 0
Cut f older = Each (λ _ o. (x : ℕ) → o.squashed ≡ Some x → x ≤ f) older

-- a row that stands has only rows before it that were squashed by its fetch
pub cut_of : (older : List Row) (r : Row) → r.squashed ≡ None → SquashSpreads older r → Cut r.fetched.at older
cut_of [] r e h = tt
cut_of (o ∷ older) r e h = ((λ x is. by_squash x o.squashed is h.0), cut_of older r e h.1)
  where
    none : (x : ℕ) → By x None → ⊥
    none x h = h

    by_squash : (x : ℕ) (m : Option ℕ) → m ≡ Some x → Where m (λ x. (x ≤ r.fetched.at) ⊎ By x r.squashed) → x ≤ r.fetched.at
    by_squash x None is w = absurd cc
    by_squash x (Some y) is (inl le) = let k : y ≡ x = cc in subst (λ z. z ≤ r.fetched.at) k le
    by_squash x (Some y) is (inr b) = absurd (none y (subst (By y) e b))

module _ (set : Setting) (c : ℕ) where
  none_live : (f x : ℕ) (older : List Row) → Gone f older → Each (λ _. InOrder x) older → filter live older ≡ []
  none_live f x [] g h = refl
  none_live f x (o ∷ older) g h =
      ap (λ b. cond b (o ∷ filter live older) (filter live older)) (by_right o.fetched.right refl) ∙ none_live f x older g.1 h.1
    where
      by_mark : (m : Option ℕ) → By x m → is_some m ≡ true
      by_mark None b = absurd b
      by_mark (Some y) b = refl

      by_right : (b : Bool) → o.fetched.right ≡ b → live o ≡ false
      by_right true e = committed_over o (by_mark o.committed (h.0.before e))
      by_right false e = squashed_over o (g.0 e).0 (g.0 e).1

  done_finished : (x : ℕ) (older : List Row) (o : Row) → x ≤ c → done_before set x older o ≡ true → is_before c (finished set o) ≡ true
  done_finished x older o le h = by_store (stores set o) refl h
    where
      by_load : (b : Bool) → b ≡ false → is_before x (written set o) ≡ true → is_before c (cond b (returned o) (written set o)) ≡ true
      by_load true e h = absurd cc
      by_load false e h = below_later x c _ le h

      by_store : (b : Bool) → stores set o ≡ b → cond b (is_before x (written set o) && have_produced set x older o (execution set o).second) (is_before x (finished set o)) ≡ true → is_before c (finished set o) ≡ true
      by_store true e h = by_load (loads set o) (store_no_load (execution set o).memory e) (and_parts (is_before x (written set o)) (have_produced set x older o (execution set o).second) h).0
      by_store false e h = below_later x c (finished set o) le h

  -- what older rows are to any live row, right or wrong
  pub kinds_live : (d f : ℕ) (older : List Row) → f < d → Each (Fit set c) older → Passed older → Cut f older → Each (Kind set (suc c) d) older
  kinds_live d f [] lt fit p cut = tt
  kinds_live d f (o ∷ older) lt fit p cut = (by_live (live o) refl, kinds_live d f older lt fit.1 p.1 cut.1)
    where
      by_squash : (m : Option ℕ) → o.squashed ≡ m → live o ≡ false → Kind set (suc c) d older o
      by_squash None e l =
          let came : is_some o.committed ≡ true = left_over o e l p.0 in
          let it : (x : ℕ) × (o.committed ≡ Some x) = some_is o.committed came in
          let well : CommitAllowed set older o it.0 = where_at o.committed (CommitAllowed set older o) it.0 it.1 fit.0.facts.order in
          inr (inr (
            below_later c (suc c) (finished set o) (omega arith) (done_finished it.0 older o (where_at o.committed (λ d. d ≤ c) it.0 it.1 fit.0.facts.committed_by) well.done),
            none_live o.fetched.at it.0 older (fit.0.gone well.right) well.order,
          ))
      by_squash (Some x) e l =
          inr (inl (λ q.
          unmade (list_any (λ w. same_place w q) (execution set o).writes) (is_some o.dispatched) (unsquashed_before (Some d) o)
          (ap (λ m. not (is_before d m)) e ∙ ap not (lt-ltb x d (let le : x ≤ f = cut.0 x e in omega arith)))))
        where
          unmade : (a b s : Bool) → s ≡ false → (a && b && s) ≡ false
          unmade true true s e = e
          unmade true false s e = refl
          unmade false b s e = refl

      by_live : (b : Bool) → live o ≡ b → Kind set (suc c) d older o
      by_live true e = inl e
      by_live false e = by_squash o.squashed refl e

-- ---- over the rows of the unit

module _ (g : Given) (c : ℕ) where
  abbrev set : Setting
  set = setting_of g

  finished_same : (u : unit.Row) (p : Placed) → Lives g u p → unit.is_by c (unit.finished u) ≡ is_before (suc c) (finished set p.row)
  finished_same u p l =
      by_before c (unit.finished u) ∙ ap (is_before (suc c)) (joined (unit.is_load u.station) (loads set p.row) u.returned (returned p.row) u.written (written set p.row) l.station.operates.load (sym l.returned) (sym l.written))
    where
      joined : (a a' : Bool) (x x' y y' : Option ℕ) → a ≡ a' → x ≡ x' → y ≡ y' → cond a x y ≡ cond a' x' y'
      joined a a' x x' y y' e f g = rw (e, f, g) refl

  made_same : (d : ℕ) (q : Place) (u : unit.Row) (p : Placed) → live p.row ≡ true → Lives g u p → made_for set d q p.row ≡ unit.writes_place q u.station
  made_same d q u p at l =
      let parts : (is_some p.row.dispatched ≡ true) × (is_none p.row.committed ≡ true) × (is_none p.row.squashed ≡ true) = live_parts p.row at in
      joined (list_any (λ w. same_place w q) (execution set p.row).writes) (list_any (λ w. unit.same_place w q) (unit.writes u.station)) (is_some p.row.dispatched) (unsquashed_before (Some d) p.row)
      (sym (ap (list_any (λ w. unit.same_place w q)) l.station.operates.writes ∙ places (execution set p.row).writes)) parts.0 (ap (λ m. not (is_before d m)) (none_of p.row.squashed parts.2))
    where
      places : (ws : List Place) → list_any (λ w. unit.same_place w q) ws ≡ list_any (λ w. same_place w q) ws
      places ws = refl

      joined : (a a' b s : Bool) → a ≡ a' → b ≡ true → s ≡ true → (a && b && s) ≡ a'
      joined a a' b s e f h = rw (e, f, h) (by_value a')
        where
          by_value : (a : Bool) → (a && true && true) ≡ a
          by_value true = refl
          by_value false = refl

  pick_none : (rows : List Row) → filter live rows ≡ [] → pick live rows ≡ []
  pick_none [] e = refl
  pick_none (r ∷ rows) e = by_live (live r) refl e (pick_none rows)
    where
      by_live : (b : Bool) → live r ≡ b → cond b (r ∷ filter live rows) (filter live rows) ≡ [] → (filter live rows ≡ [] → pick live rows ≡ []) → cond b (record { row = r; older = rows } ∷ pick live rows) (pick live rows) ≡ []
      by_live true f e ih = absurd cc
      by_live false f e ih = ih e

  produced_live : (d : ℕ) (q : Place) (us : List unit.Row) (rows : List Row) → AllZip (Lives g) us (pick live rows) → Each (Kind set (suc c) d) rows
      → has_produced set (suc c) (find (made_for set d q) rows) ≡ unit.has_produced (unit.is_by c) (unit.producer us q)
  produced_live d q [] [] z k = refl
  produced_live d q (u ∷ us) [] z k = absurd z
  produced_live d q us (o ∷ rows) z k = by_live (live o) refl us z (λ us z. produced_live d q us rows z k.1)
    where
      none_zip : (us : List unit.Row) → pick live rows ≡ [] → AllZip (Lives g) us (pick live rows) → us ≡ []
      none_zip [] e z = refl
      none_zip (u ∷ us) e z = absurd (subst (AllZip (Lives g) (u ∷ us)) e z)

      by_made : (b b' : Bool) (u : unit.Row) (us : List unit.Row) → b ≡ b' → is_before (suc c) (finished set o) ≡ unit.is_by c (unit.finished u)
          → has_produced set (suc c) (find (made_for set d q) rows) ≡ unit.has_produced (unit.is_by c) (unit.producer us q)
          → has_produced set (suc c) (cond b (Some o) (find (made_for set d q) rows)) ≡ unit.has_produced (unit.is_by c) (cond b' (Some u) (unit.producer us q))
      by_made true true u us e f ih = f
      by_made false false u us e f ih = ih
      by_made true false u us e f ih = absurd cc
      by_made false true u us e f ih = absurd cc

      gone : (m : Bool) (us : List unit.Row) → made_for set d q o ≡ m → Kind set (suc c) d rows o → live o ≡ false → AllZip (Lives g) us (pick live rows)
          → has_produced set (suc c) (find (made_for set d q) rows) ≡ unit.has_produced (unit.is_by c) (unit.producer us q)
          → has_produced set (suc c) (cond m (Some o) (find (made_for set d q) rows)) ≡ unit.has_produced (unit.is_by c) (unit.producer us q)
      gone false us e kind l z ih = ih
      gone true us e (inl a) l z ih = absurd (differ a l)
      gone true us e (inr (inl a)) l z ih = absurd (differ e (a q))
      gone true us e (inr (inr a)) l z ih = a.0 ∙ sym (ap (λ us. unit.has_produced (unit.is_by c) (unit.producer us q)) (none_zip us (pick_none rows a.1) z))

      by_live : (b : Bool) → live o ≡ b → (us : List unit.Row) → AllZip (Lives g) us (cond b (record { row = o; older = rows } ∷ pick live rows) (pick live rows))
          → ((us : List unit.Row) → AllZip (Lives g) us (pick live rows) → has_produced set (suc c) (find (made_for set d q) rows) ≡ unit.has_produced (unit.is_by c) (unit.producer us q))
          → has_produced set (suc c) (cond (made_for set d q o) (Some o) (find (made_for set d q) rows)) ≡ unit.has_produced (unit.is_by c) (unit.producer us q)
      by_live true e [] z ih = absurd z
      by_live true e (u ∷ us) z ih =
          by_made (made_for set d q o) (unit.writes_place q u.station) u us (made_same d q u (record { row = o; older = rows }) e z.0) (sym (finished_same u (record { row = o; older = rows }) z.0)) (ih us z.1)
      by_live false e us z ih = gone (made_for set d q o) us refl k.0 e z (ih us z)

  -- what a live row reads is done exactly where its producers among the unit's rows are
  pub have_live : (older : List Row) (r : Row) (us : List unit.Row) (d : ℕ) (places : List Place) → r.dispatched ≡ Some d → AllZip (Lives g) us (pick live older) → Each (Kind set (suc c) d) older
      → have_produced set (suc c) older r places ≡ unit.have_produced (unit.is_by c) us places
  have_live older r us d [] e z k = refl
  have_live older r us d (q ∷ places) e z k =
      ap (λ b. b && have_produced set (suc c) older r places)
      (ap (λ m. has_produced set (suc c) (find (λ o. list_any (λ w. same_place w q) (execution set o).writes && is_some o.dispatched && unsquashed_before m o) older)) e ∙ produced_live d q us older z k)
      ∙ ap (λ b. unit.has_produced (unit.is_by c) (unit.producer us q) && b) (have_live older r us d places e z k)
