-- Where no right row is in flight no row is live, since a live wrong row is behind a live right one that it follows.
use Rattle.std.proofs.Common.{◌≡◌, ℕ, suc, ◌+◌, ◌<◌, ◌≤◌, Bool, true, false, cond, List, [], ◌∷◌, length, Option, Some, None, refl, sym, ap, ◌∙◌, subst, arith, inl, inr}
use Rattle.std.specs.Prelude.{◌&&◌, is_none, is_some, option_map}
use Rattle.std.specs.List.{AllZip}
use Rattle.std.proofs.lemmas.Bool.{cond_both, and_parts, ltb-true, lt-ltb}
use Rattle.ooo_table.specs.Row.{Row, MemoryAccess, is_before, returned}
use Rattle.ooo_table.specs.Table.{Setting}
use Rattle.ooo_table.specs.Path.{execution, loads, stores}
use Rattle.ooo_table.specs.PathLaws.{newest}
use Rattle.ooo_table.specs.Done.{live, written, finished, have_produced, done_before}
use Rattle.ooo_table.specs.Commit.{commit, commit_row, commits}
use Rattle.ooo_table.specs.Recovery.{recover}
use Rattle.ooo_table.specs.References.{store_references}
use Rattle.ooo_table.specs.Issue.{issue, issue_row, issues, accesses, access_of}
use Rattle.ooo_table.specs.Dispatch.{dispatch_row, dispatches}
use Rattle.ooo_table.specs.Cycle.{table}
use Rattle.ooo_table.specs.Ends.{Extent, Whole, AtCommit, AtStop, recovered_cycles, rows_at, commit_up_to}
use Rattle.ooo_table.specs.Later.{Each, Where}
use Rattle.ooo_table.specs.Legal.{CommitAllowed, AccessAllowed, ProducersDone}
use Rattle.ooo_table.specs.CycleLaws.{Passed}
use Rattle.ooo_table.specs.Machine.{Given, setting_of}
use Rattle.ooo_table.proofs.Counts.{both', one, count_cons}
use Rattle.ooo_table.proofs.Kept.{Kept, kept_at, changed_up_to}
use Rattle.ooo_table.proofs.Over.{count_none}
use Rattle.ooo_table.proofs.Recovered.{untouched_at}
use Rattle.ooo_table.proofs.Route.{Route, Strays, stage_keeps, recover_keeps, route_table}
use Rattle.ooo_table.proofs.RowFacts.{changed_commit, changed_dispatch, changed_issue}
use Rattle.ooo_table.proofs.Run.{Known, known_at}
use Rattle.core_parts.specs.declared.parts.Parts.{Parts}
use Rattle.core_parts.specs.Rows.{pick, Lives}
use Rattle.core_parts.proofs.Lists.{zip_length, pick_length}
use Rattle.core_ends.specs.Extents.{StandsAt, right_in_flight}
use Rattle.core_ends.proofs.Steps.{Untouched}

module _ (set : Setting) where
  -- an access is back no earlier than it issued
  abbrev Back : Row → Type 0
  Back r = Where r.access (λ a. a.at ≤ a.back)

  back_kept : (c : ℕ) → Kept set c (λ _ r. Back r)
  back_kept c =
      record {
        at_commit = λ older before r zip below p. cond_both (commits set c before r) (record r { committed = Some c }) r Back (λ _. p) (λ _. p);
        at_squash = λ older before r zip below p. cond_both _ (record r { squashed = Some c }) r Back (λ _. p) (λ _. p);
        at_issue = λ base start older before r zip below p.
            cond_both (issues set c start before r) (record r { issued = Some c }) _ Back (λ _. p)
            (λ _. cond_both (accesses set c start before r) (record r { access = Some (access_of set c base before r) }) r Back (λ _. omega arith) (λ _. p));
        at_dispatch = λ older before r zip below p. cond_both (dispatches set c before r) (record r { dispatched = Some c }) r Back (λ _. p) (λ _. p);
        at_fetch = λ older u look queued g. tt;
        still = λ older before r zip below p. p;
      }

  back_at : (e : Extent) (c : ℕ) → Each (λ _ r. Back r) (rows_at set e c)
  back_at e c = kept_at set (λ c _ r. Back r) back_kept (λ c older r p. p) e c

  routes_at : (e : Extent) (c : ℕ) → 1 ≤ set.config.penalty → Each (Route set (recovered_cycles e c)) (rows_at set e c)
  routes_at Whole c pen = (route_table set c pen).0
  routes_at (AtCommit row) c pen =
      (stage_keeps set c c (commit_up_to set row c) (table set c).rows (table set c).next_fetch (omega arith) (changed_up_to set row c) (route_table set c pen)).0
  routes_at AtStop c pen =
      let one = commit set c (table set c) in
      let two = recover set c one in
      let three = issue set c two in
      let base = store_references set c two.rows two.references in
      let k1 = stage_keeps set c c (commit_row set c) (table set c).rows (table set c).next_fetch (omega arith) (changed_commit set c) (route_table set c pen) in
      let k2 = recover_keeps set c one pen k1 in
      let k3 = stage_keeps set c (suc c) (issue_row set c base two.rows) two.rows two.next_fetch (omega arith) (changed_issue set c base two.rows) k2 in
      (stage_keeps set c (suc c) (dispatch_row set c) three.rows three.next_fetch (omega arith) (changed_dispatch set c) k3).0

  before_later : (x n : ℕ) (m : Option ℕ) → x ≤ n → is_before x m ≡ true → is_before n m ≡ true
  before_later x n None le h = absurd cc
  before_later x n (Some t) le h = lt-ltb t n (omega (arith, ltb-true t x h))

  -- a row that was done had been written back
  done_written : (x n : ℕ) → x ≤ n → (older : List Row) (r : Row) → Back r → ProducersDone set older r → done_before set x older r ≡ true → is_before n (written set r) ≡ true
  done_written x n le older r b p h = by_store (stores set r) h
    where
      by_access : (m : Option MemoryAccess) → Where m (λ a. a.at ≤ a.back) → Where m (λ a. AccessAllowed set older r a.at) → is_before x (option_map (λ a. a.back) m) ≡ true
          → is_before n (written set r) ≡ true
      by_access None b w k = absurd cc
      by_access (Some a) b w k = let lt : a.back < x = ltb-true a.back x k in before_later (suc a.at) n (written set r) (omega (arith, lt, b, le)) w.back

      by_load : (b : Bool) → is_before x (cond b (returned r) (written set r)) ≡ true → is_before n (written set r) ≡ true
      by_load true k = by_access r.access b p.access k
      by_load false k = before_later x n (written set r) le k

      by_store : (b : Bool) → cond b (is_before x (written set r) && have_produced set x older r (execution set r).second) (is_before x (finished set r)) ≡ true → is_before n (written set r) ≡ true
      by_store true k = before_later x n (written set r) le (and_parts (is_before x (written set r)) (have_produced set x older r (execution set r).second) k).0
      by_store false k = by_load (loads set r) k

  -- ---- live rows

  none_of : (b : Bool) (n : ℕ) → one b + n ≡ 0 → b ≡ false
  none_of true n e = absurd (omega (arith, e))
  none_of false n e = refl

  abbrev in_flight : Row → Bool
  in_flight r = r.fetched.right && live r

  first_none : (r : Row) (rows : List Row) → right_in_flight (r ∷ rows) ≡ 0 → in_flight r ≡ false
  first_none r rows z = none_of (in_flight r) (right_in_flight rows) (sym (count_cons in_flight r rows) ∙ z)

  rest_none : (r : Row) (rows : List Row) → right_in_flight (r ∷ rows) ≡ 0 → right_in_flight rows ≡ 0
  rest_none r rows z = omega (arith, z, count_cons in_flight r rows)

  still_right : (b d : Bool) → b ≡ true → (b && d) ≡ false → d ≡ false
  still_right true d e h = h
  still_right false d e h = absurd cc

  module _ (c n : ℕ) (le : c ≤ n) where
    -- the newest right row before a dispatched one has been written back, so the path goes on behind it
    no_stray : (rows : List Row) → Each (Known set c) rows → Each (λ _ r. Back r) rows → Each (λ _. Untouched) rows → Passed rows → right_in_flight rows ≡ 0 → Strays set n (newest rows) → ⊥
    no_stray [] k b u p z s = s
    no_stray (o ∷ rows) k b u p z s = by_right o.fetched.right refl s (no_stray rows k.1 b.1 u.1 p.1 (rest_none o rows z))
      where
        came : (d x : Option ℕ) → x ≡ None → (is_none d && is_none x) ≡ false → is_some d ≡ true
        came None x e h = absurd (both' (ap is_none e) h)
        came (Some y) x e h = refl

        left : (d m x : Option ℕ) → is_some d ≡ true → x ≡ None → (is_some d && is_none m && is_none x) ≡ false → (y : ℕ) × (m ≡ Some y)
        left d (Some y) x f e h = (y, refl)
        left None None x f e h = absurd cc
        left (Some z) None x f e h = absurd (both' (ap is_none e) h)

        where_some : (m : Option ℕ) (y : ℕ) (P : ℕ → Type 0) → m ≡ Some y → Where m P → P y
        where_some None y P e w = absurd cc
        where_some (Some x) y P e w = let same : x ≡ y = cc in subst P same w

        by_strays : o.fetched.right ≡ true → Strays set n (Some o) → ⊥
        by_strays e s =
            let d : is_some o.dispatched ≡ true = came o.dispatched o.squashed (u.0 e) p.0 in
            let (y, m) = left o.dispatched o.committed o.squashed d (u.0 e) (still_right o.fetched.right (live o) e (first_none o rows z)) in
            let w : CommitAllowed set rows o y = where_some o.committed y (CommitAllowed set rows o) m k.0.sound.facts.order in
            let by : y ≤ c = where_some o.committed y (λ x. x ≤ c) m k.0.sound.facts.committed_by in
            either s d (done_written y n (omega (arith, by, le)) rows o b.0 k.0.sound.p1 w.done)
          where
            either : Strays set n (Some o) → is_some o.dispatched ≡ true → is_before n (written set o) ≡ true → ⊥
            either (inl stops) d w = both' stops (k.0.proceeds e d)
            either (inr (wrong, late)) d w = both' w late

        by_right : (b : Bool) → o.fetched.right ≡ b → Strays set n (cond b (Some o) (newest rows)) → (Strays set n (newest rows) → ⊥) → ⊥
        by_right true e s ih = by_strays e s
        by_right false e s ih = ih s

    none_live : (rows : List Row) → Each (Known set c) rows → Each (Route set n) rows → Each (λ _ r. Back r) rows → Each (λ _. Untouched) rows → right_in_flight rows ≡ 0 → Each (λ _ o. live o ≡ false) rows
    none_live [] k t b u z = tt
    none_live (r ∷ rows) k t b u z = (by_right r.fetched.right refl, none_live rows k.1 t.1 b.1 u.1 (rest_none r rows z))
      where
        none_of_mark : (m : Option ℕ) → is_none m ≡ true → m ≡ None
        none_of_mark None h = refl
        none_of_mark (Some x) h = absurd cc

        by_live : (b : Bool) → live r ≡ b → r.fetched.right ≡ false → b ≡ false
        by_live false e w = refl
        by_live true e w =
            let both : ((is_some r.dispatched && is_none r.committed) ≡ true) × (is_none r.squashed ≡ true) = and_parts (is_some r.dispatched && is_none r.committed) (is_none r.squashed) e in
            let d : is_some r.dispatched ≡ true = (and_parts (is_some r.dispatched) (is_none r.committed) both.0).0 in
            absurd (no_stray rows k.1 b.1 u.1 (k.0.sound.facts.first d) (rest_none r rows z) (t.0.strays w (none_of_mark r.squashed both.1)))

        by_right : (b : Bool) → r.fetched.right ≡ b → live r ≡ false
        by_right true e = still_right r.fetched.right (live r) e (first_none r rows z)
        by_right false e = by_live (live r) refl e

  pub none_live_at : (e : Extent) (c : ℕ) → 1 ≤ set.config.penalty → right_in_flight (rows_at set e c) ≡ 0 → Each (λ _ o. live o ≡ false) (rows_at set e c)
  none_live_at e c pen z =
      none_live c (recovered_cycles e c) (reaches e) (rows_at set e c) (known_at set e c pen) (routes_at e c pen) (back_at e c) (untouched_at set e c pen) z
    where
      reaches : (e : Extent) → c ≤ recovered_cycles e c
      reaches Whole = omega arith
      reaches (AtCommit row) = omega arith
      reaches AtStop = omega arith

-- ---- the unit

lives_at : (g : Given) (e : Extent) (c : ℕ) (parts : Parts) → StandsAt g e c parts → AllZip (Lives g) parts.unit.rows (pick live (rows_at (setting_of g) e c))
lives_at g Whole c parts stands = stands.rows.unit
lives_at g (AtCommit row) c parts stands = stands.rows.unit
lives_at g AtStop c parts stands = stands.rows.unit

empty_list : {A : Type 0} (xs : List A) → length xs ≡ 0 → xs ≡ []
empty_list [] e = refl
empty_list (x ∷ xs) e = absurd (omega (arith, e))

pub empty_unit : (g : Given) (e : Extent) (c : ℕ) (parts : Parts) → StandsAt g e c parts → 1 ≤ g.config.penalty → right_in_flight (rows_at (setting_of g) e c) ≡ 0 → parts.unit.rows ≡ []
empty_unit g e c parts stands pen z =
    let all : List Row = rows_at (setting_of g) e c in
    empty_list parts.unit.rows
    (zip_length (Lives g) parts.unit.rows (pick live all) (lives_at g e c parts stands)
    ∙ (pick_length live all ∙ count_none live all (none_live_at (setting_of g) e c pen z)))
