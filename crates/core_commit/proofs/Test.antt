-- The test of the oldest live row by its station and the pools is that of the table, and where it fails no row commits.
use Rattle.std.proofs.Common.{◌≡◌, ℕ, Bool, true, false, List, [], ◌∷◌, ◌++◌, Some, refl, sym, ap, ◌∙◌, subst}
use Rattle.std.specs.Prelude.{◌&&◌, ◌||◌, not, nat_lt, is_some, is_none, count_by}
use Rattle.std.specs.List.{list_all}
use Rattle.std.proofs.lemmas.Bool.{cond-false}
use Rattle.fu_pool.specs.declared.pools.Pool.TheVariants as pool
use Rattle.fu_pool.specs.Takes.{Units, units_of, units_in, busy}
use Rattle.ruu_core.specs.Window as unit
use Rattle.ooo_table.specs.Row.{Row, is_at, sweep}
use Rattle.ooo_table.specs.Table.{Setting}
use Rattle.ooo_table.specs.Path.{execution, stores}
use Rattle.ooo_table.specs.Done.{live, done_before}
use Rattle.ooo_table.specs.Commit.{commits, commit_row}
use Rattle.ooo_table.specs.Later.{Each}
use Rattle.ooo_table.specs.Machine.{Given, setting_of}
use Rattle.core_parts.specs.Rows.{pick, Lives}
use Rattle.core_commit.specs.Turn.{has_port}
use Rattle.core_commit.proofs.Partial.{Fit}
use Rattle.core_commit.proofs.Head.{both, in_middle, live_parts, settled, head_has, done_same, commits_live, commits_oldest, not_picked}

joined : (right unset done all store r' done' port : Bool) (m n w w' q p : ℕ) → r' ≡ right → unset ≡ true → all ≡ true → done ≡ done' → m ≡ n → w' ≡ w
    → port ≡ (not store || nat_lt q p)
    → (right && unset && done && all && nat_lt m w && (not store || nat_lt q p)) ≡ (r' && done' && (nat_lt n w' && port))
joined right unset done all store r' done' port m n w w' q p e f g h i j k =
    rw (e, f, g, h, i, j, k) (by_value right done' (nat_lt n w) (not store || nat_lt q p))
  where
    by_value : (a d b x : Bool) → (a && true && d && true && b && x) ≡ (a && d && (b && x))
    by_value true true true x = refl
    by_value true true false x = refl
    by_value true false b x = refl
    by_value false d b x = refl

-- of the row r, which is the oldest live one behind these rows
pub head_test : (g : Given) (c n width : ℕ) (pools : Units) (older : List Row) (r : Row) (u : unit.Row) → Lives g u (record { row = r; older = older })
    → Fit (setting_of g) c older r → Each (Fit (setting_of g) c) older → live r ≡ true → pick live older ≡ []
    → width ≡ g.config.commit → units_in pools pool.Port ≡ g.config.ports
    → busy c (units_of pools pool.Port) ≡ count_by (λ o. is_at c o.committed && stores (setting_of g) o) older
    → count_by (λ o. is_at c o.committed) older ≡ n
    → commits (setting_of g) c older r ≡ (not u.station.wrong && unit.is_done (unit.is_before c) [] u && (nat_lt n width && has_port (unit.is_store u.station) c pools))
head_test g c n width pools older r u lv fit fits at none is_width is_ports held is_count =
    let parts = live_parts r at in
    joined r.fetched.right (is_none r.committed) (done_before (setting_of g) c older r) (list_all (λ o. not o.fetched.right || is_some o.committed) older)
    (stores (setting_of g) r) (not u.station.wrong) (unit.is_done (unit.is_before c) [] u) (has_port (unit.is_store u.station) c pools)
    (count_by (λ o. is_at c o.committed) older) n g.config.commit width (count_by (λ o. is_at c o.committed && stores (setting_of g) o) older) g.config.ports
    (ap not lv.station.wrong ∙ twice r.fetched.right) parts.1 (settled (setting_of g) c older fits (fit.facts.first parts.0) none)
    (done_same g c older r u lv (head_has (setting_of g) c older r (execution (setting_of g) r).second fit fits at none)) is_count is_width
    (port (unit.is_store u.station) (stores (setting_of g) r) lv.station.operates.store)
  where
    twice : (b : Bool) → not (not b) ≡ b
    twice true = refl
    twice false = refl

    port : (b d : Bool) → b ≡ d
        → has_port b c pools ≡ (not d || nat_lt (count_by (λ o. is_at c o.committed && stores (setting_of g) o) older) g.config.ports)
    port true d e = rw (← e, held, is_ports) refl
    port false d e = rw (← e) refl

-- ---- no row commits

-- of these rows none commits, behind others
abbrev pub Still : Setting → ℕ → List Row → List Row → Type 0
Still set c [] rest = Unit {0}
Still set c (y ∷ ys) rest = (commits set c (ys ++ rest) y ≡ false) × Still set c ys rest

module _ (set : Setting) (c : ℕ) where
  pub swept_still : (ys older : List Row) → Still set c ys (sweep (commit_row set c) older) → sweep (commit_row set c) (ys ++ older) ≡ ys ++ sweep (commit_row set c) older
  swept_still [] older h = refl
  swept_still (y ∷ ys) older h =
      ap (λ l. commit_row set c l y ∷ l) (swept_still ys older h.1)
      ∙ ap (λ x. x ∷ (ys ++ sweep (commit_row set c) older)) (cond-false (commits set c (ys ++ sweep (commit_row set c) older) y) (record y { committed = Some c }) y h.0)

  off : (b : Bool) → (b ≡ true → ⊥) → b ≡ false
  off true h = absurd (h refl)
  off false h = refl

  -- with no live row none commits
  pub none_still : (ys rest : List Row) → Each (Fit set c) (ys ++ rest) → pick live (ys ++ rest) ≡ [] → Still set c ys rest
  none_still [] rest fit e = tt
  none_still (y ∷ ys) rest fit e =
      let n = not_picked live y (ys ++ rest) e in
      (off _ (λ h. both (commits_live set c (ys ++ rest) (ys ++ rest) y fit.0 h) n.0), none_still ys rest fit.1 n.1)

  some_picked : (ys older : List Row) (r : Row) → live r ≡ true → pick live (ys ++ (r ∷ older)) ≡ [] → ⊥
  some_picked [] older r at e = both at (not_picked live r older e).0
  some_picked (y ∷ ys) older r at e = some_picked ys older r at (not_picked live y (ys ++ (r ∷ older)) e).1

  still_join : (xs ys rest : List Row) → Still set c xs (ys ++ rest) → Still set c ys rest → Still set c (xs ++ ys) rest
  still_join [] ys rest h k = k
  still_join (x ∷ xs) ys rest h k = (subst (λ l. commits set c l x ≡ false) (sym (joint xs)) h.0, still_join xs ys rest h.1 k)
    where
      joint : (xs : List Row) → (xs ++ ys) ++ rest ≡ xs ++ (ys ++ rest)
      joint [] = refl
      joint (x ∷ xs) = ap (λ l. x ∷ l) (joint xs)

  left_still : (left older : List Row) (r : Row) → Each (Fit set c) (left ++ (r ∷ older)) → live r ≡ true → Still set c left (r ∷ older)
  left_still [] older r fit at = tt
  left_still (y ∷ left) older r fit at =
      (off _ (λ h. some_picked left older r at (commits_oldest set c (left ++ (r ∷ older)) y fit.0 h)), left_still left older r fit.1 at)

  -- and where the oldest live one doesn't, none does
  pub head_still : (left passed rest : List Row) (r : Row) → Each (Fit set c) (left ++ (r ∷ (passed ++ rest))) → live r ≡ true → pick live (passed ++ rest) ≡ []
      → commits set c (passed ++ rest) r ≡ false → Still set c (left ++ (r ∷ passed)) rest
  head_still left passed rest r fit at none e =
      still_join left (r ∷ passed) rest (left_still left (passed ++ rest) r fit at)
      (e, none_still passed rest (in_middle (Fit set c) left (passed ++ rest) r fit).1 none)
