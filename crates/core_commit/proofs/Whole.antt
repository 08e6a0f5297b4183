-- A turn over the parts is a turn of the table.
use Rattle.std.proofs.Common.{◌≡◌, ℕ, suc, ◌+◌, ◌<◌, Bool, true, false, cond, List, [], ◌∷◌, ◌++◌, Option, Some, None, refl, sym, ap, ◌∙◌, subst, arith, length, take}
use Rattle.std.specs.Prelude.{◌&&◌, ◌-◌, not, slice_get, is_some, is_none, count_by}
use Rattle.std.specs.List.{AllZip}
use Rattle.std.proofs.lemmas.Bool.{cond-true, and_parts, and_from}
use Rattle.fu_pool.specs.declared.pools.Pool.TheVariants as pool
use Rattle.fu_pool.specs.Takes.{units_of, busy}
use Rattle.mem_hier.specs.Replay.{greatest_fetch_of, greatest_load_of}
use Rattle.ruu_core.specs.declared.station.Station.{Station}
use Rattle.ruu_core.specs.Window as unit
use Rattle.ooo_table.specs.declared.config.OooConfig.{OooConfig}
use Rattle.ooo_table.specs.Row.{Row, is_at, sweep}
use Rattle.ooo_table.specs.Execution.{Ports}
use Rattle.ooo_table.specs.Path.{stores}
use Rattle.ooo_table.specs.Done.{live}
use Rattle.ooo_table.specs.Commit.{commits, commit_row}
use Rattle.ooo_table.specs.Issue.{holds}
use Rattle.ooo_table.specs.Cycle.{table, after_commit}
use Rattle.ooo_table.specs.Later.{Each}
use Rattle.ooo_table.specs.Machine.{Given, setting_of}
use Rattle.ooo_table.specs.MachineLaws.{IsSound}
use Rattle.ooo_table.proofs.Timely.{bounded}
use Rattle.core_parts.specs.declared.parts.Parts.{Parts}
use Rattle.core_parts.specs.Fits.{Fits}
use Rattle.core_parts.specs.Rows.{Placed, pick, Lives}
use Rattle.core_parts.specs.Stands.{Stands}
use Rattle.core_parts.specs.Stages.{Committing, CommitsAs, CommitTurn}
use Rattle.core_parts.proofs.Lists.{and_false, count_skip, count_take, length_sweep, same_number}
use Rattle.core_commit.specs.Turn.{if_may, may_leave, leaving, Leaves, Turns}
use Rattle.core_commit.proofs.Partial.{Fit, fit_part}
use Rattle.core_commit.proofs.Lasts.{ends_in, zip_end, oldest_of}
use Rattle.core_commit.proofs.Head.{both, in_middle}
use Rattle.core_commit.proofs.Counted.{count_over, front_of, not_yet, ports_held}
use Rattle.core_commit.proofs.Test.{head_test, Still, swept_still, none_still, head_still}
use Rattle.core_commit.proofs.Marked.{marked}
use Rattle.core_commit.proofs.Stay.{Going, stands_after}

-- ---- the answer

pub record IsHead (c n : ℕ) (parts : Parts) (s : Station) (u : unit.Row) : Type 0 where
  pub is : u.station ≡ s
  pub passes : (unit.commits c u && may_leave c n parts u.station) ≡ true

pub leaving_some : (c n : ℕ) (parts : Parts) (s : Station) (o : Option unit.Row) → if_may c n parts (unit.head_of c o) ≡ Some s
    → (u : unit.Row) × (o ≡ Some u) × IsHead c n parts s u
leaving_some c n parts s None e = absurd cc
leaving_some c n parts s (Some u) e = (u, refl, by_test (unit.commits c u) refl e)
  where
    by_width : (b : Bool) → may_leave c n parts u.station ≡ b → unit.commits c u ≡ true → cond b (Some u.station) None ≡ Some s → IsHead c n parts s u
    by_width true f h e = record { is = cc; passes = and_from (unit.commits c u) (may_leave c n parts u.station) h f }
    by_width false f h e = absurd cc

    by_test : (b : Bool) → unit.commits c u ≡ b → if_may c n parts (cond b (Some u.station) None) ≡ Some s → IsHead c n parts s u
    by_test true h e = by_width (may_leave c n parts u.station) refl h e
    by_test false h e = absurd cc

leaving_none : (c n : ℕ) (parts : Parts) (u : unit.Row) → if_may c n parts (unit.head_of c (Some u)) ≡ None
    → (unit.commits c u && may_leave c n parts u.station) ≡ false
leaving_none c n parts u e = by_test (unit.commits c u) e
  where
    by_width : (b : Bool) → cond b (Some u.station) None ≡ None → b ≡ false
    by_width true e = absurd cc
    by_width false e = refl

    by_test : (b : Bool) → if_may c n parts (cond b (Some u.station) None) ≡ None → (b && may_leave c n parts u.station) ≡ false
    by_test true e = by_width (may_leave c n parts u.station) e
    by_test false e = refl

one_more : (n : ℕ) → 1 + n ≡ suc n
one_more n = omega arith

joint : {X : Type 0} (xs ys zs : List X) → (xs ++ ys) ++ zs ≡ xs ++ (ys ++ zs)
joint [] ys zs = refl
joint (x ∷ xs) ys zs = ap (λ l. x ∷ l) (joint xs ys zs)

module _ (g : Given) (sound : IsSound g) (c n : ℕ) (old : Parts) (fits : Fits c n old) (younger older : List Row) (k : Committing g c n younger older old) where
  fit_now : Each (Fit (setting_of g) c) (younger ++ sweep (commit_row (setting_of g) c) older)
  fit_now = fit_part (setting_of g) c (greatest_fetch_of g.hier) (greatest_load_of g.hier) (bounded g sound) younger older k.rows

  -- the oldest live row, which is the last of the unit
  record Head (u : unit.Row) : Type 0 where
    pub left : List Row
    pub row : Row
    pub passed : List Row
    pub is : younger ≡ left ++ (row ∷ passed)
    pub lives : Lives g u (record { row = row; older = passed ++ sweep (commit_row (setting_of g) c) older })
    pub at : live row ≡ true
    pub none : pick live (passed ++ sweep (commit_row (setting_of g) c) older) ≡ []

  head_of : (u : unit.Row) → unit.first old.unit.rows ≡ Some u → Head u
  head_of u e =
      let ends = ends_in old.unit.rows u e in
      let it = zip_end (Lives g) (take (length old.unit.rows - 1) old.unit.rows) u (pick live (younger ++ sweep (commit_row (setting_of g) c) older))
      (subst (λ l. AllZip (Lives g) l (pick live (younger ++ sweep (commit_row (setting_of g) c) older))) ends k.stands.rows.unit) in
      let o = oldest_of live younger (sweep (commit_row (setting_of g) c) older) it.0 it.1 k.passed it.2 in
      record { left = o.left; row = o.row; passed = o.passed; is = o.is; lives = subst (Lives g u) o.place it.3; at = o.passes; none = o.none }

  module _ (u : unit.Row) (h : Head u) where
    all_rows : younger ++ sweep (commit_row (setting_of g) c) older ≡ h.left ++ (h.row ∷ (h.passed ++ sweep (commit_row (setting_of g) c) older))
    all_rows = ap (λ l. l ++ sweep (commit_row (setting_of g) c) older) h.is ∙ joint h.left (h.row ∷ h.passed) (sweep (commit_row (setting_of g) c) older)

    fit_here : Each (Fit (setting_of g) c) (h.left ++ (h.row ∷ (h.passed ++ sweep (commit_row (setting_of g) c) older)))
    fit_here = subst (Each (Fit (setting_of g) c)) all_rows fit_now

    young_all : Each (λ _ o. is_at c o.committed ≡ false) (h.left ++ (h.row ∷ h.passed))
    young_all = subst (Each (λ _ o. is_at c o.committed ≡ false)) h.is (not_yet (setting_of g) c younger older k.rows)

    young : Each (λ _ o. is_at c o.committed ≡ false) h.left
    young = front_of (λ o. is_at c o.committed ≡ false) h.left (h.row ∷ h.passed) young_all

    not_now : is_at c h.row.committed ≡ false
    not_now = (in_middle (λ _ o. is_at c o.committed ≡ false) h.left h.passed h.row young_all).0

    young_passed : Each (λ _ o. is_at c o.committed ≡ false) h.passed
    young_passed = (in_middle (λ _ o. is_at c o.committed ≡ false) h.left h.passed h.row young_all).1

    counted : count_by (λ o. is_at c o.committed) (h.passed ++ sweep (commit_row (setting_of g) c) older) ≡ n
    counted = count_over (λ o. is_at c o.committed) h.passed (sweep (commit_row (setting_of g) c) older) young_passed ∙ k.count

    off : (rows : List Row) → Each (λ _ o. is_at c o.committed ≡ false) rows → Each (λ _ o. (is_at c o.committed && stores (setting_of g) o) ≡ false) rows
    off [] f = tt
    off (r ∷ rows) f = (ap (λ b. b && stores (setting_of g) r) f.0, off rows f.1)

    held : busy c (units_of old.pools pool.Port) ≡ count_by (λ o. is_at c o.committed && stores (setting_of g) o) (h.passed ++ sweep (commit_row (setting_of g) c) older)
    held =
        k.stands.pools Ports c (omega arith)
        ∙ (ap (count_by (holds (setting_of g) Ports c)) all_rows
        ∙ (ports_held (setting_of g) c (h.left ++ (h.row ∷ (h.passed ++ sweep (commit_row (setting_of g) c) older))) fit_here
        ∙ (count_over (λ o. is_at c o.committed && stores (setting_of g) o) h.left (h.row ∷ (h.passed ++ sweep (commit_row (setting_of g) c) older)) (off h.left young)
        ∙ count_skip (λ o. is_at c o.committed && stores (setting_of g) o) h.row (h.passed ++ sweep (commit_row (setting_of g) c) older) (ap (λ b. b && stores (setting_of g) h.row) not_now))))

    tested : commits (setting_of g) c (h.passed ++ sweep (commit_row (setting_of g) c) older) h.row ≡ (unit.commits c u && may_leave c n old u.station)
    tested =
        head_test g c n old.config.commit old.pools (h.passed ++ sweep (commit_row (setting_of g) c) older) h.row u h.lives
        (in_middle (Fit (setting_of g) c) h.left (h.passed ++ sweep (commit_row (setting_of g) c) older) h.row fit_here).0
        (in_middle (Fit (setting_of g) c) h.left (h.passed ++ sweep (commit_row (setting_of g) c) older) h.row fit_here).1
        h.at h.none (ap (λ (o : OooConfig). o.commit) k.stands.run.config)
        (fits.sizes.ports ∙ ap (λ (o : OooConfig). o.ports) k.stands.run.config) held counted

    -- the rows between have no turn
    passed_over : sweep (commit_row (setting_of g) c) (h.passed ++ older) ≡ h.passed ++ sweep (commit_row (setting_of g) c) older
    passed_over =
        swept_still (setting_of g) c h.passed older
        (none_still (setting_of g) c h.passed (sweep (commit_row (setting_of g) c) older)
        (in_middle (Fit (setting_of g) c) h.left (h.passed ++ sweep (commit_row (setting_of g) c) older) h.row fit_here).1 h.none)

    rows_then : (table (setting_of g) c).rows ≡ h.left ++ (h.row ∷ (h.passed ++ older))
    rows_then = k.rows ∙ (ap (λ l. l ++ older) h.is ∙ joint h.left (h.row ∷ h.passed) older)

    module _ (yes : (unit.commits c u && may_leave c n old u.station) ≡ true) where
      does : commits (setting_of g) c (sweep (commit_row (setting_of g) c) (h.passed ++ older)) h.row ≡ true
      does = ap (λ l. commits (setting_of g) c l h.row) passed_over ∙ (tested ∙ yes)

      row_then : sweep (commit_row (setting_of g) c) (h.row ∷ (h.passed ++ older)) ≡ marked c h.row ∷ (h.passed ++ sweep (commit_row (setting_of g) c) older)
      row_then =
          ap (λ x. x ∷ sweep (commit_row (setting_of g) c) (h.passed ++ older))
          (cond-true (commits (setting_of g) c (sweep (commit_row (setting_of g) c) (h.passed ++ older)) h.row) (marked c h.row) h.row does)
          ∙ ap (λ l. marked c h.row ∷ l) passed_over

      going : Going g c h.left (h.passed ++ sweep (commit_row (setting_of g) c) older) h.row u
      going =
          record {
            lives = h.lives;
            at = h.at;
            none = h.none;
            right = right;
            fit = fit_here;
            fit' =
                subst (λ l. Each (Fit (setting_of g) c) (h.left ++ l)) row_then
                (fit_part (setting_of g) c (greatest_fetch_of g.hier) (greatest_load_of g.hier) (bounded g sound) h.left (h.row ∷ (h.passed ++ older)) rows_then);
            young = young;
          }
        where
          not_wrong : (b d : Bool) → b ≡ not d → not b ≡ true → d ≡ true
          not_wrong b true e f = refl
          not_wrong b false e f = absurd (both (sym (ap not e) ∙ f) refl)

          right : h.row.fetched.right ≡ true
          right =
              not_wrong u.station.wrong h.row.fetched.right h.lives.station.wrong
              (and_parts (not u.station.wrong) (unit.is_done (unit.is_before c) [] u) (and_parts (unit.commits c u) (may_leave c n old u.station) yes).0).0

      committing : (new : Parts) → unit.first old.unit.rows ≡ Some u → Leaves c u.station old new → Committing g c (suc n) h.left (h.row ∷ (h.passed ++ older)) new
      committing new first l =
          record {
            rows = rows_then;
            stands =
                subst (λ x. Stands g c false new (record (table (setting_of g) c) { rows = h.left ++ x })) (sym row_then)
                (stands_after g c h.left (h.passed ++ sweep (commit_row (setting_of g) c) older) h.row u going old new (table (setting_of g) c) first l
                (subst (λ x. Stands g c false old (record (table (setting_of g) c) { rows = x })) all_rows k.stands));
            count =
                ap (count_by (λ o. is_at c o.committed)) row_then
                ∙ (count_take (λ o. is_at c o.committed) (marked c h.row) (h.passed ++ sweep (commit_row (setting_of g) c) older) (same_number c) ∙ (ap (λ m. 1 + m) counted ∙ one_more n));
            passed =
                ap (pick live) row_then
                ∙ (ap (λ b. cond b (record { row = marked c h.row; older = h.passed ++ sweep (commit_row (setting_of g) c) older } ∷ pick live (h.passed ++ sweep (commit_row (setting_of g) c) older)) (pick live (h.passed ++ sweep (commit_row (setting_of g) c) older)))
                (ap (λ b. b && is_none h.row.squashed) (and_false (is_some h.row.dispatched)))
                ∙ h.none);
          }

      commits_as : CommitsAs g c u.station h.row (h.passed ++ older)
      commits_as =
          record {
            commits = does;
            number = h.lives.row ∙ (ap length (sym passed_over) ∙ length_sweep (commit_row (setting_of g) c) (h.passed ++ older));
            is = h.lives.station;
          }

    -- the oldest live row stays, and so do all
    stays : (unit.commits c u && may_leave c n old u.station) ≡ false → Still (setting_of g) c younger (sweep (commit_row (setting_of g) c) older)
    stays e =
        subst (λ l. Still (setting_of g) c l (sweep (commit_row (setting_of g) c) older)) (sym h.is)
        (head_still (setting_of g) c h.left h.passed (sweep (commit_row (setting_of g) c) older) h.row fit_here h.at h.none (tested ∙ e))

  -- where no row commits any more the stage is over
  is_over : Still (setting_of g) c younger (sweep (commit_row (setting_of g) c) older) → Stands g c false old (after_commit (setting_of g) c)
  is_over still =
      subst (λ l. Stands g c false old (record (table (setting_of g) c) { rows = l }))
      (sym (ap (sweep (commit_row (setting_of g) c)) k.rows ∙ swept_still (setting_of g) c younger older still)) k.stands

  none_first : (rows : List unit.Row) → unit.first rows ≡ None → rows ≡ []
  none_first [] e = refl
  none_first (x ∷ rows) e = absurd (some (x ∷ rows) (omega arith) e)
    where
      some : (rows : List unit.Row) → 0 < length rows → slice_get rows (length rows - 1) ≡ None → ⊥
      some [] lt e = absurd (omega arith)
      some (x ∷ []) lt e =
          let n : length (x ∷ []) - 1 ≡ 0 = omega arith in
          let f : Some x ≡ None = sym (ap (λ k. slice_get (x ∷ []) k) n) ∙ e in cc
      some (x ∷ (y ∷ rows)) lt e =
          let n : length (x ∷ (y ∷ rows)) - 1 ≡ suc (length (y ∷ rows) - 1) = omega arith in
          some (y ∷ rows) (omega arith) (sym (ap (λ k. slice_get (x ∷ (y ∷ rows)) k) n) ∙ e)

  no_picks : (ps : List Placed) → AllZip (Lives g) [] ps → ps ≡ []
  no_picks [] z = refl
  no_picks (p ∷ ps) z = absurd z

  still_now : (o : Option unit.Row) → unit.first old.unit.rows ≡ o → if_may c n old (unit.head_of c o) ≡ None → Still (setting_of g) c younger (sweep (commit_row (setting_of g) c) older)
  still_now None f e =
      none_still (setting_of g) c younger (sweep (commit_row (setting_of g) c) older) fit_now
      (no_picks (pick live (younger ++ sweep (commit_row (setting_of g) c) older))
      (subst (λ l. AllZip (Lives g) l (pick live (younger ++ sweep (commit_row (setting_of g) c) older))) (none_first old.unit.rows f) k.stands.rows.unit))
  still_now (Some u) f e = stays u (head_of u f) (leaving_none c n old u e)

-- the turn
pub turn : (g : Given) → IsSound g → (c n : ℕ) (old new : Parts) (answer : Option Station) → Fits c n old → Turns c n old new answer → CommitTurn g c n old new answer
turn g sound c n old new None fits t =
    λ younger older k.
    subst (λ x. Stands g c false x (after_commit (setting_of g) c)) (sym t.1)
    (is_over g sound c n old fits younger older k (still_now g sound c n old fits younger older k (unit.first old.unit.rows) refl t.0))
turn g sound c n old new (Some s) fits t =
    λ younger older k.
    let it = leaving_some c n old s (unit.first old.unit.rows) t.0 in
    let h = head_of g sound c n old fits younger older k it.0 it.1 in (
      h.left,
      h.row,
      h.passed,
      h.is,
      subst (λ x. CommitsAs g c x h.row (h.passed ++ older)) it.2.is (commits_as g sound c n old fits younger older k it.0 h it.2.passes),
      committing g sound c n old fits younger older k it.0 h it.2.passes new it.1 (subst (λ x. Leaves c x old new) (sym it.2.is) t.1),
    )

-- where no row commits any more no younger row has a turn
pub turns_over : (g : Given) → IsSound g → (c n : ℕ) (old : Parts) → Fits c n old → leaving c n old ≡ None → (younger older : List Row) → Committing g c n younger older old
    → (after_commit (setting_of g) c).rows ≡ younger ++ sweep (commit_row (setting_of g) c) older
turns_over g sound c n old fits e younger older k =
    ap (sweep (commit_row (setting_of g) c)) k.rows
    ∙ swept_still (setting_of g) c younger older (still_now g sound c n old fits younger older k (unit.first old.unit.rows) refl e)
