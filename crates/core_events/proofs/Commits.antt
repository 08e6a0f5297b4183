-- Turns of the commit stage over the parts are turns of the table, and the unit tells when no row commits any more.
use Rattle.std.proofs.Common.{◌≡◌, ℕ, ◌+◌, Bool, true, false, cond, List, [], ◌∷◌, ◌++◌, Option, Some, None, refl, sym, ap, ◌∙◌, subst, arith, length}
use Rattle.std.specs.Prelude.{◌&&◌, ◌==◌, option_map, is_some, is_none, count_by}
use Rattle.std.proofs.lemmas.Bool.{and_parts}
use Rattle.std.proofs.lemmas.Bool.Decides.{nat_tests}
use Rattle.ooo_table.specs.Row.{Row, MemoryAccess, is_at, is_before, returned}
use Rattle.ooo_table.specs.Execution.{unit_latency}
use Rattle.ooo_table.specs.Table.{Setting}
use Rattle.ooo_table.specs.Path.{execution, loads, stores}
use Rattle.ooo_table.specs.Done.{live, written, finished, have_produced, done_before}
use Rattle.ooo_table.specs.Commit.{commits, commit_row}
use Rattle.ooo_table.specs.Cycle.{table, after_commit}
use Rattle.ooo_table.specs.Ends.{Whole}
use Rattle.ooo_table.specs.Later.{Each}
use Rattle.ooo_table.specs.CycleLaws.{RowFacts}
use Rattle.ooo_table.specs.Machine.{Given, setting_of}
use Rattle.ooo_table.specs.MachineLaws.{IsSound}
use Rattle.ooo_table.proofs.Counts.{one, count_cons}
use Rattle.ooo_table.proofs.Recovered.{untouched_at}
use Rattle.ooo_table.proofs.RowFacts.{facts_table}
use Rattle.core_parts.specs.Rows.{pick, Lives}
use Rattle.core_parts.proofs.Lists.{zip_length, pick_length}
use Rattle.core_watch.specs.StageItemsLaws.{turned, commits_now, CommitsNext}
use Rattle.core_watch.proofs.CommitTurns.{Uncommitted, uncommitted, now_counted, turn_commits, turn_stays, commit_is_shown, commits_are_over}
use Rattle.core_events.specs.Commits.{TurnsAreShown, StagesAreShown}
use Rattle.core_events.proofs.Exits.{commit_is_of}

count_append : (p : Row → Bool) (xs ys : List Row) → count_by p (xs ++ ys) ≡ count_by p xs + count_by p ys
count_append p [] ys = omega arith
count_append p (x ∷ xs) ys = omega (arith, count_cons p x (xs ++ ys), count_cons p x xs, count_append p xs ys)

back_of : (P : List Row → Row → Type 0) (younger older : List Row) → Each P (younger ++ older) → Each P older
back_of P [] older h = h
back_of P (y ∷ younger) older h = back_of P younger older h.1

-- right rows aren't squashed
abbrev Untouched : Row → Type 0
Untouched r = r.fetched.right ≡ true → r.squashed ≡ None

module _ (g : Given) (c : ℕ) where
  abbrev set : Setting
  set = setting_of g

  -- ---- a row that commits was live

  some_issued : (x : ℕ) (r : Row) → is_before x (written set r) ≡ true → is_some r.issued ≡ true
  some_issued x r h = by_mark r.issued h
    where
      by_mark : (m : Option ℕ) → is_before x (option_map (λ i. i + unit_latency (execution set r).unit) m) ≡ true → is_some m ≡ true
      by_mark None h = absurd cc
      by_mark (Some i) h = refl

  some_access : (x : ℕ) (m : Option MemoryAccess) → is_before x (option_map (λ a. a.back) m) ≡ true → is_some m ≡ true
  some_access x None h = absurd cc
  some_access x (Some a) h = refl

  done_issued : (before older : List Row) (r : Row) → RowFacts set c older r → done_before set c before r ≡ true → is_some r.issued ≡ true
  done_issued before older r f h = by_store (stores set r) h
    where
      by_load : (b : Bool) → is_before c (cond b (returned r) (written set r)) ≡ true → is_some r.issued ≡ true
      by_load true h = f.reached (some_access c r.access h)
      by_load false h = some_issued c r h

      by_store : (b : Bool) → cond b (is_before c (written set r) && have_produced set c before r (execution set r).second) (is_before c (finished set r)) ≡ true → is_some r.issued ≡ true
      by_store true h = some_issued c r (and_parts (is_before c (written set r)) (have_produced set c before r (execution set r).second) h).0
      by_store false h = by_load (loads set r) h

  was_live : (before older : List Row) (r : Row) → RowFacts set c older r → Untouched r → commits set c before r ≡ true → live r ≡ true
  was_live before older r f u h = three (is_some r.dispatched) (is_none r.committed) (is_none r.squashed) (f.came (done_issued before older r f (done h))) (unset h) (ap is_none (u (right h)))
    where
      three : (a b d : Bool) → a ≡ true → b ≡ true → d ≡ true → (a && b && d) ≡ true
      three a b d e f h = rw (e, f, h) refl

      done : commits set c before r ≡ true → done_before set c before r ≡ true
      done e = grind (arith, and_parts)

      unset : commits set c before r ≡ true → is_none r.committed ≡ true
      unset e = grind (arith, and_parts)

      right : commits set c before r ≡ true → r.fetched.right ≡ true
      right e = grind (arith, and_parts)

  same_number : (c == c) ≡ true
  same_number = grind (arith, nat_tests)

  -- each commit leaves one live row less
  live_counted : (rows : List Row) → Each (RowFacts set c) rows → Each (λ _. Untouched) rows → Uncommitted c rows → count_by live (turned g c rows) + commits_now g c rows ≡ count_by live rows
  live_counted [] f u h = refl
  live_counted (r ∷ rows) f u h =
      omega (
        arith,
        live_counted rows f.1 u.1 h.1,
        now_counted g c r rows,
        count_cons live r rows,
        count_cons live (commit_row set c (turned g c rows) r) (turned g c rows),
        by_test (commits set c (turned g c rows) r) refl,
      )
    where
      Counted : Row → Type 0
      Counted x = one (live x) + one (is_at c x.committed) ≡ one (live r)

      dead : (a b : Bool) → one (a && false && b) ≡ 0
      dead true b = refl
      dead false b = refl

      by_test : (b : Bool) → commits set c (turned g c rows) r ≡ b → Counted (commit_row set c (turned g c rows) r)
      by_test true e =
          subst Counted (sym (turn_commits g c (turned g c rows) r e))
          (let k : one (c == c) ≡ 1 = ap one same_number in
          let was : one (live r) ≡ 1 = ap one (was_live (turned g c rows) rows r f.0 u.0 e) in
          let is : one (live (record r { committed = Some c })) ≡ 0 = dead (is_some r.dispatched) (is_none r.squashed) in
          omega (arith, k, was, is))
      by_test false e =
          subst Counted (sym (turn_stays g c (turned g c rows) r e))
          (let k : one (is_at c r.committed) ≡ 0 = ap one h.0 in omega (arith, k))

  module _ (sound : IsSound g) where
    facts : Each (RowFacts set c) (table set c).rows
    facts = facts_table set c

    untouched : Each (λ _. Untouched) (table set c).rows
    untouched = untouched_at set Whole c sound.config.penalty.least

    -- the live rows tell how many commits came
    no_more : (younger older : List Row) → (table set c).rows ≡ younger ++ older → count_by live (younger ++ turned g c older) ≡ count_by live (after_commit set c).rows
        → commits_now g c (table set c).rows ≡ commits_now g c older
    no_more younger older e l =
        let all : count_by live (turned g c (table set c).rows) + commits_now g c (table set c).rows ≡ count_by live (table set c).rows =
        live_counted (table set c).rows facts untouched (uncommitted g c) in
        let part : count_by live (turned g c older) + commits_now g c older ≡ count_by live older =
        live_counted older (back_of (RowFacts set c) younger older (subst (Each (RowFacts set c)) e facts))
        (back_of (λ _. Untouched) younger older (subst (Each (λ _. Untouched)) e untouched))
        (back_of (λ _ o. is_at c o.committed ≡ false) younger older (subst (Uncommitted c) e (uncommitted g c))) in
        omega (arith, all, part, l, count_append live younger (turned g c older), count_append live younger older, ap (count_by live) e)

    pub stages_are_shown : StagesAreShown g c
    stages_are_shown most n younger older parts k stands =
        let one : length parts.unit.rows ≡ length (pick live (younger ++ turned g c older)) = zip_length (Lives g) parts.unit.rows (pick live (younger ++ turned g c older)) k.stands.rows.unit in
        let two : length parts.unit.rows ≡ length (pick live (after_commit set c).rows) = zip_length (Lives g) parts.unit.rows (pick live (after_commit set c).rows) stands.rows.unit in
        let same : count_by live (younger ++ turned g c older) ≡ count_by live (after_commit set c).rows =
        sym (pick_length live (younger ++ turned g c older)) ∙ (sym one ∙ (two ∙ pick_length live (after_commit set c).rows)) in
        commits_are_over g c most n younger older k.rows k.count (no_more younger older k.rows same ∙ k.count)

  pub turns_are_shown : TurnsAreShown g c
  turns_are_shown most n younger left passed older r s old new before it after =
      let next : CommitsNext g c n left passed older r = record { rows = after.rows; before = before.count; commits = it.commits; after = after.count } in
      record { shown = commit_is_shown g c most n left passed older r next; station = commit_is_of g c s r (right (passed ++ older) it.commits) it.is }
    where
      right : (rest : List Row) → commits set c (turned g c rest) r ≡ true → r.fetched.right ≡ true
      right rest e = grind (arith, and_parts)
