-- What is shown of a cycle is what its stages show, one after another.
use Rattle.std.specs.Prelude.{◌≡◌, ℕ, suc, ◌+◌, ◌==◌, ◌||◌, Bool, true, false, List, [], ◌∷◌, ◌++◌, length, map, Some, None, count_by}
use Rattle.sim_safe.specs.Step.{step_of}
use Rattle.ooo_table.specs.declared.event.Mark.TheVariants as mark
use Rattle.ooo_table.specs.Row.{Row, is_at, sweep}
use Rattle.ooo_table.specs.Path.{is_exit}
use Rattle.ooo_table.specs.Commit.{commits, commit_row}
use Rattle.ooo_table.specs.Cycle.{table}
use Rattle.ooo_table.specs.Ends.{AtCommit, AtStop, Whole, last_commit, or_stop, stops_in, end_in}
use Rattle.ooo_table.specs.Machine.{Given, setting_of}
use Rattle.ooo_table.specs.RunLaws.{recorded_by, commits_among}
use Rattle.core_watch.specs.Shown.{Shown, Happened, Committed}
use Rattle.core_watch.specs.Items.{items_in}
use Rattle.core_watch.specs.StageItems.{commit_items, staged_items, fetched_events}

module _ (g : Given) (c : ℕ) where
  -- a whole cycle shows all its stages, and one that ends in its dispatch stage all but fetches
  pub record ShownByStage : Type 0 where
    pub whole : items_in g Whole (suc c) c ≡ staged_items g c (fetched_events g c (table (setting_of g) (suc c)).rows)
    pub stop : items_in g AtStop c c ≡ staged_items g c []

  -- ---- turns of the commit stage

  -- the rows up to this one after their turns
  abbrev pub turned : List Row → List Row
  turned rows = sweep (commit_row (setting_of g) c) rows

  -- how many of them committed in the cycle
  abbrev pub commits_now : List Row → ℕ
  commits_now rows = count_by (λ o. is_at c o.committed) (turned rows)

  -- the commit of the row r, behind so many rows, and what it did
  abbrev pub shown_commit : ℕ → Row → List Shown
  shown_commit n r = Happened (record { cycle = c; row = n; mark = mark.Committed }) ∷ map Committed (recorded_by g (step_of g.trace r.fetched.state))

  -- The row r commits next: n commits came before in the cycle, and none of the rows that it passed commits.
  pub record CommitsNext (n : ℕ) (left passed older : List Row) (r : Row) : Type 0 where
    pub rows : (table (setting_of g) c).rows ≡ left ++ (r ∷ (passed ++ older))
    pub before : commits_now older ≡ n
    pub commits : commits (setting_of g) c (turned (passed ++ older)) r ≡ true
    pub after : commits_now (r ∷ (passed ++ older)) ≡ suc n

  -- it ends the run: it is an exit, or the last commit of the budget
  abbrev pub ends_run : ℕ → ℕ → Row → Bool
  ends_run most n r = is_exit (setting_of g) r || ((commits_among (table (setting_of g) c).rows + suc n) == most)

  -- Its commit is shown behind those before it. Where none of those ended the run, this one does or does not.
  pub record CommitIsShown (most n : ℕ) (passed older : List Row) (r : Row) : Type 0 where
    pub items : commit_items g c (turned (r ∷ (passed ++ older))) ≡ commit_items g c (turned older) ++ shown_commit (length (passed ++ older)) r
    pub goes_on : last_commit (setting_of g) most c (turned older) ≡ None → ends_run most n r ≡ false → last_commit (setting_of g) most c (turned (r ∷ (passed ++ older))) ≡ None
    pub last : last_commit (setting_of g) most c (turned older) ≡ None → ends_run most n r ≡ true
        → last_commit (setting_of g) most c (turned (table (setting_of g) c).rows) ≡ Some (length (passed ++ older))
    pub ends : last_commit (setting_of g) most c (turned older) ≡ None → ends_run most n r ≡ true → end_in (setting_of g) most c ≡ Some (AtCommit (length (passed ++ older)))
    pub whole : last_commit (setting_of g) most c (turned older) ≡ None → ends_run most n r ≡ true
        → items_in g (AtCommit (length (passed ++ older))) c c ≡ commit_items g c (turned (r ∷ (passed ++ older)))

  -- No younger row commits: the stage shows what its turns did so far, and ends the run where they did. Else only a stop may
  -- end it in this cycle.
  pub record CommitsAreOver (most n : ℕ) (older : List Row) : Type 0 where
    pub items : commit_items g c (turned (table (setting_of g) c).rows) ≡ commit_items g c (turned older)
    pub last : last_commit (setting_of g) most c (turned (table (setting_of g) c).rows) ≡ last_commit (setting_of g) most c (turned older)
    pub count : commits_among (turned (table (setting_of g) c).rows) ≡ commits_among (table (setting_of g) c).rows + n
    pub goes_on : last_commit (setting_of g) most c (turned older) ≡ None → end_in (setting_of g) most c ≡ or_stop (stops_in (setting_of g) c (table (setting_of g) c)) None
