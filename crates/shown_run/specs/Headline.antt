-- What is shown of a run of the out-of-order machine, and the functional run from the same start.
use Rattle.std.specs.Prelude.{◌≡◌, ℕ, ◌+◌, ◌<◌, ◌≤◌, ◌⊎◌, true, List}
use Rattle.std.specs.List.{list_any}
use Rattle.pisa_step.specs.declared.cause.Cause.TheVariants as cause
use Rattle.ooo_table.specs.declared.event.EndWord.{EndWord}
use Rattle.ooo_table.specs.declared.event.EndWord.TheVariants as told
use Rattle.ooo_table.specs.Row.{Row, is_at}
use Rattle.ooo_table.specs.Cycle.{table}
use Rattle.ooo_table.specs.Ends.{AtStop, rows_at}
use Rattle.ooo_table.specs.Events.{cycles_of, all_events, committed_state, end_word}
use Rattle.ooo_table.specs.Finish.{Finish}
use Rattle.ooo_table.specs.Legal.{Legal, PlacesKept}
use Rattle.ooo_table.specs.Later.{Each}
use Rattle.ooo_table.specs.Machine.{Given, setting_of}
use Rattle.ooo_table.specs.MachineLaws.{k_of}
use Rattle.ooo_table.specs.PathLaws.{IsPath}
use Rattle.ooo_table.specs.RunLaws.{commits_among, committed_items, IsRun, IsWhole}
use Rattle.core_watch.specs.Shown.{Shown}
use Rattle.core_watch.specs.Items.{events_among}
use Rattle.shown_run.specs.Run.{all_items, records_among}

module _ (g : Given) (f : Finish) where
  -- the rows at the end of the run, with the marks that have happened
  abbrev pub last_rows : List Row
  last_rows = rows_at (setting_of g) f.extent f.passed

  -- how many cycles it took, the one in which it ended among them
  abbrev pub cycles_taken : ℕ
  cycles_taken = cycles_of f.extent f.passed

  -- how its end is told
  abbrev pub last_word : EndWord
  last_word = end_word g f.extent f.passed

  -- all that is shown of it
  abbrev pub shown_in : List Shown
  shown_in = all_items g f.extent f.passed

  -- In one of the K cycles from a on a row commits, or the machine stops in the last of them.
  abbrev pub CommitsWithinK : ℕ → Type 0
  CommitsWithinK a =
      ((x : ℕ) × (a ≤ x) × (x < a + k_of g) × (list_any (λ r. is_at x r.committed) last_rows ≡ true))
      ⊎ ((f.extent ≡ AtStop) × (a + k_of g ≡ cycles_taken))

  -- Where the machine stopped by itself the functional run is over, with the same code, or with the same cause, program
  -- counter and count. Else a budget is used up.
  abbrev pub EndsAlike : ℕ → ℕ → EndWord → Type 0
  EndsAlike most cycles told.Budget = (commits_among last_rows ≡ most) ⊎ (cycles_taken ≡ cycles)
  EndsAlike most cycles (told.Exited code) = IsWhole g last_rows (cause.Exited code)
  EndsAlike most cycles (told.Stopped pc icnt why) =
      IsWhole g last_rows why × (pc ≡ (committed_state (setting_of g) last_rows).pc) × (icnt ≡ (committed_state (setting_of g) last_rows).icnt)

  -- of a run that may take so many commits and so many cycles
  pub record KeepsHeadline (most cycles : ℕ) : Type 0 where
    -- its records are those of the rows that committed, and these the first steps of the functional run
    pub records : records_among shown_in ≡ committed_items g last_rows
    pub run : IsRun g last_rows
    pub within : (commits_among last_rows ≤ most) × (cycles_taken ≤ cycles)
    -- it ends as the functional run does, or at a budget
    pub ends : EndsAlike most cycles last_word
    -- in every K cycles that it took one commits
    pub timely : (a : ℕ) → a + k_of g ≤ cycles_taken → CommitsWithinK a
    -- its events are those of the table, and legal
    pub events : events_among shown_in ≡ all_events (setting_of g) f.extent f.passed
    pub legal : Legal (setting_of g) f.extent f.passed
    -- behind each of its whole cycles there were places for the waiting rows, the live rows, and the loads and stores among these
    pub places : (x : ℕ) → x ≤ f.passed → PlacesKept (setting_of g) (table (setting_of g) x).rows
    -- its right rows are one path
    pub path : Each (IsPath (setting_of g)) (table (setting_of g) f.passed).rows
