-- What a station's record tells of a commit: the record that is shown, and whether the program exits by it.
use Rattle.std.specs.Prelude.{◌≡◌, ℕ, Option, Some, None, is_some}
use Rattle.sim_safe.specs.declared.record.CallNote.{CallNote}
use Rattle.sim_safe.specs.declared.record.CommitRecord.{CommitRecord}
use Rattle.sim_safe.specs.Call.{exit_of}
use Rattle.sim_safe.specs.Record.{item_of}
use Rattle.ruu_core.specs.declared.station.Station.{Station}
use Rattle.ooo_table.specs.Row.{Row}
use Rattle.ooo_table.specs.Path.{execution, is_exit}
use Rattle.ooo_table.specs.Machine.{Given, setting_of}
use Rattle.core_watch.specs.Shown.{commit_of}
use Rattle.core_watch.specs.StageItemsLaws.{shown_commit}

-- the exit code that a call leaves, if the program exits by it
abbrev pub exit_noted : Option CallNote → Option ℕ
exit_noted None = None
exit_noted (Some note) = exit_of note.kind note.code

abbrev pub exit_by : Option CommitRecord → Option ℕ
exit_by None = None
exit_by (Some did) = exit_noted did.call

-- the commit of the row r, by its station
pub record CommitIsOf (g : Given) (c : ℕ) (s : Station) (r : Row) : Type 0 where
  pub code : (execution (setting_of g) r).after.ended ≡ exit_by s.commit
  pub exit : is_exit (setting_of g) r ≡ is_some (exit_by s.commit)
  pub shown : (did : CommitRecord) (n : ℕ) → s.commit ≡ Some did → shown_commit g c n r ≡ commit_of c n (item_of g.trace did)
