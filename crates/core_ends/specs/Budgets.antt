-- A run of the machine with a budget of commits, and the functional run with the same budget of steps.
use Rattle.std.specs.Prelude.{◌≡◌, ℕ, List}
use Rattle.pisa_step.specs.declared.cause.Cause.TheVariants as cause
use Rattle.sim_safe.specs.declared.observer.RunEnd.{RunEnd}
use Rattle.sim_safe.specs.declared.observer.RunEnd.TheVariants as ends
use Rattle.sim_safe.specs.Run.{items_of, after, end_of}
use Rattle.ooo_table.specs.declared.event.EndWord.{EndWord}
use Rattle.ooo_table.specs.declared.event.EndWord.TheVariants as told
use Rattle.ooo_table.specs.Row.{Row}
use Rattle.ooo_table.specs.Events.{committed_state}
use Rattle.ooo_table.specs.Machine.{Given, setting_of}
use Rattle.ooo_table.specs.RunLaws.{committed_items}

-- the end of the functional run that is told so of the machine's
abbrev pub run_end : EndWord → RunEnd
run_end told.Budget = ends.Limit
run_end (told.Exited code) = ends.Stop (cause.Exited code)
run_end (told.Stopped pc icnt why) = ends.Stop why

-- The functional run with this budget has the records and the state of these commits, and ends so.
pub record IsRunWith (g : Given) (budget : ℕ) (rows : List Row) (ending : RunEnd) : Type 0 where
  pub items : items_of g.trace budget g.start ≡ committed_items g rows
  pub state : after g.trace budget g.start ≡ committed_state (setting_of g) rows
  pub ends : end_of g.trace budget g.start ≡ ending
