-- What a cut run comes to.
use Rattle.std.specs.Prelude.{◌≡◌, ℕ, true, false, Result, Ok, Err}
use Rattle.std.specs.Option.{option_copied}
use Rattle.event_trace.specs.declared.trace.Trace.{Trace}
use Rattle.journal.specs.declared.fault.Fault.{Fault}
use Rattle.sim_safe.specs.State.{State}
use Rattle.sim_safe.specs.Run.{after}
use Rattle.sim_watch.specs.Statistics.{statistics_of}
use Rattle.cut_run.specs.declared.cut.Cut.{Cut}
use Rattle.cut_run.specs.declared.cut.CutAnswer.{CutAnswer}
use Rattle.cut_run.specs.declared.cut.CutAnswer.TheVariants as answer
use Rattle.cut_run.specs.declared.cut.Plan.{Plan}
use Rattle.cut_run.specs.Parts.{point_of_part}
use Rattle.cut_run.specs.Plan.{Asked, skipped, timed_items, cut_end, cut_state, is_too_long}

-- what a plan asks
abbrev pub asked_by : Plan → Asked
asked_by p = record { skip = p.skip; most = p.most; commits = option_copied p.commits; point = point_of_part p.point }

-- the whole run was done: how many steps were skipped, what was counted of the others, how it ended, and the state that it leaves
pub record RunCut (trace : Trace) (s : State) (asked : Asked) (t : State) (cut : Cut) : Type 0 where
  pub fits : is_too_long trace s asked ≡ false
  pub skipped : cut.skipped ≡ skipped trace s asked
  pub statistics : cut.statistics ≡ statistics_of (timed_items trace s asked)
  pub end : cut.end ≡ cut_end trace s asked
  pub state : t ≡ cut_state trace s asked

-- after a fault some of the steps were done
abbrev pub CutComes : Trace → State → Asked → State → Result CutAnswer Fault → Type 0
CutComes trace s asked t (Ok (answer.Whole cut)) = RunCut trace s asked t cut
CutComes trace s asked t (Ok answer.TooLong) = is_too_long trace s asked ≡ true
CutComes trace s asked t (Err f) = (done : ℕ) × (t ≡ after trace done s)
