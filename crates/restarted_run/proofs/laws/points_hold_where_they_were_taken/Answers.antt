use Rattle.cut_run.specs.Point.{point_of}
use Rattle.restarted_run.proofs.Points.{state_is_held}
use Rattle.restarted_run.proofs.laws.points_hold_where_they_were_taken.Goals as goal

pub returns : goal.returns
returns c = λ s h program icnt small. state_is_held s h program icnt small (c.points_hold_their_state.ensures s h.others) (c.checks_are_exact.ensures (point_of s) s.text).1
