use Rattle.std.proofs.Common.{◌≡◌}
use Rattle.bpred_unit.specs.Stands.{cells_of}
use Rattle.bpred_unit.proofs.tests.plays.Given as goal

abbrev pub invariant-loop-step : goal.invariant-loop-step
invariant-loop-step l = cells_of l.predictor ≡ cells_of l.fn.predictor
