-- What commands answer, and the outcomes of refusals.
use Rattle.std.specs.Prelude.{ℕ, [], ◌∷◌}
use Rattle.pisa_step.specs.declared.cause.Cause.{Cause}
use Rattle.pisa_step.specs.declared.cause.Cause.TheVariants as cause
use Rattle.sim_safe.specs.declared.observer.RunEnd.{RunEnd}
use Rattle.sim_safe.specs.declared.observer.RunEnd.TheVariants as ends
use Rattle.journal.specs.Write.{Journal, Report}
use Rattle.journal.specs.Outcome.{Outcome}
use Rattle.answers.specs.declared.answer.Answer.{Answer}
use Rattle.answers.specs.declared.answer.Answer.TheVariants as answer
use Rattle.answers.specs.Report.{fault_line}

-- an answer behind these writes
abbrev pub answered : Answer → Journal → Outcome Answer
answered a writes = record { ending = a; writes = writes }

-- a refusal writes its line to the second stream, and nothing else
abbrev pub refused : Answer → Outcome Answer
refused a = answered a (Report (fault_line a) ∷ [])

-- a stop of a run; an exit is one too
abbrev pub stop_answer : Cause → ℕ → ℕ → Answer
stop_answer (cause.Exited code) pc icnt = answer.Exited code
stop_answer why pc icnt = answer.Stopped why pc icnt

-- the end of a run, at an address after some instructions
abbrev pub run_answer : RunEnd → ℕ → ℕ → Answer
run_answer ends.Limit pc icnt = answer.Budget
run_answer (ends.Stop why) pc icnt = stop_answer why pc icnt
