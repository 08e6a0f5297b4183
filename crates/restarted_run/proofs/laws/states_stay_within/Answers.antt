use Rattle.restarted_run.proofs.Steps.{runs_within}
use Rattle.restarted_run.proofs.Starts.{start_within, program_stays, program_loaded}
use Rattle.restarted_run.proofs.laws.states_stay_within.Goals as goal

pub returns-clause-after : goal.returns-clause-after
returns-clause-after c = runs_within c.effects_write_where_they_can.ensures

pub returns-clause-start : goal.returns-clause-start
returns-clause-start c = start_within

pub returns-clause-program : goal.returns-clause-program
returns-clause-program c = λ trace n s h. program_stays c.steps_keep.ensures trace n s (c.text_stays.ensures.same trace n s) (c.text_stays.ensures.after trace n s h.content) h

pub returns-clause-loaded : goal.returns-clause-loaded
returns-clause-loaded c = λ image args is. program_loaded image args is (c.text_stays.ensures.start image args is)
