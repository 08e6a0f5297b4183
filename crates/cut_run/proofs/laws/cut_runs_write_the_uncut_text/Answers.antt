use Rattle.cut_run.proofs.Outputs.{cut_outputs, cut_text}
use Rattle.cut_run.proofs.laws.cut_runs_write_the_uncut_text.Goals as goal

pub returns-clause-output : goal.returns-clause-output
returns-clause-output c = cut_outputs c.runs_go_on.ensures c.skips_put_out_their_output.ensures

pub returns-clause-text : goal.returns-clause-text
returns-clause-text c = cut_text c.runs_go_on.ensures
