use Rattle.std.proofs.Common.{◌∙◌}
use Rattle.sim_refs.proofs.Counting.{exactly}
use Rattle.sim_refs.proofs.pred_run.PredRun.counts.Goals as goal

pub returns-clause-exact : goal.returns-clause-exact
returns-clause-exact c = λ config h fits st. st.counts ∙ exactly config h fits
