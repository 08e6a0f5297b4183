-- The records that a run of a predictor stands for.
use Rattle.std.specs.Prelude.{◌≡◌, List}
use Rattle.sim_safe.specs.declared.record.CommitRecord.{CommitRecord}
use Rattle.bpred_unit.specs.declared.config.PredConfig.{PredConfig}
use Rattle.bpred_unit.specs.Stands as unit
use Rattle.sim_refs.specs.declared.pred_run.PredRun.{PredRun}
use Rattle.sim_refs.specs.Predictions.{events_of, counts_of, at_most}

-- The run has this configuration and stands for these records, the newest first: its predictor stands for their events,
-- and its counts are theirs.
pub record StandsFor (v : PredRun) (c : PredConfig) (h : List CommitRecord) : Type 0 where
  pub predictor : unit.StandsFor v.predictor c (events_of h)
  pub counts : v.counts ≡ at_most (counts_of c h)
