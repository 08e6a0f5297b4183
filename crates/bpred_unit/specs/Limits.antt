-- The configurations that a predictor may have.
use Rattle.std.specs.Prelude.{◌≤◌}
use Rattle.bpred_unit.specs.declared.config.PredConfig.{PredConfig}

-- no table is empty, histories have up to 16 outcomes, sets up to 16 entries, and the stack up to 1,024 cells
pub record IsAllowed (c : PredConfig) : Type 0 where
  pub bimod : 1 ≤ c.bimod
  pub l1 : 1 ≤ c.l1
  pub l2 : 1 ≤ c.l2
  pub width : c.width ≤ 16
  pub meta : 1 ≤ c.meta
  pub btb_sets : 1 ≤ c.btb_sets
  pub least_ways : 1 ≤ c.btb_ways
  pub most_ways : c.btb_ways ≤ 16
  pub ras : c.ras ≤ 1024
