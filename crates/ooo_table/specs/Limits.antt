-- The configurations that the machine may have.
use Rattle.mem_hier.specs.Limits.{IsBetween}
use Rattle.ooo_table.specs.declared.config.OooConfig.{OooConfig}

-- how much the stages do in one cycle, and how many rows may wait
pub record HasWidths (c : OooConfig) : Type 0 where
  pub ifq : IsBetween 1 64 c.ifq
  pub decode : IsBetween 1 32 c.decode
  pub issue : IsBetween 1 32 c.issue
  pub commit : IsBetween 1 32 c.commit

pub record HasPools (c : OooConfig) : Type 0 where
  pub alus : IsBetween 1 8 c.alus
  pub mults : IsBetween 1 8 c.mults
  pub ports : IsBetween 1 8 c.ports

pub record IsAllowed (c : OooConfig) : Type 0 where
  pub widths : HasWidths c
  pub pools : HasPools c
  pub ruu : IsBetween 2 256 c.ruu
  pub lsq : IsBetween 2 256 c.lsq
  pub penalty : IsBetween 1 1000 c.penalty
