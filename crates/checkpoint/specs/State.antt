-- What a point holds.
use Rattle.paged_mem.specs.Memory.{Pages}
use Rattle.checkpoint.specs.declared.point.Head.{Head}

-- the state of a machine, and the pages of its memory that have a byte other than 0
pub record PointState : Type 0 where
  pub head : Head
  pub pages : Pages
