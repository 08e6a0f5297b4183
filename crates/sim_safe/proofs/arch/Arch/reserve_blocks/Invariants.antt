use Rattle.std.proofs.Common.{drop}
use Rattle.sim_safe.proofs.Serving.{IsReserving}
use Rattle.sim_safe.proofs.arch.Arch.reserve_blocks.Given as goal

abbrev pub invariant-loop-block : goal.invariant-loop-block
invariant-loop-block l = IsReserving l.fn.self l.self l.blocks (drop l.block-index l.blocks)
