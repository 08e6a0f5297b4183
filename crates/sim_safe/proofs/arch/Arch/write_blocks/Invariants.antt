use Rattle.std.proofs.Common.{drop}
use Rattle.sim_safe.proofs.Serving.{IsWriting}
use Rattle.sim_safe.proofs.arch.Arch.write_blocks.Given as goal

abbrev pub invariant-loop-block : goal.invariant-loop-block
invariant-loop-block l = IsWriting l.fn.self l.self l.blocks (drop l.block-index l.blocks)
