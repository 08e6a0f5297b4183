use Rattle.std.proofs.Common.{◌≡◌, drop}
use Rattle.sim_safe.specs.State.{range_of}
use Rattle.sim_safe.specs.Call.{block_in_text}
use Rattle.sim_safe.proofs.arch.Arch.block_in_text.Given as goal

abbrev pub invariant-loop-block : goal.invariant-loop-block
invariant-loop-block l = block_in_text (range_of l.self.text) (drop l.block-index l.blocks) ≡ block_in_text (range_of l.self.text) l.blocks
