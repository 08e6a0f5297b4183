use Rattle.sim_safe.proofs.Calls.{block_ends}
use Rattle.sim_safe.proofs.arch.Arch.block_in_text.Goals as goal

pub meets_text-requires : goal.meets_text-requires
meets_text-requires c = block_ends c.args.blocks.now c.loop-block.block-index c.block-item.result c.as_slice.result.now c.requires c.loop-block-test.true c.block-item.is c.as_slice.ensures
