use Rattle.sim_safe.specs.State.{reader_of}
use Rattle.sim_safe.proofs.Calls.{block_ends, blocks_differ, blocks_go_on}
use Rattle.sim_safe.proofs.arch.Arch.block_mismatch.Goals as goal

pub byte_mismatch-requires : goal.byte_mismatch-requires
byte_mismatch-requires c = block_ends c.args.blocks.now c.loop-block.block-index c.block-item.result c.as_slice.result.now c.requires c.loop-block-test.true c.block-item.is c.as_slice.ensures

pub returns-in-Some : goal.returns-in-Some
returns-in-Some c =
    blocks_differ (reader_of c.args.self.now) c.args.blocks.now c.loop-block.block-index c.block-item.result c.as_slice.result.now c.in-Some.cause _ c.loop-block-test.true c.block-item.is c.as_slice.ensures c.loop-block.invariant c.in-Some.ensures

pub loop-block-preserved : goal.loop-block-preserved
loop-block-preserved c =
    blocks_go_on (reader_of c.args.self.now) c.args.blocks.now c.loop-block.block-index c.block-item.result c.as_slice.result.now _ c.loop-block-test.true c.block-item.is c.as_slice.ensures c.loop-block.invariant c.in_default.ensures
