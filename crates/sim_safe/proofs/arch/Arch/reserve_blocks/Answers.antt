use Rattle.std.proofs.Common.{arith}
use Rattle.sim_safe.proofs.Calls.{block_ends, block_fits}
use Rattle.sim_safe.proofs.Serving.{reserving_goes_on, reserving_done}
use Rattle.sim_safe.proofs.arch.Arch.reserve_blocks.Goals as goal

pub overflow_cast-as_slice : goal.overflow_cast-as_slice
overflow_cast-as_slice c =
    omega (arith, block_fits c.args.blocks.now c.loop-block.block-index c.block-item.result c.as_slice.result.now c.requires c.loop-block-test.true c.block-item.is c.as_slice.ensures)

pub reserve-requires : goal.reserve-requires
reserve-requires c = block_ends c.args.blocks.now c.loop-block.block-index c.block-item.result c.as_slice.result.now c.requires c.loop-block-test.true c.block-item.is c.as_slice.ensures

pub loop-block-preserved : goal.loop-block-preserved
loop-block-preserved c =
    reserving_goes_on c.args.self.now c.loop-block.self c.reserve.new.self c.args.blocks.now c.loop-block.block-index c.block-item.result c.as_slice.result.now c.loop-block-test.true c.block-item.is c.as_slice.ensures c.loop-block.invariant c.in_ok-reserve.ensures.state c.in_ok-reserve.ensures.kept c.in_ok-reserve.ensures.ok

pub returns-clause-ok : goal.returns-clause-ok
returns-clause-ok c = reserving_done c.args.self.now c.loop-block.self c.args.blocks.now c.loop-block.block-index c.loop-block-test.false c.loop-block.invariant
