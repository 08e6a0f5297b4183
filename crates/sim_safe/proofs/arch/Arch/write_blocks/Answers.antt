use Rattle.sim_safe.specs.Agreement.{agrees_same}
use Rattle.std.proofs.Common.{refl}
use Rattle.sim_safe.proofs.Calls.{block_ends}
use Rattle.sim_safe.proofs.Serving.{writing_goes_on, writing_held, writing_done}
use Rattle.sim_safe.proofs.arch.Arch.write_blocks.Goals as goal

pub loop-block-init : goal.loop-block-init
loop-block-init c = record { reads = refl; agrees = agrees_same c.args.self.now; held = c.requires.held }

pub write-requires-clause-range : goal.write-requires-clause-range
write-requires-clause-range c =
    block_ends c.args.blocks.now c.loop-block.block-index c.block-item.result c.as_slice.result.now c.requires.blocks c.loop-block-test.true c.block-item.is c.as_slice.ensures

pub write-requires-clause-held : goal.write-requires-clause-held
write-requires-clause-held c =
    writing_held c.args.self.now c.loop-block.self c.args.blocks.now c.loop-block.block-index c.block-item.result c.as_slice.result.now c.loop-block-test.true c.block-item.is c.as_slice.ensures c.loop-block.invariant

pub loop-block-preserved : goal.loop-block-preserved
loop-block-preserved c =
    writing_goes_on c.args.self.now c.loop-block.self c.write.new.self c.args.blocks.now c.loop-block.block-index c.block-item.result c.as_slice.result.now c.loop-block-test.true c.block-item.is c.as_slice.ensures c.loop-block.invariant c.write.ensures.reads c.write.ensures.agrees

pub returns-clause-reads : goal.returns-clause-reads
returns-clause-reads c = writing_done c.args.self.now c.loop-block.self c.args.blocks.now c.loop-block.block-index c.loop-block-test.false c.loop-block.invariant
