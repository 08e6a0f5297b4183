use Rattle.journal.specs.Laws.{wrote_none}
use Rattle.sim_watch.proofs.Items.{put_next, put_cut}
use Rattle.sim_watch.proofs.watch.emit.Goals as goal

pub loop-block-init : goal.loop-block-init
loop-block-init g c = wrote_none g.O.Outside.view c.args.outside.now

pub loop-block-preserved : goal.loop-block-preserved
loop-block-preserved g c =
    put_next g.O.Outside.view c.args.outside.now c.loop-block.outside c.put_output.new.self c.args.blocks.now c.loop-block.block-index c.block-item.result c.as_slice.result.now c.loop-block-test.true c.block-item.is c.as_slice.ensures c.loop-block.invariant c.in-Ok.ensures

pub returns-in-Err : goal.returns-in-Err
returns-in-Err g c =
    put_cut g.O.Outside.view c.args.outside.now c.loop-block.outside c.put_output.new.self c.args.blocks.now c.loop-block.block-index c.block-item.result c.as_slice.result.now c.in-Err.fault c.loop-block-test.true c.block-item.is c.as_slice.ensures c.loop-block.invariant c.in-Err.ensures
