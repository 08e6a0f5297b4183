use Rattle.std.proofs.Common.{refl}
use Rattle.ecoff_load.proofs.Copied.{next_in_file, copy_go}
use Rattle.ecoff_load.proofs.reading.copy_parts.Goals as goal

pub push_part-requires : goal.push_part-requires
push_part-requires c =
    next_in_file c.args.big c.args.bytes.now c.args.count c.loop.counter c.loop.at c.loop.parts.items c.read.result c.loop-test.true c.read.ensures c.loop.invariant

pub loop-preserved : goal.loop-preserved
loop-preserved c =
    copy_go c.args.big c.args.bytes.now c.args.count c.loop.counter c.loop.at _ c.loop.parts.items c.push_part.new.parts.items c.read.result c.loop-test.true c.read.ensures refl c.in_ok-push_part.ensures c.loop.invariant
