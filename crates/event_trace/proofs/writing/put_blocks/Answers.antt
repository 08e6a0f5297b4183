use Rattle.std.proofs.Common.{length, ap, arith}
use Rattle.event_trace.specs.Grammar.{IsBlock, next_block}
use Rattle.event_trace.proofs.Written.{in_turn_at}
use Rattle.event_trace.proofs.writing.put_blocks.Goals as goal

pub overflow_cast-bytes : goal.overflow_cast-bytes
overflow_cast-bytes c =
    let block = in_turn_at IsBlock next_block 0 c.args.blocks.now c.loop-block.block-index c.block-item.result c.requires c.loop-block-test.true c.block-item.is in
    omega (arith, ap length c.as_slice-bytes.ensures, block.1.most)
