use Rattle.std.proofs.Common.{◌∙◌, length-set, arith}
use Rattle.checkpoint.proofs.Words.{word_more, words_all}
use Rattle.checkpoint.proofs.head_reading.registers.Goals as goal

pub loop-k-preserved : goal.loop-k-preserved
loop-k-preserved c =
    let i = c.loop-k.invariant in
    record {
      so_far = word_more c.args.bytes.now c.loop-k.regs c.loop-k.k c.get32.result (omega (arith, i.count, c.loop-k-test.true)) i.so_far c.get32.ensures;
      count = length-set c.loop-k.regs c.loop-k.k c.get32.result ∙ i.count;
    }

pub returns : goal.returns
returns c =
    let i = c.loop-k.invariant in
    words_all c.args.bytes.now c.loop-k.regs c.loop-k.k i.count (omega (arith, c.loop-k.auto.k-end, c.loop-k-test.false)) i.so_far
