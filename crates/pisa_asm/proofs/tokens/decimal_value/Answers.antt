use Rattle.std.proofs.Common.{arith, min}
use Rattle.pisa_asm.specs.Tokens.{decimal_on}
use Rattle.pisa_asm.proofs.Numerals.{most, decimal_step, decimal_end}
use Rattle.pisa_asm.proofs.tokens.decimal_value.Goals as goal

pub loop-b-preserved : goal.loop-b-preserved
loop-b-preserved c =
    (decimal_step c.args.digits.now c.loop-b.b-index c.loop-b.value c.saturating_add-value.result (min (decimal_on 0 c.args.digits.now) most) c.loop-b-test.true (omega arith) c.loop-b.invariant.0, omega arith)

pub returns : goal.returns
returns c =
    decimal_end c.args.digits.now c.loop-b.b-index c.loop-b.value (min (decimal_on 0 c.args.digits.now) most) (omega arith) c.loop-b.invariant.1 c.loop-b.invariant.0
