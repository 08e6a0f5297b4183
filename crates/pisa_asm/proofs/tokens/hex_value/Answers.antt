use Rattle.std.proofs.Common.{arith, min}
use Rattle.pisa_asm.specs.Tokens.{hex_on}
use Rattle.pisa_asm.proofs.Numerals.{most, hex_step, hex_end}
use Rattle.pisa_asm.proofs.tokens.hex_value.Goals as goal

pub loop-b-preserved : goal.loop-b-preserved
loop-b-preserved c =
    (hex_step c.args.digits.now c.loop-b.b-index c.loop-b.value c.saturating_add-value.result (min (hex_on 0 c.args.digits.now) most) c.loop-b-test.true (omega arith) c.loop-b.invariant.0, omega arith)

pub returns : goal.returns
returns c =
    hex_end c.args.digits.now c.loop-b.b-index c.loop-b.value (min (hex_on 0 c.args.digits.now) most) (omega arith) c.loop-b.invariant.1 c.loop-b.invariant.0
