use Rattle.std.proofs.Common.{arith, min}
use Rattle.pipetrace.specs.Reading.{decimal_on}
use Rattle.pipetrace.proofs.Digits.{most, decimal_next, decimal_end}
use Rattle.pipetrace.proofs.fields.decimal_value.Goals as goal

pub loop-b-preserved : goal.loop-b-preserved
loop-b-preserved c =
    (decimal_next c.args.digits.now c.loop-b.b-index c.loop-b.value c.saturating_add-value.result (min (decimal_on 0 c.args.digits.now) most) c.loop-b-test.true (omega arith) c.loop-b.invariant.0, omega arith)

pub returns : goal.returns
returns c =
    decimal_end c.args.digits.now c.loop-b.b-index c.loop-b.value (min (decimal_on 0 c.args.digits.now) most) (omega arith) c.loop-b.invariant.1 c.loop-b.invariant.0
