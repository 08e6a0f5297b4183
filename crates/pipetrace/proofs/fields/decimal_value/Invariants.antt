use Rattle.std.proofs.Common.{◌≡◌, ◌≤◌, drop, min}
use Rattle.pipetrace.specs.Reading.{decimal_on}
use Rattle.pipetrace.proofs.Digits.{most}
use Rattle.pipetrace.proofs.fields.decimal_value.Given as goal

abbrev pub invariant-loop-b : goal.invariant-loop-b
invariant-loop-b l = (min (decimal_on l.value (drop l.b-index l.digits)) most ≡ min (decimal_on 0 l.digits) most) × (l.value ≤ most)
