-- What the steps of the code answer.
use Rattle.std.specs.Prelude.{ℕ, List, Option, Some, None}
use Rattle.pisa_isa.specs.declared.classes.ControlKind.{ControlKind}
use Rattle.pisa_isa.specs.declared.classes.ControlKind.TheVariants as control
use Rattle.bpred_tables.specs.Stack.{Call, popped}

-- what a look-up pops: nothing unless it is of a return and there is a stack
abbrev pub popped_by : Option ℕ → ControlKind → List Call → Option ℕ
popped_by None kind calls = None
popped_by (Some n) control.Return calls = Some (popped n calls)
popped_by (Some n) _ calls = None
