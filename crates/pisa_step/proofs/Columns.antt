-- The operands and the kind of an operation in the table follow from its action.
use Rattle.std.proofs.Common.{◌≡◌, refl}
use Rattle.pisa_isa.specs.declared.instr.Op.{Op}
use Rattle.pisa_isa.specs.declared.instr.Op.TheVariants as op
use Rattle.pisa_isa.specs.declared.table.Operands.{Operands}
use Rattle.pisa_isa.specs.declared.table.Operands.TheVariants as shape
use Rattle.pisa_isa.specs.declared.table.Kind.{Kind}
use Rattle.pisa_isa.specs.declared.table.Kind.TheVariants as kind
use Rattle.pisa_isa.specs.Table.{row_of}
use Rattle.pisa_step.specs.declared.action.Action.{Action}
use Rattle.pisa_step.specs.declared.action.Action.TheVariants as action
use Rattle.pisa_step.specs.declared.action.Link.{Link}
use Rattle.pisa_step.specs.declared.action.Link.TheVariants as link
use Rattle.pisa_step.specs.declared.action.Condition.{Condition}
use Rattle.pisa_step.specs.declared.action.Condition.TheVariants as condition
use Rattle.pisa_step.specs.declared.action.Alu.{Alu}
use Rattle.pisa_step.specs.declared.action.Alu.TheVariants as alu
use Rattle.pisa_step.specs.declared.action.Form.{Form}
use Rattle.pisa_step.specs.declared.action.Form.TheVariants as form
use Rattle.pisa_step.specs.declared.action.Half.{Half}
use Rattle.pisa_step.specs.declared.action.Half.TheVariants as half
use Rattle.pisa_step.specs.declared.action.Address.{Address}
use Rattle.pisa_step.specs.declared.action.Address.TheVariants as address
use Rattle.pisa_step.specs.declared.action.Stored.{Stored}
use Rattle.pisa_step.specs.declared.action.Stored.TheVariants as stored
use Rattle.pisa_step.specs.Actions.{action_of}

abbrev pub register_shape : Link → Operands
register_shape link.Absent = shape.Rs
register_shape link.Kept = shape.RdRs

abbrev pub branch_shape : Condition → Operands
branch_shape condition.Equal = shape.RsRtBranch
branch_shape condition.NotEqual = shape.RsRtBranch
branch_shape _ = shape.RsBranch

abbrev pub unsigned_shape : Alu → Operands
unsigned_shape alu.Upper = shape.RtUnsigned
unsigned_shape _ = shape.RtRsUnsigned

abbrev pub form_shape : Alu → Form → Operands
form_shape f form.Registers = shape.RdRsRt
form_shape f form.Signed = shape.RtRsSigned
form_shape f form.Unsigned = unsigned_shape f
form_shape f form.Shift = shape.RdRtShift
form_shape f form.ShiftRegister = shape.RdRtRs

abbrev pub address_shape : Address → Operands
address_shape address.Offset = shape.RtOffset
address_shape address.Indexed = shape.RtIndexed

abbrev pub zero_shape : Address → Operands
zero_shape address.Offset = shape.Offset
zero_shape address.Indexed = shape.Indexed

abbrev pub store_shape : Stored → Address → Operands
store_shape stored.Zero a = zero_shape a
store_shape _ a = address_shape a

abbrev pub shape_of : Action → Operands
shape_of action.Nothing = shape.Empty
shape_of action.Float = shape.Empty
shape_of action.Break = shape.Empty
shape_of (action.Jump keeps) = shape.Target
shape_of (action.JumpRegister keeps) = register_shape keeps
shape_of (action.Branch test) = branch_shape test
shape_of (action.Compute f form) = form_shape f form
shape_of (action.Exact f form) = form_shape alu.Add form
shape_of (action.Multiply sign) = shape.RsRt
shape_of (action.Divide sign) = shape.RsRt
shape_of (action.MoveFrom part) = shape.Rd
shape_of (action.MoveTo part) = shape.Rs
shape_of (action.Load size a) = address_shape a
shape_of (action.LoadPair a) = address_shape a
shape_of (action.LoadPart side) = shape.RtOffset
shape_of (action.Store size a) = store_shape size a
shape_of (action.StorePart side) = shape.RtOffset

abbrev pub jump_kind : Link → Kind
jump_kind link.Absent = kind.Jump
jump_kind link.Kept = kind.Call

abbrev pub register_kind : Link → Kind
register_kind link.Absent = kind.JumpRegister
register_kind link.Kept = kind.Call

abbrev pub from_kind : Half → Kind
from_kind half.High = kind.FromHi
from_kind half.Low = kind.FromLo

abbrev pub to_kind : Half → Kind
to_kind half.High = kind.ToHi
to_kind half.Low = kind.ToLo

abbrev pub store_kind : Stored → Kind
store_kind stored.Zero = kind.StoreZero
store_kind stored.Pair = kind.StorePair
store_kind _ = kind.Store

abbrev pub kind_for : Action → Kind
kind_for action.Nothing = kind.Plain
kind_for action.Float = kind.Float
kind_for action.Break = kind.Plain
kind_for (action.Jump keeps) = jump_kind keeps
kind_for (action.JumpRegister keeps) = register_kind keeps
kind_for (action.Branch test) = kind.Branch
kind_for (action.Compute f form) = kind.Compute
kind_for (action.Exact f form) = kind.Compute
kind_for (action.Multiply sign) = kind.ToHiLo
kind_for (action.Divide sign) = kind.ToHiLo
kind_for (action.MoveFrom part) = from_kind part
kind_for (action.MoveTo part) = to_kind part
kind_for (action.Load size a) = kind.Load
kind_for (action.LoadPair a) = kind.LoadPair
kind_for (action.LoadPart side) = kind.LoadMerge
kind_for (action.Store size a) = store_kind size
kind_for (action.StorePart side) = kind.Store

pub shape_is : (o : Op) → (row_of o).operands ≡ shape_of (action_of o)
shape_is op.Nop = refl
shape_is _ = refl

pub kind_is : (o : Op) → (row_of o).kind ≡ kind_for (action_of o)
kind_is op.Nop = refl
kind_is _ = refl
