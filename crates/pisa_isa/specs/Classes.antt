-- Functional units, memory access and control of instructions.
use Rattle.std.specs.Prelude.{ℕ, Bool, true, false, nat_eq, if◌then◌else◌}
use Rattle.pisa_isa.specs.declared.instr.Op.{Op}
use Rattle.pisa_isa.specs.declared.instr.Instr.{Instr}
use Rattle.pisa_isa.specs.declared.table.Operands.{Operands}
use Rattle.pisa_isa.specs.declared.table.Kind.{Kind}
use Rattle.pisa_isa.specs.declared.table.Kind.TheVariants as kind
use Rattle.pisa_isa.specs.declared.classes.UnitClass.{UnitClass}
use Rattle.pisa_isa.specs.declared.classes.AccessKind.{AccessKind}
use Rattle.pisa_isa.specs.declared.classes.AccessKind.TheVariants as access
use Rattle.pisa_isa.specs.declared.classes.ControlKind.{ControlKind}
use Rattle.pisa_isa.specs.declared.classes.ControlKind.TheVariants as control
use Rattle.pisa_isa.specs.Table.{row_of}

abbrev pub unit_of : Op → UnitClass
unit_of o = (row_of o).unit

abbrev pub operands_of : Op → Operands
operands_of o = (row_of o).operands

abbrev pub access_by : Kind → AccessKind
access_by kind.Load = access.Load
access_by kind.LoadPair = access.Load
access_by kind.LoadMerge = access.Load
access_by kind.Store = access.Store
access_by kind.StorePair = access.Store
access_by kind.StoreZero = access.Store
access_by _ = access.Nothing

-- how an operation reaches memory
abbrev pub access_of : Op → AccessKind
access_of o = access_by (row_of o).kind

-- a jump to the address in register 31 is a return
abbrev pub jump_to : ℕ → ControlKind
jump_to register = if nat_eq register 31 then control.Return else control.Jump

abbrev pub control_by : Kind → ℕ → ControlKind
control_by kind.Branch register = control.Cond
control_by kind.Call register = control.Call
control_by kind.Jump register = control.Jump
control_by kind.JumpRegister register = jump_to register
control_by _ register = control.Nothing

-- how an instruction directs control
abbrev pub control_of : Instr → ControlKind
control_of i = control_by (row_of i.op).kind i.rs

abbrev pub is_floating : Kind → Bool
is_floating kind.Float = true
is_floating _ = false

-- the operation is one of floating point
abbrev pub is_float_op : Op → Bool
is_float_op o = is_floating (row_of o).kind
