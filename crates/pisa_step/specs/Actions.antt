-- The class of each operation, with the operands that it takes.
use Rattle.pisa_isa.specs.declared.instr.Op.{Op}
use Rattle.pisa_isa.specs.declared.instr.Op.TheVariants as op
use Rattle.pisa_step.specs.declared.action.Action.{Action}
use Rattle.pisa_step.specs.declared.action.Action.TheVariants as action
use Rattle.pisa_step.specs.declared.action.Link.TheVariants as link
use Rattle.pisa_step.specs.declared.action.Condition.TheVariants as condition
use Rattle.pisa_step.specs.declared.action.Loaded.TheVariants as loaded
use Rattle.pisa_step.specs.declared.action.Address.TheVariants as address
use Rattle.pisa_step.specs.declared.action.Side.TheVariants as side
use Rattle.pisa_step.specs.declared.action.Stored.TheVariants as stored
use Rattle.pisa_step.specs.declared.action.Exact.TheVariants as exact
use Rattle.pisa_step.specs.declared.action.Form.TheVariants as form
use Rattle.pisa_step.specs.declared.action.Alu.TheVariants as alu
use Rattle.pisa_step.specs.declared.action.Sign.TheVariants as sign
use Rattle.pisa_step.specs.declared.action.Half.TheVariants as half

abbrev pub action_of : Op → Action
action_of op.Nop = action.Nothing
action_of op.J = action.Jump link.Absent
action_of op.Jal = action.Jump link.Kept
action_of op.Jr = action.JumpRegister link.Absent
action_of op.Jalr = action.JumpRegister link.Kept
action_of op.Beq = action.Branch condition.Equal
action_of op.Bne = action.Branch condition.NotEqual
action_of op.Blez = action.Branch condition.AtMostZero
action_of op.Bgtz = action.Branch condition.AboveZero
action_of op.Bltz = action.Branch condition.BelowZero
action_of op.Bgez = action.Branch condition.AtLeastZero
action_of op.Bc1f = action.Float
action_of op.Bc1t = action.Float
action_of op.Lb = action.Load loaded.Byte address.Offset
action_of op.Lbu = action.Load loaded.ByteUnsigned address.Offset
action_of op.Lh = action.Load loaded.Half address.Offset
action_of op.Lhu = action.Load loaded.HalfUnsigned address.Offset
action_of op.Lw = action.Load loaded.Word address.Offset
action_of op.Dlw = action.LoadPair address.Offset
action_of op.LS = action.Float
action_of op.LD = action.Float
action_of op.Lwl = action.LoadPart side.Left
action_of op.Lwr = action.LoadPart side.Right
action_of op.Sb = action.Store stored.Byte address.Offset
action_of op.Sh = action.Store stored.Half address.Offset
action_of op.Sw = action.Store stored.Word address.Offset
action_of op.Dsw = action.Store stored.Pair address.Offset
action_of op.SS = action.Float
action_of op.SD = action.Float
action_of op.Dsz = action.Store stored.Zero address.Offset
action_of op.Swl = action.StorePart side.Left
action_of op.Swr = action.StorePart side.Right
action_of op.Add = action.Exact exact.Add form.Registers
action_of op.Addi = action.Exact exact.Add form.Signed
action_of op.Addu = action.Compute alu.Add form.Registers
action_of op.Addiu = action.Compute alu.Add form.Signed
action_of op.Sub = action.Exact exact.Subtract form.Registers
action_of op.Subu = action.Compute alu.Subtract form.Registers
action_of op.Mult = action.Multiply sign.Signed
action_of op.Multu = action.Multiply sign.Unsigned
action_of op.Div = action.Divide sign.Signed
action_of op.Divu = action.Divide sign.Unsigned
action_of op.Mfhi = action.MoveFrom half.High
action_of op.Mthi = action.MoveTo half.High
action_of op.Mflo = action.MoveFrom half.Low
action_of op.Mtlo = action.MoveTo half.Low
action_of op.And = action.Compute alu.And form.Registers
action_of op.Andi = action.Compute alu.And form.Unsigned
action_of op.Or = action.Compute alu.Or form.Registers
action_of op.Ori = action.Compute alu.Or form.Unsigned
action_of op.Xor = action.Compute alu.Xor form.Registers
action_of op.Xori = action.Compute alu.Xor form.Unsigned
action_of op.Nor = action.Compute alu.Nor form.Registers
action_of op.Sll = action.Compute alu.ShiftLeft form.Shift
action_of op.Sllv = action.Compute alu.ShiftLeft form.ShiftRegister
action_of op.Srl = action.Compute alu.ShiftRight form.Shift
action_of op.Srlv = action.Compute alu.ShiftRight form.ShiftRegister
action_of op.Sra = action.Compute alu.ShiftRightSigned form.Shift
action_of op.Srav = action.Compute alu.ShiftRightSigned form.ShiftRegister
action_of op.Slt = action.Compute alu.Less form.Registers
action_of op.Slti = action.Compute alu.Less form.Signed
action_of op.Sltu = action.Compute alu.LessUnsigned form.Registers
action_of op.Sltiu = action.Compute alu.LessUnsigned form.Signed
action_of op.AddS = action.Float
action_of op.AddD = action.Float
action_of op.SubS = action.Float
action_of op.SubD = action.Float
action_of op.MulS = action.Float
action_of op.MulD = action.Float
action_of op.DivS = action.Float
action_of op.DivD = action.Float
action_of op.AbsS = action.Float
action_of op.AbsD = action.Float
action_of op.FmovS = action.Float
action_of op.FmovD = action.Float
action_of op.FnegS = action.Float
action_of op.FnegD = action.Float
action_of op.CvtSD = action.Float
action_of op.CvtSW = action.Float
action_of op.CvtDS = action.Float
action_of op.CvtDW = action.Float
action_of op.CvtWS = action.Float
action_of op.CvtWD = action.Float
action_of op.CEqS = action.Float
action_of op.CEqD = action.Float
action_of op.CLtS = action.Float
action_of op.CLtD = action.Float
action_of op.CLeS = action.Float
action_of op.CLeD = action.Float
action_of op.FsqrtS = action.Float
action_of op.FsqrtD = action.Float
action_of op.Syscall = action.Nothing
action_of op.Break = action.Break
action_of op.Lui = action.Compute alu.Upper form.Unsigned
action_of op.Mfc1 = action.Float
action_of op.Dmfc1 = action.Float
action_of op.Cfc1 = action.Float
action_of op.Mtc1 = action.Float
action_of op.Dmtc1 = action.Float
action_of op.Ctc1 = action.Float
action_of op.LbRr = action.Load loaded.Byte address.Indexed
action_of op.LbuRr = action.Load loaded.ByteUnsigned address.Indexed
action_of op.LhRr = action.Load loaded.Half address.Indexed
action_of op.LhuRr = action.Load loaded.HalfUnsigned address.Indexed
action_of op.LwRr = action.Load loaded.Word address.Indexed
action_of op.LSRr = action.Float
action_of op.SbRr = action.Store stored.Byte address.Indexed
action_of op.ShRr = action.Store stored.Half address.Indexed
action_of op.SwRr = action.Store stored.Word address.Indexed
action_of op.DlwRr = action.LoadPair address.Indexed
action_of op.LDRr = action.Float
action_of op.DswRr = action.Store stored.Pair address.Indexed
action_of op.DszRr = action.Store stored.Zero address.Indexed
