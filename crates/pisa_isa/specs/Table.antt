-- The table of instructions: for each operation its printed name, its opcode, its operands, the
-- functional unit that it takes, and what it does with its operands.
use Rattle.std.specs.Prelude.{ℕ, List, [], ◌∷◌, codes}
use Rattle.pisa_isa.specs.declared.instr.Op.{Op}
use Rattle.pisa_isa.specs.declared.instr.Op.TheVariants as op
use Rattle.pisa_isa.specs.declared.table.Operands.{Operands}
use Rattle.pisa_isa.specs.declared.table.Operands.TheVariants as form
use Rattle.pisa_isa.specs.declared.table.Kind.{Kind}
use Rattle.pisa_isa.specs.declared.table.Kind.TheVariants as kind
use Rattle.pisa_isa.specs.declared.classes.UnitClass.{UnitClass}
use Rattle.pisa_isa.specs.declared.classes.UnitClass.TheVariants as unit

pub record Row : Type 0 where
  pub name : List ℕ
  pub number : ℕ
  pub operands : Operands
  pub unit : UnitClass
  pub kind : Kind

abbrev pub line : List ℕ → ℕ → Operands → UnitClass → Kind → Row
line text opcode shape class action =
    record { name = text; number = opcode; operands = shape; unit = class; kind = action }

abbrev pub row_of : Op → Row
row_of op.Nop = line (codes "NOP") 0x00 form.Empty unit.Free kind.Plain
row_of op.J = line (codes "J") 0x01 form.Target unit.Free kind.Jump
row_of op.Jal = line (codes "JAL") 0x02 form.Target unit.Free kind.Call
row_of op.Jr = line (codes "JR") 0x03 form.Rs unit.Alu kind.JumpRegister
row_of op.Jalr = line (codes "JALR") 0x04 form.RdRs unit.Alu kind.Call
row_of op.Beq = line (codes "BEQ") 0x05 form.RsRtBranch unit.Alu kind.Branch
row_of op.Bne = line (codes "BNE") 0x06 form.RsRtBranch unit.Alu kind.Branch
row_of op.Blez = line (codes "BLEZ") 0x07 form.RsBranch unit.Alu kind.Branch
row_of op.Bgtz = line (codes "BGTZ") 0x08 form.RsBranch unit.Alu kind.Branch
row_of op.Bltz = line (codes "BLTZ") 0x09 form.RsBranch unit.Alu kind.Branch
row_of op.Bgez = line (codes "BGEZ") 0x0a form.RsBranch unit.Alu kind.Branch
row_of op.Bc1f = line (codes "BC1F") 0x0b form.Empty unit.Free kind.Float
row_of op.Bc1t = line (codes "BC1T") 0x0c form.Empty unit.Free kind.Float
row_of op.Lb = line (codes "LB") 0x20 form.RtOffset unit.Alu kind.Load
row_of op.Lbu = line (codes "LBU") 0x22 form.RtOffset unit.Alu kind.Load
row_of op.Lh = line (codes "LH") 0x24 form.RtOffset unit.Alu kind.Load
row_of op.Lhu = line (codes "LHU") 0x26 form.RtOffset unit.Alu kind.Load
row_of op.Lw = line (codes "LW") 0x28 form.RtOffset unit.Alu kind.Load
row_of op.Dlw = line (codes "DLW") 0x29 form.RtOffset unit.Alu kind.LoadPair
row_of op.LS = line (codes "L_S") 0x2a form.Empty unit.Free kind.Float
row_of op.LD = line (codes "L_D") 0x2b form.Empty unit.Free kind.Float
row_of op.Lwl = line (codes "LWL") 0x2c form.RtOffset unit.Alu kind.LoadMerge
row_of op.Lwr = line (codes "LWR") 0x2d form.RtOffset unit.Alu kind.LoadMerge
row_of op.Sb = line (codes "SB") 0x30 form.RtOffset unit.Alu kind.Store
row_of op.Sh = line (codes "SH") 0x32 form.RtOffset unit.Alu kind.Store
row_of op.Sw = line (codes "SW") 0x34 form.RtOffset unit.Alu kind.Store
row_of op.Dsw = line (codes "DSW") 0x35 form.RtOffset unit.Alu kind.StorePair
row_of op.SS = line (codes "S_S") 0x36 form.Empty unit.Free kind.Float
row_of op.SD = line (codes "S_D") 0x37 form.Empty unit.Free kind.Float
row_of op.Dsz = line (codes "DSZ") 0x38 form.Offset unit.Alu kind.StoreZero
row_of op.Swl = line (codes "SWL") 0x39 form.RtOffset unit.Alu kind.Store
row_of op.Swr = line (codes "SWR") 0x3a form.RtOffset unit.Alu kind.Store
row_of op.Add = line (codes "ADD") 0x40 form.RdRsRt unit.Alu kind.Compute
row_of op.Addi = line (codes "ADDI") 0x41 form.RtRsSigned unit.Alu kind.Compute
row_of op.Addu = line (codes "ADDU") 0x42 form.RdRsRt unit.Alu kind.Compute
row_of op.Addiu = line (codes "ADDIU") 0x43 form.RtRsSigned unit.Alu kind.Compute
row_of op.Sub = line (codes "SUB") 0x44 form.RdRsRt unit.Alu kind.Compute
row_of op.Subu = line (codes "SUBU") 0x45 form.RdRsRt unit.Alu kind.Compute
row_of op.Mult = line (codes "MULT") 0x46 form.RsRt unit.Multiply kind.ToHiLo
row_of op.Multu = line (codes "MULTU") 0x47 form.RsRt unit.Multiply kind.ToHiLo
row_of op.Div = line (codes "DIV") 0x48 form.RsRt unit.Divide kind.ToHiLo
row_of op.Divu = line (codes "DIVU") 0x49 form.RsRt unit.Divide kind.ToHiLo
row_of op.Mfhi = line (codes "MFHI") 0x4a form.Rd unit.Alu kind.FromHi
row_of op.Mthi = line (codes "MTHI") 0x4b form.Rs unit.Alu kind.ToHi
row_of op.Mflo = line (codes "MFLO") 0x4c form.Rd unit.Alu kind.FromLo
row_of op.Mtlo = line (codes "MTLO") 0x4d form.Rs unit.Alu kind.ToLo
row_of op.And = line (codes "AND") 0x4e form.RdRsRt unit.Alu kind.Compute
row_of op.Andi = line (codes "ANDI") 0x4f form.RtRsUnsigned unit.Alu kind.Compute
row_of op.Or = line (codes "OR") 0x50 form.RdRsRt unit.Alu kind.Compute
row_of op.Ori = line (codes "ORI") 0x51 form.RtRsUnsigned unit.Alu kind.Compute
row_of op.Xor = line (codes "XOR") 0x52 form.RdRsRt unit.Alu kind.Compute
row_of op.Xori = line (codes "XORI") 0x53 form.RtRsUnsigned unit.Alu kind.Compute
row_of op.Nor = line (codes "NOR") 0x54 form.RdRsRt unit.Alu kind.Compute
row_of op.Sll = line (codes "SLL") 0x55 form.RdRtShift unit.Alu kind.Compute
row_of op.Sllv = line (codes "SLLV") 0x56 form.RdRtRs unit.Alu kind.Compute
row_of op.Srl = line (codes "SRL") 0x57 form.RdRtShift unit.Alu kind.Compute
row_of op.Srlv = line (codes "SRLV") 0x58 form.RdRtRs unit.Alu kind.Compute
row_of op.Sra = line (codes "SRA") 0x59 form.RdRtShift unit.Alu kind.Compute
row_of op.Srav = line (codes "SRAV") 0x5a form.RdRtRs unit.Alu kind.Compute
row_of op.Slt = line (codes "SLT") 0x5b form.RdRsRt unit.Alu kind.Compute
row_of op.Slti = line (codes "SLTI") 0x5c form.RtRsSigned unit.Alu kind.Compute
row_of op.Sltu = line (codes "SLTU") 0x5d form.RdRsRt unit.Alu kind.Compute
row_of op.Sltiu = line (codes "SLTIU") 0x5e form.RtRsSigned unit.Alu kind.Compute
row_of op.AddS = line (codes "ADD_S") 0x70 form.Empty unit.Free kind.Float
row_of op.AddD = line (codes "ADD_D") 0x71 form.Empty unit.Free kind.Float
row_of op.SubS = line (codes "SUB_S") 0x72 form.Empty unit.Free kind.Float
row_of op.SubD = line (codes "SUB_D") 0x73 form.Empty unit.Free kind.Float
row_of op.MulS = line (codes "MUL_S") 0x74 form.Empty unit.Free kind.Float
row_of op.MulD = line (codes "MUL_D") 0x75 form.Empty unit.Free kind.Float
row_of op.DivS = line (codes "DIV_S") 0x76 form.Empty unit.Free kind.Float
row_of op.DivD = line (codes "DIV_D") 0x77 form.Empty unit.Free kind.Float
row_of op.AbsS = line (codes "ABS_S") 0x78 form.Empty unit.Free kind.Float
row_of op.AbsD = line (codes "ABS_D") 0x79 form.Empty unit.Free kind.Float
row_of op.FmovS = line (codes "FMOV_S") 0x7a form.Empty unit.Free kind.Float
row_of op.FmovD = line (codes "FMOV_D") 0x7b form.Empty unit.Free kind.Float
row_of op.FnegS = line (codes "FNEG_S") 0x7c form.Empty unit.Free kind.Float
row_of op.FnegD = line (codes "FNEG_D") 0x7d form.Empty unit.Free kind.Float
row_of op.CvtSD = line (codes "CVT_S_D") 0x80 form.Empty unit.Free kind.Float
row_of op.CvtSW = line (codes "CVT_S_W") 0x81 form.Empty unit.Free kind.Float
row_of op.CvtDS = line (codes "CVT_D_S") 0x82 form.Empty unit.Free kind.Float
row_of op.CvtDW = line (codes "CVT_D_W") 0x83 form.Empty unit.Free kind.Float
row_of op.CvtWS = line (codes "CVT_W_S") 0x84 form.Empty unit.Free kind.Float
row_of op.CvtWD = line (codes "CVT_W_D") 0x85 form.Empty unit.Free kind.Float
row_of op.CEqS = line (codes "C_EQ_S") 0x90 form.Empty unit.Free kind.Float
row_of op.CEqD = line (codes "C_EQ_D") 0x91 form.Empty unit.Free kind.Float
row_of op.CLtS = line (codes "C_LT_S") 0x92 form.Empty unit.Free kind.Float
row_of op.CLtD = line (codes "C_LT_D") 0x93 form.Empty unit.Free kind.Float
row_of op.CLeS = line (codes "C_LE_S") 0x94 form.Empty unit.Free kind.Float
row_of op.CLeD = line (codes "C_LE_D") 0x95 form.Empty unit.Free kind.Float
row_of op.FsqrtS = line (codes "FSQRT_S") 0x96 form.Empty unit.Free kind.Float
row_of op.FsqrtD = line (codes "FSQRT_D") 0x97 form.Empty unit.Free kind.Float
row_of op.Syscall = line (codes "SYSCALL") 0xa0 form.Empty unit.Free kind.Plain
row_of op.Break = line (codes "BREAK") 0xa1 form.Empty unit.Free kind.Plain
row_of op.Lui = line (codes "LUI") 0xa2 form.RtUnsigned unit.Alu kind.Compute
row_of op.Mfc1 = line (codes "MFC1") 0xa3 form.Empty unit.Free kind.Float
row_of op.Dmfc1 = line (codes "DMFC1") 0xa4 form.Empty unit.Free kind.Float
row_of op.Cfc1 = line (codes "CFC1") 0xa5 form.Empty unit.Free kind.Float
row_of op.Mtc1 = line (codes "MTC1") 0xa6 form.Empty unit.Free kind.Float
row_of op.Dmtc1 = line (codes "DMTC1") 0xa7 form.Empty unit.Free kind.Float
row_of op.Ctc1 = line (codes "CTC1") 0xa8 form.Empty unit.Free kind.Float
row_of op.LbRr = line (codes "LB_RR") 0xc0 form.RtIndexed unit.Alu kind.Load
row_of op.LbuRr = line (codes "LBU_RR") 0xc1 form.RtIndexed unit.Alu kind.Load
row_of op.LhRr = line (codes "LH_RR") 0xc2 form.RtIndexed unit.Alu kind.Load
row_of op.LhuRr = line (codes "LHU_RR") 0xc3 form.RtIndexed unit.Alu kind.Load
row_of op.LwRr = line (codes "LW_RR") 0xc4 form.RtIndexed unit.Alu kind.Load
row_of op.LSRr = line (codes "L_S_RR") 0xc5 form.Empty unit.Free kind.Float
row_of op.SbRr = line (codes "SB_RR") 0xc6 form.RtIndexed unit.Alu kind.Store
row_of op.ShRr = line (codes "SH_RR") 0xc7 form.RtIndexed unit.Alu kind.Store
row_of op.SwRr = line (codes "SW_RR") 0xc8 form.RtIndexed unit.Alu kind.Store
row_of op.DlwRr = line (codes "DLW_RR") 0xce form.RtIndexed unit.Alu kind.LoadPair
row_of op.LDRr = line (codes "L_D_RR") 0xcf form.Empty unit.Free kind.Float
row_of op.DswRr = line (codes "DSW_RR") 0xd0 form.RtIndexed unit.Alu kind.StorePair
row_of op.DszRr = line (codes "DSZ_RR") 0xd1 form.Indexed unit.Alu kind.StoreZero

-- each operation, once
abbrev pub all_ops : List Op
all_ops =
    op.Nop ∷ op.J ∷ op.Jal ∷ op.Jr ∷ op.Jalr ∷ op.Beq ∷ op.Bne ∷ op.Blez ∷ op.Bgtz ∷ op.Bltz ∷
    op.Bgez ∷ op.Bc1f ∷ op.Bc1t ∷ op.Lb ∷ op.Lbu ∷ op.Lh ∷ op.Lhu ∷ op.Lw ∷ op.Dlw ∷ op.LS ∷ op.LD ∷
    op.Lwl ∷ op.Lwr ∷ op.Sb ∷ op.Sh ∷ op.Sw ∷ op.Dsw ∷ op.SS ∷ op.SD ∷ op.Dsz ∷ op.Swl ∷ op.Swr ∷
    op.Add ∷ op.Addi ∷ op.Addu ∷ op.Addiu ∷ op.Sub ∷ op.Subu ∷ op.Mult ∷ op.Multu ∷ op.Div ∷
    op.Divu ∷ op.Mfhi ∷ op.Mthi ∷ op.Mflo ∷ op.Mtlo ∷ op.And ∷ op.Andi ∷ op.Or ∷ op.Ori ∷ op.Xor ∷
    op.Xori ∷ op.Nor ∷ op.Sll ∷ op.Sllv ∷ op.Srl ∷ op.Srlv ∷ op.Sra ∷ op.Srav ∷ op.Slt ∷ op.Slti ∷
    op.Sltu ∷ op.Sltiu ∷ op.AddS ∷ op.AddD ∷ op.SubS ∷ op.SubD ∷ op.MulS ∷ op.MulD ∷ op.DivS ∷
    op.DivD ∷ op.AbsS ∷ op.AbsD ∷ op.FmovS ∷ op.FmovD ∷ op.FnegS ∷ op.FnegD ∷ op.CvtSD ∷ op.CvtSW ∷
    op.CvtDS ∷ op.CvtDW ∷ op.CvtWS ∷ op.CvtWD ∷ op.CEqS ∷ op.CEqD ∷ op.CLtS ∷ op.CLtD ∷ op.CLeS ∷
    op.CLeD ∷ op.FsqrtS ∷ op.FsqrtD ∷ op.Syscall ∷ op.Break ∷ op.Lui ∷ op.Mfc1 ∷ op.Dmfc1 ∷
    op.Cfc1 ∷ op.Mtc1 ∷ op.Dmtc1 ∷ op.Ctc1 ∷ op.LbRr ∷ op.LbuRr ∷ op.LhRr ∷ op.LhuRr ∷ op.LwRr ∷
    op.LSRr ∷ op.SbRr ∷ op.ShRr ∷ op.SwRr ∷ op.DlwRr ∷ op.LDRr ∷ op.DswRr ∷ op.DszRr ∷ []
