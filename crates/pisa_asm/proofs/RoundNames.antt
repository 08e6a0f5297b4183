-- Names of statements that are printed and read again.
use Rattle.std.proofs.Common.{◌≡◌, ◌<◌, true, false, length, Some, refl, lit<}
use Rattle.pisa_isa.specs.declared.instr.Op.{Op}
use Rattle.pisa_isa.specs.declared.instr.Op.TheVariants as op
use Rattle.pisa_isa.specs.Classes.{is_float_op}
use Rattle.pisa_isa.specs.Texts.{name_of}
use Rattle.pisa_asm.specs.declared.statements.Command.TheVariants as command
use Rattle.pisa_asm.specs.Statements.{command_named, directive_named, operation_named}
use Rattle.pisa_asm.proofs.RoundTokens.{is_token}

-- the name of an operation is a token, and not empty
pub name_token : (o : Op) → is_token (name_of o) ≡ true
name_token op.Nop = refl
name_token _ = refl

pub name_some : (o : Op) → 0 < length (name_of o)
name_some op.Nop = lit< tt
name_some _ = lit< tt

-- the name of an integer operation is that of its instruction
pub name_found : (o : Op) → is_float_op o ≡ false → command_named (name_of o) ≡ Some (command.Instruction o)
unfolding directive_named operation_named
name_found op.Nop h = refl
name_found op.J h = refl
name_found op.Jal h = refl
name_found op.Jr h = refl
name_found op.Jalr h = refl
name_found op.Beq h = refl
name_found op.Bne h = refl
name_found op.Blez h = refl
name_found op.Bgtz h = refl
name_found op.Bltz h = refl
name_found op.Bgez h = refl
name_found op.Bc1f h = absurd (cc)
name_found op.Bc1t h = absurd (cc)
name_found op.Lb h = refl
name_found op.Lbu h = refl
name_found op.Lh h = refl
name_found op.Lhu h = refl
name_found op.Lw h = refl
name_found op.Dlw h = refl
name_found op.LS h = absurd (cc)
name_found op.LD h = absurd (cc)
name_found op.Lwl h = refl
name_found op.Lwr h = refl
name_found op.Sb h = refl
name_found op.Sh h = refl
name_found op.Sw h = refl
name_found op.Dsw h = refl
name_found op.SS h = absurd (cc)
name_found op.SD h = absurd (cc)
name_found op.Dsz h = refl
name_found op.Swl h = refl
name_found op.Swr h = refl
name_found op.Add h = refl
name_found op.Addi h = refl
name_found op.Addu h = refl
name_found op.Addiu h = refl
name_found op.Sub h = refl
name_found op.Subu h = refl
name_found op.Mult h = refl
name_found op.Multu h = refl
name_found op.Div h = refl
name_found op.Divu h = refl
name_found op.Mfhi h = refl
name_found op.Mthi h = refl
name_found op.Mflo h = refl
name_found op.Mtlo h = refl
name_found op.And h = refl
name_found op.Andi h = refl
name_found op.Or h = refl
name_found op.Ori h = refl
name_found op.Xor h = refl
name_found op.Xori h = refl
name_found op.Nor h = refl
name_found op.Sll h = refl
name_found op.Sllv h = refl
name_found op.Srl h = refl
name_found op.Srlv h = refl
name_found op.Sra h = refl
name_found op.Srav h = refl
name_found op.Slt h = refl
name_found op.Slti h = refl
name_found op.Sltu h = refl
name_found op.Sltiu h = refl
name_found op.AddS h = absurd (cc)
name_found op.AddD h = absurd (cc)
name_found op.SubS h = absurd (cc)
name_found op.SubD h = absurd (cc)
name_found op.MulS h = absurd (cc)
name_found op.MulD h = absurd (cc)
name_found op.DivS h = absurd (cc)
name_found op.DivD h = absurd (cc)
name_found op.AbsS h = absurd (cc)
name_found op.AbsD h = absurd (cc)
name_found op.FmovS h = absurd (cc)
name_found op.FmovD h = absurd (cc)
name_found op.FnegS h = absurd (cc)
name_found op.FnegD h = absurd (cc)
name_found op.CvtSD h = absurd (cc)
name_found op.CvtSW h = absurd (cc)
name_found op.CvtDS h = absurd (cc)
name_found op.CvtDW h = absurd (cc)
name_found op.CvtWS h = absurd (cc)
name_found op.CvtWD h = absurd (cc)
name_found op.CEqS h = absurd (cc)
name_found op.CEqD h = absurd (cc)
name_found op.CLtS h = absurd (cc)
name_found op.CLtD h = absurd (cc)
name_found op.CLeS h = absurd (cc)
name_found op.CLeD h = absurd (cc)
name_found op.FsqrtS h = absurd (cc)
name_found op.FsqrtD h = absurd (cc)
name_found op.Syscall h = refl
name_found op.Break h = refl
name_found op.Lui h = refl
name_found op.Mfc1 h = absurd (cc)
name_found op.Dmfc1 h = absurd (cc)
name_found op.Cfc1 h = absurd (cc)
name_found op.Mtc1 h = absurd (cc)
name_found op.Dmtc1 h = absurd (cc)
name_found op.Ctc1 h = absurd (cc)
name_found op.LbRr h = refl
name_found op.LbuRr h = refl
name_found op.LhRr h = refl
name_found op.LhuRr h = refl
name_found op.LwRr h = refl
name_found op.LSRr h = absurd (cc)
name_found op.SbRr h = refl
name_found op.ShRr h = refl
name_found op.SwRr h = refl
name_found op.DlwRr h = refl
name_found op.LDRr h = absurd (cc)
name_found op.DswRr h = refl
name_found op.DszRr h = refl
