-- The registers of instructions, and the operations that take a pair of them.
use Rattle.std.proofs.Common.{◌≡◌, ◌<◌, refl, arith}
use Rattle.pisa_isa.specs.declared.instr.Op.{Op}
use Rattle.pisa_isa.specs.declared.instr.Op.TheVariants as op
use Rattle.pisa_isa.specs.declared.instr.Instr.{Instr}
use Rattle.pisa_isa.specs.Fields.{highest_rt}
use Rattle.pisa_isa.specs.Coding.{IsWellFormed}
use Rattle.pisa_isa.specs.CodingLaws.{bounds}
use Rattle.pisa_step.specs.Actions.{action_of}
use Rattle.pisa_step.specs.Effect.{AreRegisters, TakesPair}

-- each of them names its registers by an rt of at most 30
pair_highest : (o : Op) → TakesPair (action_of o) → highest_rt o ≡ 30
pair_highest op.Dlw takes = refl
pair_highest op.Dsw takes = refl
pair_highest op.DlwRr takes = refl
pair_highest op.DswRr takes = refl
pair_highest op.Sb takes = cc
pair_highest op.Sh takes = cc
pair_highest op.Sw takes = cc
pair_highest op.Dsz takes = cc
pair_highest op.SbRr takes = cc
pair_highest op.ShRr takes = cc
pair_highest op.SwRr takes = cc
pair_highest op.DszRr takes = cc
pair_highest _ takes = absurd takes

pub pair_below : (i : Instr) → IsWellFormed i → TakesPair (action_of i.op) → i.rt < 31
pair_below i formed takes = omega (arith, (bounds i formed).rt_highest, pair_highest i.op takes)

-- the registers of an instruction are below 32
pub registers_below : (i : Instr) → IsWellFormed i → AreRegisters i
registers_below i formed = let b = bounds i formed in record {
  rs = omega (arith, b.rs);
  rt = omega (arith, b.rt);
  rd = omega (arith, b.rd);
}
