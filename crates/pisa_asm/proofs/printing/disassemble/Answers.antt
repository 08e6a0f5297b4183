use Rattle.std.proofs.Common.{◌++◌, ap, arith, length, length-append, ℕ, lit<}
use Rattle.pisa_isa.specs.Texts.{name_of}
use Rattle.pisa_asm.specs.Printed.{operand_texts}
use Rattle.pisa_asm.proofs.OperandTexts.{texts_step}
use Rattle.pisa_asm.proofs.printing.disassemble.Goals as goal

pub loop-slot-preserved : goal.loop-slot-preserved
loop-slot-preserved c =
    let one = c.push.ensures.ascii c.loop-slot.invariant.ascii in
    let total = name_of c.args.i.now.op ++ operand_texts 32 c.args.pc c.args.i.now c.slots_of-slots.result.now in
    record {
      bytes = texts_step c.loop-slot.text.bytes c.push.new.self.bytes c.push_slot.new.text.bytes c.loop-slot.separator c.args.pc c.args.i.now c.slots_of-slots.result.now c.loop-slot.slot-index _ total c.loop-slot-test.true one c.push_slot.ensures.bytes c.loop-slot.invariant.bytes;
      ascii = lit< tt;
      room = omega (arith, length-append {A = ℕ}, ap length one, c.push_slot.ensures.grows, c.loop-slot.invariant.room);
    }
