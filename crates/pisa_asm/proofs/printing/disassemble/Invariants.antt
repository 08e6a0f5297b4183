use Rattle.std.proofs.Common.{◌≡◌, ◌+◌, ◌*◌, ◌≤◌, ◌<◌, ◌++◌, drop}
use Rattle.arrayvec.specs.ArrayString.{array_string_len}
use Rattle.pisa_isa.specs.Texts.{name_of}
use Rattle.pisa_asm.specs.Printed.{operand_texts}
use Rattle.pisa_asm.proofs.printing.disassemble.Given as goal

abbrev pub invariant-loop-slot : goal.invariant-loop-slot
invariant-loop-slot l = record {
  bytes : l.text.bytes ++ operand_texts l.separator l.pc l.i (drop l.slot-index l.slots) ≡ name_of l.i.op ++ operand_texts 32 l.pc l.i l.slots;
  ascii : l.separator < 128;
  room : array_string_len l.text ≤ 8 + 13 * l.slot-index;
}
