-- The assembly text of an instruction.
use Rattle.std.specs.Prelude.{◌-◌, ◌^◌, ◌++◌, ℕ, List, [], ◌∷◌, decimal, nat_lt, if◌then◌else◌}
use Rattle.ss_base.specs.Text.{hex8}
use Rattle.pisa_isa.specs.declared.instr.Instr.{Instr}
use Rattle.pisa_isa.specs.Classes.{operands_of}
use Rattle.pisa_isa.specs.Texts.{name_of}
use Rattle.pisa_asm.specs.declared.slots.Slot.{Slot}
use Rattle.pisa_asm.specs.declared.slots.Slot.TheVariants as slot
use Rattle.pisa_isa.specs.Targets.{branch_target, jump_target}
use Rattle.pisa_asm.specs.Operands.{slots_of}

abbrev pub register_text : ℕ → List ℕ
register_text r = 36 ∷ decimal r

-- a number of 16 bits as a signed one
abbrev pub signed_text : ℕ → List ℕ
signed_text imm = if nat_lt imm (2 ^ 15) then decimal imm else 45 ∷ decimal (2 ^ 16 - imm)

-- `0x` and eight digits
abbrev pub target_text : ℕ → List ℕ
target_text target = 48 ∷ 120 ∷ hex8 target

abbrev pub slot_text : ℕ → Instr → Slot → List ℕ
slot_text pc i slot.Rs = register_text i.rs
slot_text pc i slot.Rt = register_text i.rt
slot_text pc i slot.Rd = register_text i.rd
slot_text pc i slot.Shift = decimal i.shamt
slot_text pc i slot.Signed = signed_text i.imm
slot_text pc i slot.Unsigned = decimal i.imm
slot_text pc i slot.Branch = target_text (branch_target pc i.imm)
slot_text pc i slot.Jump = target_text (jump_target pc i.target)
slot_text pc i slot.Address = signed_text i.imm ++ 40 ∷ register_text i.rs ++ 41 ∷ []
slot_text pc i slot.Sum = 40 ∷ register_text i.rs ++ 43 ∷ register_text i.rd ++ 41 ∷ []
slot_text pc i _ = []

-- operands behind a first separator, with commas between them
abbrev pub operand_texts : ℕ → ℕ → Instr → List Slot → List ℕ
operand_texts separator pc i [] = []
operand_texts separator pc i (s ∷ slots) = separator ∷ slot_text pc i s ++ operand_texts 44 pc i slots

-- an instruction at pc: its name, a space, and its operands with commas between them
abbrev pub instruction_text : Instr → ℕ → List ℕ
instruction_text i pc = name_of i.op ++ operand_texts 32 pc i (slots_of (operands_of i.op))
