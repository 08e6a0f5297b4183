-- The coding: which two words stand for which instruction, and why others stand for none.
use Rattle.std.specs.Prelude.{◌≡◌, ◌≢◌, ◌+◌, ◌*◌, ◌-◌, ◌/◌, ◌%◌, ◌^◌, ◌≤◌, ◌<◌, ◌&&◌, ℕ, find, Bool, true, false, Option, Some, None, nat_le, nat_eq, if◌then◌else◌, Result, Ok, Err}
use Rattle.pisa_isa.specs.declared.instr.Op.{Op}
use Rattle.pisa_isa.specs.declared.instr.Instr.{Instr}
use Rattle.pisa_isa.specs.declared.instr.Illegal.{Illegal}
use Rattle.pisa_isa.specs.declared.instr.IllegalWhy.{IllegalWhy}
use Rattle.pisa_isa.specs.declared.instr.IllegalWhy.TheVariants as why
use Rattle.pisa_isa.specs.Table.{all_ops, row_of}
use Rattle.pisa_isa.specs.Fields.{uses, highest_rt}

-- the number of an operation: its opcode
abbrev pub number_of : Op → ℕ
number_of o = (row_of o).number

-- the operation with this number
unfoldable pub operation_of : ℕ → Option Op
operation_of number = find (λ o. nat_eq (number_of o) number) all_ops

-- the bits of a word from `low` on, `width` of them
abbrev pub bits : ℕ → ℕ → ℕ → ℕ
bits word low width = word / 2 ^ low % 2 ^ width

-- the opcode is the lower half of the first word; its upper half, the annotation, says nothing
abbrev pub opcode_of : ℕ → ℕ
opcode_of first = bits first 0 16

-- what an instruction has in a field: the bits where the operation uses it, and otherwise 0
abbrev pub field_of : Bool → ℕ → ℕ
field_of true field = field
field_of false field = 0

-- a field that is used is at most this, and one that is not used is 0
abbrev pub AtMost : Bool → ℕ → ℕ → Type 0
AtMost true most field = field ≤ most
AtMost false most field = field ≡ 0

-- the used fields are in range, and the others are 0
pub record IsWellFormed (i : Instr) : Type 0 where
  pub rs : AtMost (uses i.op).rs 31 i.rs
  pub rt : AtMost (uses i.op).rt (highest_rt i.op) i.rt
  pub rd : AtMost (uses i.op).rd 31 i.rd
  pub shamt : AtMost (uses i.op).shamt 31 i.shamt
  pub imm : AtMost (uses i.op).imm (2 ^ 16 - 1) i.imm
  pub target : AtMost (uses i.op).target (2 ^ 26 - 1) i.target

-- these two words stand for this instruction
pub record Codes (first second : ℕ) (i : Instr) : Type 0 where
  pub number : number_of i.op ≡ opcode_of first
  pub rs : i.rs ≡ field_of (uses i.op).rs (bits second 24 8)
  pub rt : i.rt ≡ field_of (uses i.op).rt (bits second 16 8)
  pub rd : i.rd ≡ field_of (uses i.op).rd (bits second 8 8)
  pub shamt : i.shamt ≡ field_of (uses i.op).shamt (bits second 0 8)
  pub imm : i.imm ≡ field_of (uses i.op).imm (bits second 0 16)
  pub target : i.target ≡ field_of (uses i.op).target (bits second 0 26)
  pub well_formed : IsWellFormed i

-- an operation with its fields taken out of a second word, whether in range or not
abbrev pub instr_of : Op → ℕ → Instr
instr_of o second = record {
  op = o;
  rs = field_of (uses o).rs (bits second 24 8);
  rt = field_of (uses o).rt (bits second 16 8);
  rd = field_of (uses o).rd (bits second 8 8);
  shamt = field_of (uses o).shamt (bits second 0 8);
  imm = field_of (uses o).imm (bits second 0 16);
  target = field_of (uses o).target (bits second 0 26);
}

-- the registers of an instruction are there
pub record HasRegisters (i : Instr) : Type 0 where
  pub rs : i.rs ≤ 31
  pub rt : i.rt ≤ highest_rt i.op
  pub rd : i.rd ≤ 31

-- the first reason for which two words code no instruction: no operation has the opcode; the one
-- that has it would use a register that is not there; it would shift by more than 31
abbrev pub Reason : ℕ → ℕ → IllegalWhy → Type 0
Reason first second why.Opcode = (o : Op) → number_of o ≢ opcode_of first
Reason first second why.Register =
    (o : Op) × (number_of o ≡ opcode_of first) × (HasRegisters (instr_of o second) → ⊥)
Reason first second why.Shift =
    (o : Op) × (number_of o ≡ opcode_of first)
    × HasRegisters (instr_of o second) × (31 < (instr_of o second).shamt)

-- what a look at the ranges of an instruction finds first
abbrev pub Finds : Instr → Result (Unit {0}) IllegalWhy → Type 0
Finds i (Ok _) = HasRegisters i × (i.shamt ≤ 31)
Finds i (Err why.Opcode) = ⊥
Finds i (Err why.Register) = HasRegisters i → ⊥
Finds i (Err why.Shift) = HasRegisters i × (31 < i.shamt)

-- a refusal tells the opcode and the reason
pub record Refuses (first second : ℕ) (e : Illegal) : Type 0 where
  pub opcode : e.opcode ≡ opcode_of first
  pub why : Reason first second e.why

-- the registers, the shift amount and the target of an instruction are below their limits
pub record IsInRange (i : Instr) : Type 0 where
  pub rs : i.rs < 32
  pub rt : i.rt < 32
  pub rd : i.rd < 32
  pub shamt : i.shamt < 32
  pub target : i.target < 2 ^ 26

-- what decoding answers
abbrev pub Decodes : ℕ → ℕ → Result Instr Illegal → Type 0
Decodes first second (Ok i) = Codes first second i
Decodes first second (Err e) = Refuses first second e

-- the instruction, where its registers are there and its shift is below 32
abbrev pub checked : Instr → Option Instr
checked i =
    if nat_le i.rs 31 && nat_le i.rt (highest_rt i.op) && nat_le i.rd 31 && nat_le i.shamt 31
    then Some i else None

abbrev pub decoded_as : Option Op → ℕ → Option Instr
decoded_as None second = None
decoded_as (Some o) second = checked (instr_of o second)

-- the instruction that two words stand for, None where there is none
abbrev pub decoded : ℕ → ℕ → Option Instr
decoded first second = decoded_as (operation_of (opcode_of first)) second

-- the second word of an instruction: each field at its place, of which those that lie over one
-- another are never used together
abbrev pub second_word : Instr → ℕ
second_word i = i.rs * 2 ^ 24 + i.rt * 2 ^ 16 + i.rd * 2 ^ 8 + i.shamt + i.imm + i.target
