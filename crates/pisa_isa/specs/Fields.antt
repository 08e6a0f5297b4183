-- Which fields of an instruction an operation uses.
use Rattle.std.specs.Prelude.{ℕ, Bool, true, false}
use Rattle.pisa_isa.specs.declared.instr.Op.{Op}
use Rattle.pisa_isa.specs.declared.table.Operands.{Operands}
use Rattle.pisa_isa.specs.declared.table.Operands.TheVariants as form
use Rattle.pisa_isa.specs.declared.table.Kind.{Kind}
use Rattle.pisa_isa.specs.declared.table.Kind.TheVariants as kind
use Rattle.pisa_isa.specs.declared.fields.Fields.{Fields}
use Rattle.pisa_isa.specs.Table.{row_of}

-- the fields that stand among the operands; offsets and branches are in imm
abbrev pub fields_of : Operands → Fields
fields_of form.Empty = record { rs = false; rt = false; rd = false; shamt = false; imm = false; target = false }
fields_of form.Target = record { rs = false; rt = false; rd = false; shamt = false; imm = false; target = true }
fields_of form.Rs = record { rs = true; rt = false; rd = false; shamt = false; imm = false; target = false }
fields_of form.Rd = record { rs = false; rt = false; rd = true; shamt = false; imm = false; target = false }
fields_of form.RdRs = record { rs = true; rt = false; rd = true; shamt = false; imm = false; target = false }
fields_of form.RsRt = record { rs = true; rt = true; rd = false; shamt = false; imm = false; target = false }
fields_of form.RsBranch = record { rs = true; rt = false; rd = false; shamt = false; imm = true; target = false }
fields_of form.RsRtBranch = record { rs = true; rt = true; rd = false; shamt = false; imm = true; target = false }
fields_of form.Offset = record { rs = true; rt = false; rd = false; shamt = false; imm = true; target = false }
fields_of form.Indexed = record { rs = true; rt = false; rd = true; shamt = false; imm = false; target = false }
fields_of form.RtOffset = record { rs = true; rt = true; rd = false; shamt = false; imm = true; target = false }
fields_of form.RtIndexed = record { rs = true; rt = true; rd = true; shamt = false; imm = false; target = false }
fields_of form.RdRsRt = record { rs = true; rt = true; rd = true; shamt = false; imm = false; target = false }
fields_of form.RdRtRs = record { rs = true; rt = true; rd = true; shamt = false; imm = false; target = false }
fields_of form.RdRtShift = record { rs = false; rt = true; rd = true; shamt = true; imm = false; target = false }
fields_of form.RtRsSigned = record { rs = true; rt = true; rd = false; shamt = false; imm = true; target = false }
fields_of form.RtRsUnsigned = record { rs = true; rt = true; rd = false; shamt = false; imm = true; target = false }
fields_of form.RtUnsigned = record { rs = false; rt = true; rd = false; shamt = false; imm = true; target = false }

-- the fields that an operation uses
abbrev pub uses : Op → Fields
uses o = fields_of (row_of o).operands

-- rt names two registers, its own and the next
abbrev pub takes_pair : Kind → Bool
takes_pair kind.LoadPair = true
takes_pair kind.StorePair = true
takes_pair _ = false

-- the highest register number that rt can have
abbrev pub last_rt : Bool → ℕ
last_rt true = 30
last_rt false = 31

abbrev pub highest_rt : Op → ℕ
highest_rt o = last_rt (takes_pair (row_of o).kind)
