-- The printed names of operations.
use Rattle.std.specs.Prelude.{ℕ, List}
use Rattle.pisa_isa.specs.declared.instr.Op.{Op}
use Rattle.pisa_isa.specs.Table.{row_of}

-- the printed name, as the codes of its characters
abbrev pub name_of : Op → List ℕ
name_of o = (row_of o).name
