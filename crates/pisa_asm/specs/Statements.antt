-- One line of a source: its label and its statement.
use Rattle.std.specs.Prelude.{ℕ, List, [], ◌∷◌, Bool, true, false, length, filter, find, take, drop, not, position, codes, slice_index, bytes_eq, nat_eq, if◌then◌else◌, Option, Some, None, Result, Ok, Err}
use Rattle.std.specs.List.{list_all}
use Rattle.pisa_isa.specs.declared.instr.Op.{Op}
use Rattle.pisa_isa.specs.declared.instr.Op.TheVariants as op
use Rattle.pisa_isa.specs.declared.instr.Instr.{Instr}
use Rattle.pisa_isa.specs.Classes.{is_float_op, operands_of}
use Rattle.pisa_isa.specs.Table.{all_ops}
use Rattle.pisa_isa.specs.Texts.{name_of}
use Rattle.ss_base.specs.declared.text_fault.TextWhy.{TextWhy}
use Rattle.ss_base.specs.declared.text_fault.TextWhy.TheVariants as why
use Rattle.pisa_asm.specs.declared.slots.Slot.{Slot}
use Rattle.pisa_asm.specs.declared.slots.Slot.TheVariants as slot
use Rattle.pisa_asm.specs.declared.statements.Section.TheVariants as section
use Rattle.pisa_asm.specs.declared.statements.Command.{Command}
use Rattle.pisa_asm.specs.declared.statements.Command.TheVariants as command
use Rattle.text_lines.specs.Lines.{is_blank, trim_start, parted}
use Rattle.pisa_asm.specs.Letters.{operands_in}
use Rattle.pisa_asm.specs.Tokens.{is_label}
use Rattle.pisa_asm.specs.Operands.{Said, say, slots_of, then_}

-- the operations that a source can name: all but those of floating point
abbrev pub integer_ops : List Op
integer_ops = filter (λ o. not (is_float_op o)) all_ops

unfoldable pub operation_named : List ℕ → Option Op
operation_named name = find (λ o. bytes_eq (name_of o) name) integer_ops

-- the statements that are no instructions
unfoldable pub directive_named : List ℕ → Option Command
directive_named name =
    if bytes_eq name (codes ".text") then Some (command.Open section.Text) else (
    if bytes_eq name (codes ".data") then Some (command.Open section.Data) else (
    if bytes_eq name (codes ".rdata") then Some (command.Open section.Rdata) else (
    if bytes_eq name (codes ".sdata") then Some (command.Open section.Sdata) else (
    if bytes_eq name (codes ".bss") then Some (command.Open section.Bss) else (
    if bytes_eq name (codes ".sbss") then Some (command.Open section.Sbss) else (
    if bytes_eq name (codes ".entry") then Some command.Entry else (
    if bytes_eq name (codes ".word") then Some command.Word else (
    if bytes_eq name (codes ".half") then Some command.Half else (
    if bytes_eq name (codes ".byte") then Some command.Byte else (
    if bytes_eq name (codes ".ascii") then Some command.Ascii else (
    if bytes_eq name (codes ".space") then Some command.Space else None)))))))))))

abbrev pub instruction : Option Op → Option Command
instruction None = None
instruction (Some o) = Some (command.Instruction o)

abbrev pub directive_or : Option Command → List ℕ → Option Command
directive_or (Some c) name = Some c
directive_or None name = instruction (operation_named name)

-- what a name stands for; None where there is no such statement
abbrev pub command_named : List ℕ → Option Command
command_named name = if nat_eq (length name) 0 then Some command.Nothing else directive_or (directive_named name) name

-- the places of the operands of a statement
abbrev pub places : Command → List Slot
places command.Nothing = []
places (command.Open s) = slot.Start ∷ []
places command.Entry = slot.Name ∷ []
places command.Word = slot.Word ∷ []
places command.Half = slot.Half ∷ []
places command.Byte = slot.Byte ∷ []
places command.Ascii = []
places command.Space = slot.Count ∷ []
places (command.Instruction o) = slots_of (operands_of o)

-- an instruction of which no field is given yet
abbrev pub bare : Op → Instr
bare o = record { op = o; rs = 0; rt = 0; rd = 0; shamt = 0; imm = 0; target = 0 }

abbrev pub operation_of_command : Command → Op
operation_of_command (command.Instruction o) = o
operation_of_command _ = op.Nop

-- what is said before any operand
abbrev pub nothing_said : Command → Said
nothing_said c = record { instr = bare (operation_of_command c); number = 0; label = None }

-- the byte that an escape stands for
abbrev pub escape : ℕ → Option ℕ
escape b =
    if nat_eq b 110 then Some 10 else (
    if nat_eq b 116 then Some 9 else (
    if nat_eq b 48 then Some 0 else (
    if nat_eq b 92 then Some 92 else (
    if nat_eq b 34 then Some 34 else None))))

abbrev pub onto : ℕ → Result (List ℕ) TextWhy → Result (List ℕ) TextWhy
onto b (Ok bs) = Ok (b ∷ bs)
onto b (Err w) = Err w

abbrev pub escaped_onto : Option ℕ → Result (List ℕ) TextWhy → Result (List ℕ) TextWhy
escaped_onto None bytes = Err why.Form
escaped_onto (Some b) bytes = onto b bytes

-- the bytes of a string, from behind its quote, or behind a backslash, up to the quote that ends
-- it, behind which only blanks may stand
abbrev pub string_from : Bool → List ℕ → Result (List ℕ) TextWhy
string_from behind [] = Err why.Form
string_from true (b ∷ bs) = escaped_onto (escape b) (string_from false bs)
string_from false (b ∷ bs) =
    if nat_eq b 34 then (if list_all is_blank bs then Ok [] else Err why.Extra) else (
    if nat_eq b 92 then string_from true bs else onto b (string_from false bs))

-- a string in quotes
abbrev pub string_in : List ℕ → Result (List ℕ) TextWhy
string_in text =
    if nat_eq (length text) 0 then Err why.Missing else (
    if nat_eq (slice_index text 0) 44 then Err why.Missing else (
    if nat_eq (slice_index text 0) 34 then string_from false (drop 1 text) else Err why.Form))

-- a statement: what it does, what its operands say, and the bytes of its string
pub record Stated : Type 0 where
  pub command : Command
  pub said : Said
  pub string : List ℕ

abbrev pub stated : Command → List ℕ → Said → Stated
stated c bytes words = record { command = c; said = words; string = bytes }

-- a statement from what it does and the text of its operands
abbrev pub statement_by : Option ℕ → Command → List ℕ → Result Stated TextWhy
statement_by pc command.Ascii text = then_ (string_in (trim_start text)) (λ bytes. stated command.Ascii bytes (nothing_said command.Ascii))
statement_by pc c text = then_ (say pc (places c) (operands_in text) (nothing_said c)) (stated c [])

abbrev pub known : Option ℕ → Option Command → List ℕ → Result Stated TextWhy
known pc None text = Err why.Mnemonic
known pc (Some c) text = statement_by pc c text

-- a name and what stands behind it
abbrev pub worded : Option ℕ → List ℕ → List ℕ × List ℕ
worded None text = (text, [])
worded (Some place) text = (take place text, drop place text)

abbrev pub words_of : List ℕ → List ℕ × List ℕ
words_of text = worded (position is_blank text) text

-- a line: its label, the name of its statement, and the text of its operands
pub record Words : Type 0 where
  pub label : Option (List ℕ)
  pub name : List ℕ
  pub operands : List ℕ

abbrev pub words_with : Option (List ℕ) → List ℕ × List ℕ → Words
words_with l words = record { label = l; name = words.0; operands = words.1 }

-- a label stands before the first colon, where what stands there is one
abbrev pub labelled_line : Option (List ℕ × List ℕ) → List ℕ → Words
labelled_line None text = words_with None (words_of text)
labelled_line (Some parts) text =
    if is_label parts.0 then words_with (Some parts.0) (words_of (trim_start parts.1)) else words_with None (words_of text)

-- the words of a line without its comment
abbrev pub words_in : List ℕ → Words
words_in code = labelled_line (parted 58 (trim_start code)) (trim_start code)
