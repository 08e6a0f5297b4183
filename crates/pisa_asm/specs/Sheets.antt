-- Sections as statements fill them, and labels.
use Rattle.std.specs.Prelude.{◌+◌, ◌-◌, ◌%◌, ◌^◌, ◌||◌, ◌++◌, ℕ, Bool, true, false, List, [], ◌∷◌, length, min, not, is_some, bytes_eq, nat_eq, if◌then◌else◌, Option, Some, None, replicate, option_to_list}
use Rattle.std.specs.Int.{w16, w32, to_le_bytes}
use Rattle.std.specs.List.{list_any}
use Rattle.pisa_isa.specs.Coding.{number_of, second_word}
use Rattle.pisa_asm.specs.declared.statements.Section.{Section}
use Rattle.pisa_asm.specs.declared.statements.Section.TheVariants as section
use Rattle.pisa_asm.specs.declared.statements.Command.{Command}
use Rattle.pisa_asm.specs.declared.statements.Command.TheVariants as command
use Rattle.pisa_asm.specs.declared.sheet.Piece.{Piece}
use Rattle.pisa_asm.specs.declared.sheet.Sheet.{Sheet}
use Rattle.pisa_asm.specs.Operands.{Said}
use Rattle.pisa_asm.specs.Statements.{Stated}

-- sections are told apart by a number for each
abbrev pub section_number : Section → ℕ
section_number section.Text = 0
section_number section.Data = 1
section_number section.Rdata = 2
section_number section.Sdata = 3
section_number section.Bss = 4
section_number section.Sbss = 5

abbrev pub is_section : Section → Section → Bool
is_section s t = nat_eq (section_number s) (section_number t)

-- what a section may hold
abbrev pub takes_instructions : Section → Bool
takes_instructions section.Text = true
takes_instructions _ = false

abbrev pub takes_bytes : Section → Bool
takes_bytes section.Data = true
takes_bytes section.Rdata = true
takes_bytes section.Sdata = true
takes_bytes _ = false

-- a statement may stand in this section: text holds instructions alone, bss and sbss hold space
-- alone, and the others all data
abbrev pub takes : Command → Section → Bool
takes (command.Instruction o) s = takes_instructions s
takes command.Space s = not (takes_instructions s)
takes command.Word s = takes_bytes s
takes command.Half s = takes_bytes s
takes command.Byte s = takes_bytes s
takes command.Ascii s = takes_bytes s
takes _ s = true

-- a statement that opens a section, one that names the entry, and none at all may stand anywhere,
-- others only in a section
abbrev pub may_stand : Command → Option Piece → Bool
may_stand command.Nothing open_piece = true
may_stand (command.Open s) open_piece = true
may_stand command.Entry open_piece = true
may_stand c None = false
may_stand c (Some piece) = takes c piece.section

-- the address behind the bytes of a section; addresses are modulo 2^32
abbrev pub end_of : Piece → ℕ
end_of piece = (piece.start + piece.size) % 2 ^ 32

abbrev pub end_of_open : Option Piece → ℕ
end_of_open None = 0
end_of_open (Some piece) = end_of piece

-- the address of the next instruction, where text is open
abbrev pub text_end : Option Piece → Option ℕ
text_end None = None
text_end (Some piece) = if takes_instructions piece.section then Some (end_of piece) else None

-- the sections so far, in the order in which they were opened
abbrev pub pieces_of : Sheet → List Piece
pieces_of sheet = sheet.closed ++ option_to_list sheet.current

abbrev pub is_current : Section → Option Piece → Bool
is_current s None = false
is_current s (Some piece) = is_section piece.section s

-- a section was opened
abbrev pub has_section : Section → Sheet → Bool
has_section s sheet = list_any (λ piece. is_section piece.section s) sheet.closed || is_current s sheet.current

-- how many bytes a statement brings
abbrev pub size_of : Stated → Command → ℕ
size_of st (command.Instruction o) = 8
size_of st command.Word = 4
size_of st command.Half = 2
size_of st command.Byte = 1
size_of st command.Ascii = length st.string
size_of st command.Space = st.said.number
size_of st _ = 0

-- the bytes that a statement brings, where its label was replaced by what it stands for; each
-- number is below the limit of its bytes
abbrev pub bytes_of : Said → List ℕ → Command → List ℕ
bytes_of said string (command.Instruction o) = to_le_bytes w32 (number_of said.instr.op) ++ to_le_bytes w32 (second_word said.instr % 2 ^ 32)
bytes_of said string command.Word = to_le_bytes w32 said.number
bytes_of said string command.Half = to_le_bytes w16 (said.number % 2 ^ 16)
bytes_of said string command.Byte = said.number % 2 ^ 8 ∷ []
bytes_of said string command.Ascii = string
bytes_of said string command.Space = replicate said.number 0
bytes_of said string _ = []

-- bss and sbss keep no bytes
abbrev pub brings : Section → Bool
brings section.Bss = false
brings section.Sbss = false
brings _ = true

abbrev pub kept : Section → List ℕ → List ℕ
kept s bytes = if brings s then bytes else []

-- a section with so many bytes more, of which these are kept; a size stands still at 2^64 - 1
abbrev pub grown : ℕ → List ℕ → Option Piece → Option Piece
grown size bytes None = None
grown size bytes (Some piece) = Some (record piece { size = min (piece.size + size) (2 ^ 64 - 1); bytes = piece.bytes ++ kept piece.section bytes })

-- the sheet after a statement that brings these bytes
abbrev pub moved : Sheet → Stated → List ℕ → Command → Sheet
moved sheet st bytes (command.Open s) = record { closed = pieces_of sheet; current = Some (record { section = s; start = st.said.number; size = 0; bytes = [] }) }
moved sheet st bytes c = record sheet { current = grown (size_of st c) bytes sheet.current }

-- labels with their addresses, the newest first
abbrev pub address_of : List (List ℕ × ℕ) → List ℕ → Option ℕ
address_of [] name = None
address_of (l ∷ ls) name = if bytes_eq l.0 name then Some l.1 else address_of ls name

abbrev pub is_known : List (List ℕ × ℕ) → Option (List ℕ) → Bool
is_known labels None = false
is_known labels (Some name) = is_some (address_of labels name)

-- the labels with one more, where there is one
abbrev pub with_label : List (List ℕ × ℕ) → Option (List ℕ) → ℕ → List (List ℕ × ℕ)
with_label labels None address = labels
with_label labels (Some name) address = (name, address) ∷ labels
