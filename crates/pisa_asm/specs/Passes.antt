-- The passes over a source, and the image that it means.
use Rattle.std.specs.Prelude.{◌≡◌, ◌+◌, ◌-◌, ◌^◌, ◌≤◌, ◌&&◌, ◌||◌, ℕ, Bool, true, false, List, [], ◌∷◌, is_some, min, nat_le, if◌then◌else◌, Option, Some, None, Result, Ok, Err, unwrap_or}
use Rattle.std.specs.List.{list_all}
use Rattle.ecoff_load.specs.declared.image.Kind.{Kind}
use Rattle.ecoff_load.specs.declared.image.Kind.TheVariants as kind
use Rattle.ecoff_load.specs.declared.image.Part.{Part}
use Rattle.ecoff_load.specs.declared.image.Text.{Text}
use Rattle.ecoff_load.specs.declared.image.Image.{Image}
use Rattle.ecoff_load.specs.Object.{IsImage}
use Rattle.ecoff_load.specs.Layout.{object_length}
use Rattle.pisa_isa.specs.declared.table.Operands.{Operands}
use Rattle.pisa_isa.specs.declared.table.Operands.TheVariants as form
use Rattle.pisa_isa.specs.Classes.{operands_of}
use Rattle.ss_base.specs.declared.text_fault.TextWhy.{TextWhy}
use Rattle.ss_base.specs.declared.text_fault.TextWhy.TheVariants as why
use Rattle.ss_base.specs.declared.text_fault.AsmFault.{AsmFault}
use Rattle.ss_base.specs.declared.text_fault.AsmFault.TheVariants as faults
use Rattle.pisa_asm.specs.declared.statements.Section.{Section}
use Rattle.pisa_asm.specs.declared.statements.Section.TheVariants as section
use Rattle.pisa_asm.specs.declared.statements.Command.{Command}
use Rattle.pisa_asm.specs.declared.statements.Command.TheVariants as command
use Rattle.pisa_asm.specs.declared.sheet.Piece.{Piece}
use Rattle.pisa_asm.specs.declared.sheet.Sheet.{Sheet}
use Rattle.text_lines.specs.Lines.{is_allowed, lines_of}
use Rattle.pisa_asm.specs.Letters.{code_of}
use Rattle.pisa_asm.specs.Operands.{Said, branch_field, jump_field, reached, with_imm, with_number, with_target}
use Rattle.pisa_asm.specs.Statements.{Stated, Words, command_named, known, words_in}
use Rattle.pisa_asm.specs.Sheets.{address_of, brings, bytes_of, end_of_open, has_section, is_known, may_stand, moved, pieces_of, text_end, with_label}

infixl 10 ◌>>=◌
abbrev pub ◌>>=◌ : {A B : Type 0} → Result A TextWhy → (A → Result B TextWhy) → Result B TextWhy
(Ok x) >>= f = f x
(Err w) >>= f = Err w

-- ---- one line

-- the words of a line
abbrev pub words_on : List ℕ → Words
words_on line = words_in (code_of line)

-- the statement of a line, which stands at pc where text is open
abbrev pub statement_on : Option ℕ → Words → Result Stated TextWhy
statement_on pc words = known pc (command_named words.name) words.operands

-- a section is opened, or the entry named, a second time
abbrev pub is_second : Option Command → Sheet → Bool → Bool
is_second (Some (command.Open s)) sheet has_entry = has_section s sheet
is_second (Some command.Entry) sheet has_entry = has_entry
is_second _ sheet has_entry = false

-- a label stands in a section, or on the line that opens one
abbrev pub label_may_stand : Option (List ℕ) → Command → Option Piece → Bool
label_may_stand None c current = true
label_may_stand (Some name) (command.Open s) current = true
label_may_stand (Some name) c current = is_some current

-- the address at which a line's bytes begin
abbrev pub begins_at : Stated → Command → Sheet → ℕ
begins_at st (command.Open s) sheet = st.said.number
begins_at st c sheet = end_of_open sheet.current

abbrev pub in_place : Option (List ℕ) → Sheet → Stated → Result Stated TextWhy
in_place label sheet st =
    if may_stand st.command sheet.current && label_may_stand label st.command sheet.current then Ok st else Err why.Section

-- the statement of a line, or the first reason in the order of reasons; whether its label is
-- known already, and whether the entry was named, is given
abbrev pub read : Sheet → Bool → Bool → List ℕ → Result Stated TextWhy
read sheet has_entry is_twice line =
    if list_all is_allowed line then (
    if is_twice || is_second (command_named (words_on line).name) sheet has_entry then Err why.Twice else
    statement_on (text_end sheet.current) (words_on line) >>= in_place (words_on line).label sheet)
    else Err why.Char

-- ---- the first pass

-- what the lines so far brought: sections, labels and the label of the entry
pub record Found : Type 0 where
  pub sheet : Sheet
  pub labels : List (List ℕ × ℕ)
  pub entry : Option (List ℕ)

abbrev pub entry_after : Option (List ℕ) → Stated → Command → Option (List ℕ)
entry_after entry st command.Entry = st.said.label
entry_after entry st _ = entry

abbrev pub after_line : Found → Option (List ℕ) → Stated → Found
after_line found label st = record {
  sheet = moved found.sheet st [] st.command;
  labels = with_label found.labels label (begins_at st st.command found.sheet);
  entry = entry_after found.entry st st.command;
}

-- what a line gives, or a fault with its number
abbrev pub at_line : {A B : Type 0} → ℕ → Result A TextWhy → (A → Result B AsmFault) → Result B AsmFault
at_line n (Ok x) f = f x
at_line n (Err w) f = Err (faults.Bad n w)

-- the lines from a number on, one after the other
abbrev pub first_pass : ℕ → Found → List (List ℕ) → Result Found AsmFault
first_pass n found [] = Ok found
first_pass n found (line ∷ lines) =
    at_line n (read found.sheet (is_some found.entry) (is_known found.labels (words_on line).label) line)
    (λ st. first_pass (n + 1) (after_line found (words_on line).label st) lines)

-- ---- the second pass

-- an address up to a limit as a value
abbrev pub up_to : ℕ → ℕ → Said → Result Said TextWhy
up_to most address said = if nat_le address most then Ok (with_number said address) else Err why.Range

abbrev pub target_at : Operands → ℕ → ℕ → Said → Result Said TextWhy
target_at form.Target pc address said = reached (jump_field pc address) (with_target said)
target_at _ pc address said = reached (branch_field pc address) (with_imm said)

-- an address in the place of its label
abbrev pub value_at : Command → ℕ → ℕ → Said → Result Said TextWhy
value_at (command.Instruction o) pc address said = target_at (operands_of o) pc address said
value_at command.Half pc address said = up_to (2 ^ 16 - 1) address said
value_at command.Byte pc address said = up_to (2 ^ 8 - 1) address said
value_at _ pc address said = Ok (with_number said address)

abbrev pub known_value : Option ℕ → Command → ℕ → Said → Result Said TextWhy
known_value None c pc said = Err why.Label
known_value (Some address) c pc said = value_at c pc address said

-- what operands say, with an address in the place of the label where there is one
abbrev pub resolved : List (List ℕ × ℕ) → Option (List ℕ) → Command → ℕ → Said → Result Said TextWhy
resolved labels None c pc said = Ok said
resolved labels (Some name) c pc said = known_value (address_of labels name) c pc said

-- the bytes of a statement, where they are made
abbrev pub made_bytes : Bool → Said → Stated → List ℕ
made_bytes make said st = if make then bytes_of said st.string st.command else []

-- the sheet after a line, with its bytes or without
abbrev pub filled : Bool → List (List ℕ × ℕ) → Sheet → List ℕ → Result Sheet TextWhy
filled make labels sheet line =
    statement_on (text_end sheet.current) (words_on line) >>= λ st.
    resolved labels st.said.label st.command (end_of_open sheet.current) st.said >>= λ said.
    Ok (moved sheet st (made_bytes make said st) st.command)

abbrev pub second_pass : Bool → List (List ℕ × ℕ) → ℕ → Sheet → List (List ℕ) → Result Sheet AsmFault
second_pass make labels n sheet [] = Ok sheet
second_pass make labels n sheet (line ∷ lines) =
    at_line n (filled make labels sheet line) (λ next. second_pass make labels (n + 1) next lines)

-- ---- the image

-- the kind of a section that is not text
abbrev pub kind_of : Section → Option Kind
kind_of section.Text = None
kind_of section.Data = Some kind.Data
kind_of section.Rdata = Some kind.Rdata
kind_of section.Sdata = Some kind.Sdata
kind_of section.Bss = Some kind.Bss
kind_of section.Sbss = Some kind.Sbss

-- how many bytes a section can have in an object that is short enough
abbrev pub most_bytes : Section → ℕ
most_bytes s = if brings s then 16777216 else 2 ^ 32 - 1

abbrev pub is_short : Piece → Bool
is_short piece = nat_le piece.size (most_bytes piece.section)

abbrev pub current_is_short : Option Piece → Bool
current_is_short None = true
current_is_short (Some piece) = is_short piece

-- each section is short enough
abbrev pub are_short : Sheet → Bool
are_short sheet = list_all is_short sheet.closed && current_is_short sheet.current

abbrev pub text_or : Option Kind → Piece → Option Text → Option Text
text_or None piece later = Some (record { start = piece.start; big = false; bytes = piece.bytes })
text_or (Some k) piece later = later

-- the text of an image
abbrev pub text_in : List Piece → Option Text
text_in [] = None
text_in (piece ∷ pieces) = text_or (kind_of piece.section) piece (text_in pieces)

abbrev pub part_onto : Option Kind → Piece → List Part → List Part
part_onto None piece parts = parts
part_onto (Some k) piece parts = record { kind = k; addr = piece.start; size = min piece.size (2 ^ 32 - 1); bytes = piece.bytes } ∷ parts

-- its other parts, in their order
abbrev pub parts_in : List Piece → List Part
parts_in [] = []
parts_in (piece ∷ pieces) = part_onto (kind_of piece.section) piece (parts_in pieces)

-- the label's address, or the text's start
abbrev pub entry_of : List (List ℕ × ℕ) → Option (List ℕ) → ℕ → ℕ
entry_of labels None start = start
entry_of labels (Some name) start = unwrap_or (address_of labels name) start

abbrev pub no_layout : AsmFault
no_layout = faults.Bad 0 why.Layout

abbrev pub image_with : Option Text → List Part → List (List ℕ × ℕ) → Option (List ℕ) → Result Image AsmFault
image_with None parts labels entry = Err no_layout
image_with (Some text) parts labels entry = Ok (record { entry = entry_of labels entry text.start; text = text; parts = parts })

-- a fault, or what comes next
abbrev pub next : {A B : Type 0} → Result A AsmFault → (A → Result B AsmFault) → Result B AsmFault
next (Ok x) f = f x
next (Err e) f = Err e

abbrev pub no_sheet : Sheet
no_sheet = record { closed = []; current = None }

abbrev pub nothing_found : Found
nothing_found = record { sheet = no_sheet; labels = []; entry = None }

-- the image of lines, of which the first pass found this, and whose labels the second pass knows
abbrev pub laid_out : Found → List (List ℕ) → Result Image AsmFault
laid_out found lines =
    if are_short found.sheet then
    next (second_pass true found.labels 1 no_sheet lines) (λ sheet. image_with (text_in (pieces_of sheet)) (parts_in (pieces_of sheet)) found.labels found.entry)
    else Err no_layout

-- the image that a text describes, or the first fault of a pass; whether an object can hold it is
-- not judged yet
unfoldable pub described : List ℕ → Result Image AsmFault
described text =
    next (first_pass 1 nothing_found (lines_of text)) (λ found.
    next (second_pass false found.labels 1 no_sheet (lines_of text)) (λ sheet.
    laid_out found (lines_of text)))

-- an image that an object of at most 16,777,216 bytes can hold
pub record CanBeHeld (image : Image) : Type 0 where
  pub form : IsImage image
  pub short : object_length image ≤ 16777216

-- what assembling answers: the image that is described, where an object can hold it, and else
-- Layout at line 0; or the fault
abbrev pub Answers : Result Image AsmFault → Result Image AsmFault → Type 0
Answers meaning (Err faults.OutOfMemory) = Unit {0}
Answers (Ok image) (Ok answer) = (answer ≡ image) × CanBeHeld image
Answers (Ok image) (Err (faults.Bad line reason)) = (line ≡ 0) × (reason ≡ why.Layout) × (CanBeHeld image → ⊥)
Answers (Err fault) (Ok answer) = ⊥
Answers (Err fault) (Err (faults.Bad line reason)) = fault ≡ faults.Bad line reason
