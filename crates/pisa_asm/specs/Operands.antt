-- What may stand at each place among the operands of a statement, and what it says there.
use Rattle.std.specs.Prelude.{◌+◌, ◌-◌, ◌/◌, ◌%◌, ◌^◌, ℕ, List, [], ◌∷◌, Bool, true, false, length, nat_eq, nat_le, if◌then◌else◌, Option, Some, None, Result, Ok, Err}
use Rattle.pisa_isa.specs.Targets.{branch_target, jump_target}
use Rattle.pisa_isa.specs.declared.instr.Instr.{Instr}
use Rattle.pisa_isa.specs.declared.table.Operands.{Operands}
use Rattle.pisa_isa.specs.declared.table.Operands.TheVariants as form
use Rattle.pisa_isa.specs.Fields.{highest_rt}
use Rattle.ss_base.specs.declared.text_fault.TextWhy.{TextWhy}
use Rattle.ss_base.specs.declared.text_fault.TextWhy.TheVariants as why
use Rattle.pisa_asm.specs.declared.tokens.Number.{Number}
use Rattle.pisa_asm.specs.declared.slots.Slot.{Slot}
use Rattle.pisa_asm.specs.declared.slots.Slot.TheVariants as slot
use Rattle.text_lines.specs.Lines.{parted}
use Rattle.pisa_asm.specs.Letters.{closed}
use Rattle.pisa_asm.specs.Tokens.{is_label, number_in, limited_in, is_within, residue, register_in}

-- the places among an instruction's operands, in the order of the text
abbrev pub slots_of : Operands → List Slot
slots_of form.Empty = []
slots_of form.Target = slot.Jump ∷ []
slots_of form.Rs = slot.Rs ∷ []
slots_of form.Rd = slot.Rd ∷ []
slots_of form.RdRs = slot.Rd ∷ slot.Rs ∷ []
slots_of form.RsRt = slot.Rs ∷ slot.Rt ∷ []
slots_of form.RsBranch = slot.Rs ∷ slot.Branch ∷ []
slots_of form.RsRtBranch = slot.Rs ∷ slot.Rt ∷ slot.Branch ∷ []
slots_of form.Offset = slot.Address ∷ []
slots_of form.Indexed = slot.Sum ∷ []
slots_of form.RtOffset = slot.Rt ∷ slot.Address ∷ []
slots_of form.RtIndexed = slot.Rt ∷ slot.Sum ∷ []
slots_of form.RdRsRt = slot.Rd ∷ slot.Rs ∷ slot.Rt ∷ []
slots_of form.RdRtRs = slot.Rd ∷ slot.Rt ∷ slot.Rs ∷ []
slots_of form.RdRtShift = slot.Rd ∷ slot.Rt ∷ slot.Shift ∷ []
slots_of form.RtRsSigned = slot.Rt ∷ slot.Rs ∷ slot.Signed ∷ []
slots_of form.RtRsUnsigned = slot.Rt ∷ slot.Rs ∷ slot.Unsigned ∷ []
slots_of form.RtUnsigned = slot.Rt ∷ slot.Unsigned ∷ []

-- a value, where it passes a test
abbrev pub where_it : Bool → ℕ → Option ℕ
where_it true value = Some value
where_it false value = None

-- the field with which a branch, or a jump, at pc goes to a target; None where there is none
abbrev pub branch_field : ℕ → ℕ → Option ℕ
branch_field pc target =
    let field = (target + 2 ^ 33 - (pc + 8)) / 4 % 2 ^ 16 in where_it (nat_eq (branch_target pc field) target) field

abbrev pub jump_field : ℕ → ℕ → Option ℕ
jump_field pc target =
    let field = target / 4 % 2 ^ 26 in where_it (nat_eq (jump_target pc field) target) field

-- what the operands of a statement say: the fields of its instruction, or a number, and a label
-- that stands for a target or a value
pub record Said : Type 0 where
  pub instr : Instr
  pub number : ℕ
  pub label : Option (List ℕ)

abbrev pub with_rs : Said → ℕ → Said
with_rs said register = record said { instr = record said.instr { rs = register } }

abbrev pub with_rt : Said → ℕ → Said
with_rt said register = record said { instr = record said.instr { rt = register } }

abbrev pub with_rd : Said → ℕ → Said
with_rd said register = record said { instr = record said.instr { rd = register } }

abbrev pub with_shamt : Said → ℕ → Said
with_shamt said amount = record said { instr = record said.instr { shamt = amount } }

abbrev pub with_imm : Said → ℕ → Said
with_imm said value = record said { instr = record said.instr { imm = value } }

abbrev pub with_target : Said → ℕ → Said
with_target said field = record said { instr = record said.instr { target = field } }

abbrev pub with_number : Said → ℕ → Said
with_number said value = record said { number = value }

abbrev pub with_label : Said → List ℕ → Said
with_label said token = record said { label = Some token }

-- a result that goes on with what it gives
abbrev pub then_ : {A B : Type 0} → Result A TextWhy → (A → B) → Result B TextWhy
then_ (Ok x) f = Ok (f x)
then_ (Err w) f = Err w

-- a label, where a token is one
abbrev pub labelled : Said → List ℕ → Result Said TextWhy
labelled said token = if is_label token then Ok (with_label said token) else Err why.Form

-- a field that reaches a target
abbrev pub reached : Option ℕ → (ℕ → Said) → Result Said TextWhy
reached None put = Err why.Range
reached (Some field) put = Ok (put field)

-- the target of a branch or jump: a number that a field reaches, where the statement stands in
-- text, or a label
abbrev pub aimed : Option Number → Option ℕ → (ℕ → ℕ → Option ℕ) → (ℕ → Said) → Said → List ℕ → Result Said TextWhy
aimed None pc field put said token = labelled said token
aimed (Some n) None field put said token = Ok said
aimed (Some n) (Some pc) field put said token =
    if is_within 0 (2 ^ 32 - 1) n then reached (field pc n.magnitude) put else Err why.Range

-- a number within limits, or a label
abbrev pub valued : Option Number → ℕ → ℕ → ℕ → Said → List ℕ → Result Said TextWhy
valued None low high modulus said token = labelled said token
valued (Some n) low high modulus said token =
    if is_within low high n then Ok (with_number said (residue modulus n)) else Err why.Range

-- where a reason stands in the order of reasons
abbrev pub rank : TextWhy → ℕ
rank why.Char = 0
rank why.Option = 1
rank why.NotHere = 2
rank why.Twice = 3
rank why.Missing = 4
rank why.Number = 5
rank why.Range = 6
rank why.Form = 7
rank why.Extra = 8
rank why.Mnemonic = 9
rank why.Section = 10
rank why.Label = 11
rank why.Layout = 12

-- of two reasons the first in that order
abbrev pub first_of : TextWhy → TextWhy → TextWhy
first_of v w = if nat_le (rank v) (rank w) then v else w

-- a reason beside what else is found
abbrev pub beside : {A : Type 0} → TextWhy → Result A TextWhy → Result A TextWhy
beside w (Ok x) = Err w
beside w (Err v) = Err (first_of w v)

-- what two parts of an operand give
abbrev pub both : {A B C : Type 0} → Result A TextWhy → Result B TextWhy → (A → B → C) → Result C TextWhy
both (Ok x) (Ok y) f = Ok (f x y)
both (Ok x) (Err v) f = Err v
both (Err w) (Ok y) f = Err w
both (Err w) (Err v) f = Err (first_of w v)

-- an address: an offset, and a register in parentheses
abbrev pub based : Option (List ℕ) → List ℕ → Said → Result Said TextWhy
based None offset said = Err why.Form
based (Some base) offset said = both (limited_in 32768 32767 offset) (register_in 31 base) (λ n register. with_rs (with_imm said (residue (2 ^ 16) n)) register)

abbrev pub addressed : Option (List ℕ × List ℕ) → Said → Result Said TextWhy
addressed None said = Err why.Form
addressed (Some parts) said = if nat_eq (length parts.0) 0 then Err why.Form else based (closed parts.1) parts.0 said

-- an indexed address: two registers with a `+` between them, in parentheses
abbrev pub indexed : Option (List ℕ × List ℕ) → Said → Result Said TextWhy
indexed None said = Err why.Form
indexed (Some parts) said = both (register_in 31 parts.0) (register_in 31 parts.1) (λ base index. with_rd (with_rs said base) index)

abbrev pub within : Option (List ℕ) → Said → Result Said TextWhy
within None said = Err why.Form
within (Some inner) said = indexed (parted 43 inner) said

abbrev pub summed : Option (List ℕ × List ℕ) → Said → Result Said TextWhy
summed None said = Err why.Form
summed (Some parts) said = if nat_eq (length parts.0) 0 then within (closed parts.1) said else Err why.Form

-- what a token says at a place, in a statement at pc; pc is None outside text
abbrev pub slot_says : Option ℕ → Slot → List ℕ → Said → Result Said TextWhy
slot_says pc slot.Rs token said = then_ (register_in 31 token) (with_rs said)
slot_says pc slot.Rt token said = then_ (register_in (highest_rt said.instr.op) token) (with_rt said)
slot_says pc slot.Rd token said = then_ (register_in 31 token) (with_rd said)
slot_says pc slot.Shift token said = then_ (limited_in 0 31 token) (λ n. with_shamt said n.magnitude)
slot_says pc slot.Signed token said = then_ (limited_in 32768 32767 token) (λ n. with_imm said (residue (2 ^ 16) n))
slot_says pc slot.Unsigned token said = then_ (limited_in 0 65535 token) (λ n. with_imm said (residue (2 ^ 16) n))
slot_says pc slot.Branch token said = aimed (number_in token) pc branch_field (with_imm said) said token
slot_says pc slot.Jump token said = aimed (number_in token) pc jump_field (with_target said) said token
slot_says pc slot.Address token said = addressed (parted 40 token) said
slot_says pc slot.Sum token said = summed (parted 40 token) said
slot_says pc slot.Start token said = then_ (limited_in 0 (2 ^ 32 - 1) token) (λ n. with_number said n.magnitude)
slot_says pc slot.Count token said = then_ (limited_in 0 4194304 token) (λ n. with_number said n.magnitude)
slot_says pc slot.Word token said = valued (number_in token) (2 ^ 31) (2 ^ 32 - 1) (2 ^ 32) said token
slot_says pc slot.Half token said = valued (number_in token) 32768 65535 (2 ^ 16) said token
slot_says pc slot.Byte token said = valued (number_in token) 128 255 (2 ^ 8) said token
slot_says pc slot.Name token said = labelled said token

-- an empty operand is a missing one
abbrev pub operand_says : Option ℕ → Slot → List ℕ → Said → Result Said TextWhy
operand_says pc s token said = if nat_eq (length token) 0 then Err why.Missing else slot_says pc s token said

-- a step that is judged, and those after it, of which each reason counts
abbrev pub and_then : Said → Result Said TextWhy → (Said → Result Said TextWhy) → Result Said TextWhy
and_then said (Ok next) others = others next
and_then said (Err w) others = beside w (others said)

-- what operands say at their places: each has to be right, none may be missing, and none may be left
abbrev pub say : Option ℕ → List Slot → List (List ℕ) → Said → Result Said TextWhy
say pc [] [] said = Ok said
say pc (s ∷ slots) [] said = Err why.Missing
say pc [] (token ∷ tokens) said = beside (if nat_eq (length token) 0 then why.Missing else why.Extra) (say pc [] tokens said)
say pc (s ∷ slots) (token ∷ tokens) said = and_then said (operand_says pc s token said) (say pc slots tokens)
