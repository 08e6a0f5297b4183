-- A line that is printed for an instruction and read again.
use Rattle.std.proofs.Common.{◌≡◌, ◌+◌, ◌<◌, ◌∙◌, ◌^◌, ◌++◌, ◌&&◌, ℕ, suc, List, [], ◌∷◌, Bool, true, false, not, cond, nat_eq, nat_le, nat_lt, length, take, drop, map, Option, Some, None, Result, Ok, Err, refl, sym, ap, arith, length-append}
use Rattle.std.specs.List.{list_all, prefix_len, slice_split}
use Rattle.std.proofs.lemmas.Bool.Decides.{nat_tests}
use Rattle.std.proofs.lemmas.List.{append-nil, take_all}
use Rattle.std.proofs.Math.Seq.{take-append_seam}
use Rattle.pisa_isa.specs.declared.instr.Op.{Op}
use Rattle.pisa_isa.specs.declared.instr.Instr.{Instr}
use Rattle.pisa_isa.specs.declared.table.Operands.{Operands}
use Rattle.pisa_isa.specs.declared.table.Operands.TheVariants as form
use Rattle.pisa_isa.specs.Classes.{is_float_op, operands_of}
use Rattle.pisa_isa.specs.Coding.{AtMost, IsWellFormed}
use Rattle.pisa_isa.specs.Fields.{fields_of, highest_rt}
use Rattle.pisa_isa.specs.CodingLaws.{Bounds, bounds}
use Rattle.pisa_isa.specs.Texts.{name_of}
use Rattle.ss_base.specs.declared.text_fault.TextWhy.{TextWhy}
use Rattle.ss_base.specs.declared.text_fault.TextWhy.TheVariants as why
use Rattle.pisa_asm.specs.declared.letters.Quoting.TheVariants.{Outside, Inside}
use Rattle.pisa_asm.specs.declared.slots.Slot.{Slot}
use Rattle.pisa_asm.specs.declared.slots.Slot.TheVariants as slot
use Rattle.pisa_asm.specs.declared.statements.Command.{Command}
use Rattle.pisa_asm.specs.declared.statements.Command.TheVariants as command
use Rattle.text_lines.specs.Lines.{is_allowed, is_blank, parted, trim_start}
use Rattle.pisa_asm.specs.Letters.{code_length, code_of, operands_in, trim}
use Rattle.pisa_asm.specs.Operands.{Said, and_then, operand_says, say, slot_says, slots_of, then_}
use Rattle.pisa_asm.specs.Printed.{instruction_text, operand_texts, slot_text}
use Rattle.pisa_asm.specs.Statements.{Stated, Words, bare, command_named, known, labelled_line, stated, words_in, words_of, words_with, worded}
use Rattle.pisa_asm.specs.declared.sheet.Piece.{Piece}
use Rattle.pisa_asm.specs.declared.sheet.Sheet.{Sheet}
use Rattle.pisa_asm.specs.Sheets.{end_of, may_stand, takes_instructions, text_end}
use Rattle.pisa_asm.specs.Passes.{◌>>=◌, in_place, is_second, read, statement_on, words_on}
use Rattle.pisa_asm.proofs.RoundNames.{name_found, name_some, name_token}
use Rattle.pisa_asm.proofs.RoundTokens.{all_by, is_token, is_token_byte, joined, lacks, parted_nowhere, piece_alone, piece_here, token_lacks_comma, trim_same}
use Rattle.pisa_asm.proofs.RoundSlots.{prints, slot_back, slot_some, slot_token, with_slot}

abbrev pub print : List Slot → Bool
print slots = list_all prints slots

-- ---- what the operands say

op_kept : (i : Instr) (s : Slot) (said : Said) → said.instr.op ≡ i.op → (with_slot i s said).instr.op ≡ i.op
op_kept i slot.Rs said e = e
op_kept i _ said e = e

abbrev filled : Instr → List Slot → Said → Said
filled i [] said = said
filled i (s ∷ slots) said = filled i slots (with_slot i s said)

abbrev texts : ℕ → Instr → List Slot → List (List ℕ)
texts pc i [] = []
texts pc i (s ∷ slots) = slot_text pc i s ∷ texts pc i slots

first_prints : (s : Slot) (slots : List Slot) → print (s ∷ slots) ≡ true → prints s ≡ true
first_prints s slots h = by (prints s) (print slots) h
  where
    by : (a b : Bool) → (a && b) ≡ true → a ≡ true
    by true b h = refl
    by false b h = absurd (cc)

others_print : (s : Slot) (slots : List Slot) → print (s ∷ slots) ≡ true → print slots ≡ true
others_print s slots h = by (prints s) (print slots) h
  where
    by : (a b : Bool) → (a && b) ≡ true → b ≡ true
    by true b h = h
    by false b h = absurd (cc)

operand_back : (pc : ℕ) (i : Instr) (s : Slot) (said : Said) → pc < 2 ^ 32 → Bounds i → said.instr.op ≡ i.op → prints s ≡ true
    → operand_says (Some pc) s (slot_text pc i s) said ≡ Ok (with_slot i s said)
operand_back pc i s said h b e p =
    let some : nat_eq (length (slot_text pc i s)) 0 ≡ false = grind (arith, nat_tests, slot_some pc i s b p) in
    ap (λ v. cond v (Err why.Missing) (slot_says (Some pc) s (slot_text pc i s) said)) some ∙ slot_back pc i s said h b e p

say_back : (pc : ℕ) (i : Instr) (slots : List Slot) (said : Said) → pc < 2 ^ 32 → Bounds i → said.instr.op ≡ i.op → print slots ≡ true
    → say (Some pc) slots (texts pc i slots) said ≡ Ok (filled i slots said)
say_back pc i [] said h b e p = refl
say_back pc i (s ∷ slots) said h b e p =
    ap (λ (r : Result Said TextWhy). and_then said r (say (Some pc) slots (texts pc i slots))) (operand_back pc i s said h b e (first_prints s slots p))
    ∙ say_back pc i slots (with_slot i s said) h b (op_kept i s said e) (others_print s slots p)

-- ---- how they are parted

rest_split : (pc : ℕ) (i : Instr) (front : List ℕ) (slots : List Slot) → lacks 44 front ≡ true → Bounds i → print slots ≡ true
    → slice_split (λ b. nat_eq b 44) (front ++ operand_texts 44 pc i slots) ≡ front ∷ texts pc i slots
rest_split pc i front [] h b p = ap (slice_split (λ b. nat_eq b 44)) (append-nil front) ∙ piece_alone front h
rest_split pc i front (s ∷ slots) h b p =
    piece_here front (slot_text pc i s ++ operand_texts 44 pc i slots) h
    ∙ ap (λ (ps : List (List ℕ)). front ∷ ps) (rest_split pc i (slot_text pc i s) slots (token_lacks_comma (slot_text pc i s) (slot_token pc i s b (first_prints s slots p))) b (others_print s slots p))

trimmed : (pc : ℕ) (i : Instr) (slots : List Slot) → Bounds i → print slots ≡ true → map trim (texts pc i slots) ≡ texts pc i slots
trimmed pc i [] b p = refl
trimmed pc i (s ∷ slots) b p =
    ap (λ (t : List ℕ). t ∷ map trim (texts pc i slots)) (trim_same (slot_text pc i s) (slot_token pc i s b (first_prints s slots p)))
    ∙ ap (λ (ts : List (List ℕ)). slot_text pc i s ∷ ts) (trimmed pc i slots b (others_print s slots p))

byte_not_blank : (x : ℕ) → is_token_byte x ≡ true → is_blank x ≡ false
byte_not_blank x h = grind (arith, nat_tests)

head_token : (x : ℕ) (xs : List ℕ) → is_token (x ∷ xs) ≡ true → is_token_byte x ≡ true
head_token x xs h = by (is_token_byte x) (is_token xs) h
  where
    by : (a b : Bool) → (a && b) ≡ true → a ≡ true
    by true b h = refl
    by false b h = absurd (cc)

pub not_all_blank : (t rest : List ℕ) → is_token t ≡ true → 0 < length t → list_all is_blank (t ++ rest) ≡ false
not_all_blank [] rest h k = absurd (omega arith)
not_all_blank (x ∷ xs) rest h k = ap (λ v. v && list_all is_blank (xs ++ rest)) (byte_not_blank x (head_token x xs h))

parted_back : (pc : ℕ) (i : Instr) (slots : List Slot) → Bounds i → print slots ≡ true → operands_in (operand_texts 32 pc i slots) ≡ texts pc i slots
parted_back pc i [] b p = refl
parted_back pc i (s ∷ slots) b p =
    let text = slot_text pc i s in
    let token = slot_token pc i s b (first_prints s slots p) in
    let rest = operand_texts 44 pc i slots in
    ap (λ v. cond v [] (map trim (slice_split (λ b. nat_eq b 44) (32 ∷ (text ++ rest))))) (not_all_blank text rest token (slot_some pc i s b (first_prints s slots p)))
    ∙ ap (map trim) (rest_split pc i (32 ∷ text) slots (token_lacks_comma text token) b (others_print s slots p))
    ∙ ap (λ (t : List ℕ). t ∷ map trim (texts pc i slots)) (trim_same text token)
    ∙ ap (λ (ts : List (List ℕ)). text ∷ ts) (trimmed pc i slots b (others_print s slots p))

-- ---- the words of the line

-- a byte of a printed line
abbrev pub is_line_byte : ℕ → Bool
is_line_byte b = nat_le 32 b && nat_le b 126 && not (nat_eq b 34) && not (nat_eq b 35) && not (nat_eq b 58)

pub token_line : (b : ℕ) → is_token_byte b ≡ true → is_line_byte b ≡ true
token_line b h = grind (arith, nat_tests)

pub line_allowed : (b : ℕ) → is_line_byte b ≡ true → is_allowed b ≡ true
line_allowed b h = grind (arith, nat_tests)

pub line_no_colon : (b : ℕ) → is_line_byte b ≡ true → not (nat_eq b 58) ≡ true
line_no_colon b h = grind (arith, nat_tests)

operands_line : (separator pc : ℕ) (i : Instr) (slots : List Slot) → is_line_byte separator ≡ true → Bounds i → print slots ≡ true → list_all is_line_byte (operand_texts separator pc i slots) ≡ true
operands_line separator pc i [] k b p = refl
operands_line separator pc i (s ∷ slots) k b p =
    let text = slot_text pc i s in
    joined is_line_byte (separator ∷ text) (operand_texts 44 pc i slots)
    (joined is_line_byte (separator ∷ []) text (ap (λ v. v && true) k) (all_by is_token_byte is_line_byte text token_line (slot_token pc i s b (first_prints s slots p))))
    (operands_line 44 pc i slots refl b (others_print s slots p))

pub line_all : (pc : ℕ) (i : Instr) → Bounds i → print (slots_of (operands_of i.op)) ≡ true → list_all is_line_byte (instruction_text i pc) ≡ true
line_all pc i b p =
    joined is_line_byte (name_of i.op) (operand_texts 32 pc i (slots_of (operands_of i.op)))
    (all_by is_token_byte is_line_byte (name_of i.op) token_line (name_token i.op))
    (operands_line 32 pc i (slots_of (operands_of i.op)) refl b p)

record Plain (x : ℕ) (xs : List ℕ) : Type 0 where
  pub no_quote : nat_eq x 34 ≡ false
  pub no_comment : nat_eq x 35 ≡ false
  pub others : list_all is_line_byte xs ≡ true

plain_line : (x : ℕ) (xs : List ℕ) → list_all is_line_byte (x ∷ xs) ≡ true → Plain x xs
plain_line x xs h = record { no_quote = grind (arith, nat_tests); no_comment = grind (arith, nat_tests); others = grind (arith, nat_tests) }

whole_code : (xs : List ℕ) → list_all is_line_byte xs ≡ true → code_length Outside xs ≡ length xs
whole_code [] h = refl
whole_code (x ∷ xs) h =
    let v = plain_line x xs h in
    ap (λ c. cond c 0 (1 + code_length (cond (nat_eq x 34) Inside Outside) xs)) v.no_comment
    ∙ ap (λ c. 1 + code_length (cond c Inside Outside) xs) v.no_quote
    ∙ grow (code_length Outside xs) (length xs) (whole_code xs v.others)
  where
    grow : (n m : ℕ) → n ≡ m → 1 + n ≡ suc m
    grow n m e = omega arith

pub code_same : (xs : List ℕ) → list_all is_line_byte xs ≡ true → code_of xs ≡ xs
code_same xs h = ap (λ n. take n xs) (whole_code xs h) ∙ take_all (length xs) xs (omega arith)

pub start_same : (n rest : List ℕ) → is_token n ≡ true → 0 < length n → trim_start (n ++ rest) ≡ n ++ rest
start_same [] rest h k = absurd (omega arith)
start_same (x ∷ xs) rest h k = ap (λ v. cond v (trim_start (xs ++ rest)) (x ∷ (xs ++ rest))) (byte_not_blank x (head_token x xs h))

blank_place : (xs rest : List ℕ) (m : ℕ) → is_token xs ≡ true → prefix_len (λ b. not (is_blank b)) rest ≡ 0 → prefix_len (λ b. not (is_blank b)) (xs ++ rest) ≡ length xs
blank_place [] rest m h k = k
blank_place (x ∷ xs) rest m h k =
    ap (λ v. cond (not v) (1 + prefix_len (λ b. not (is_blank b)) (xs ++ rest)) 0) (byte_not_blank x (head_token x xs h))
    ∙ grow (prefix_len (λ b. not (is_blank b)) (xs ++ rest)) (length xs) (blank_place xs rest m (tail x xs h) k)
  where
    grow : (n m : ℕ) → n ≡ m → 1 + n ≡ suc m
    grow n m e = omega arith

    tail : (x : ℕ) (xs : List ℕ) → is_token (x ∷ xs) ≡ true → is_token xs ≡ true
    tail x xs h = by (is_token_byte x) (is_token xs) h
      where
        by : (a b : Bool) → (a && b) ≡ true → b ≡ true
        by true b h = h
        by false b h = absurd (cc)

drop_front : (xs ys : List ℕ) → drop (length xs) (xs ++ ys) ≡ ys
drop_front [] ys = refl
drop_front (x ∷ xs) ys = drop_front xs ys

-- the words of a name, and of a name with operands behind it
words_alone : (n : List ℕ) → is_token n ≡ true → words_of n ≡ (n, [])
words_alone n h =
    let at : prefix_len (λ b. not (is_blank b)) n ≡ length n = ap (prefix_len (λ b. not (is_blank b))) (sym (append-nil n)) ∙ blank_place n [] 0 h refl in
    let outside : nat_lt (length n) (length n) ≡ false = grind (arith, nat_tests) in
    ap (λ k. worded (cond (nat_lt k (length n)) (Some k) None) n) at ∙ ap (λ v. worded (cond v (Some (length n)) None) n) outside

pub words_parted : (n rest : List ℕ) → is_token n ≡ true → words_of (n ++ 32 ∷ rest) ≡ (n, 32 ∷ rest)
words_parted n rest h =
    let text = n ++ 32 ∷ rest in
    let inside : nat_lt (length n) (length text) ≡ true = grind (arith, nat_tests, length-append n (32 ∷ rest)) in
    ap (λ k. worded (cond (nat_lt k (length text)) (Some k) None) text) (blank_place n (32 ∷ rest) 0 h refl)
    ∙ ap (λ v. worded (cond v (Some (length n)) None) text) inside
    ∙ ap (λ (front : List ℕ). (front, drop (length n) text)) (take-append_seam n (32 ∷ rest))
    ∙ ap (λ (back : List ℕ). (n, back)) (drop_front n (32 ∷ rest))

words_back : (pc : ℕ) (i : Instr) (n : List ℕ) (slots : List Slot) → is_token n ≡ true → words_of (n ++ operand_texts 32 pc i slots) ≡ (n, operand_texts 32 pc i slots)
words_back pc i n [] h = ap words_of (append-nil n) ∙ words_alone n h
words_back pc i n (s ∷ slots) h = words_parted n (slot_text pc i s ++ operand_texts 44 pc i slots) h

pub line_words : (pc : ℕ) (i : Instr) → Bounds i → print (slots_of (operands_of i.op)) ≡ true
    → words_on (instruction_text i pc) ≡ words_with None (name_of i.op, operand_texts 32 pc i (slots_of (operands_of i.op)))
line_words pc i b p =
    let text = instruction_text i pc in
    let all = line_all pc i b p in
    let start = start_same (name_of i.op) (operand_texts 32 pc i (slots_of (operands_of i.op))) (name_token i.op) (name_some i.op) in
    ap words_in (code_same text all)
    ∙ ap (λ (t : List ℕ). labelled_line (parted 58 t) t) start
    ∙ ap (λ (o : Option (List ℕ × List ℕ)). labelled_line o text) (parted_nowhere 58 text (all_by is_line_byte (λ b. not (nat_eq b 58)) text line_no_colon all))
    ∙ ap (words_with None) (words_back pc i (name_of i.op) (slots_of (operands_of i.op)) (name_token i.op))

-- ---- the instruction

pub slots_print : (s : Operands) → print (slots_of s) ≡ true
slots_print form.Empty = refl
slots_print _ = refl

abbrev instr_with : Op → ℕ → ℕ → ℕ → ℕ → ℕ → ℕ → Instr
instr_with o r1 r2 r3 h k j = record { op = o; rs = r1; rt = r2; rd = r3; shamt = h; imm = k; target = j }

abbrev pub said_with : Instr → Said
said_with i = record { instr = i; number = 0; label = None }

-- fields that operands leave out are 0, so that operands say a whole instruction
fills : (s : Operands) (top : ℕ) (o : Op) (r1 r2 r3 h k j : ℕ)
    → AtMost (fields_of s).rs 31 r1 → AtMost (fields_of s).rt top r2 → AtMost (fields_of s).rd 31 r3
    → AtMost (fields_of s).shamt 31 h → AtMost (fields_of s).imm 65535 k → AtMost (fields_of s).target 67108863 j
    → filled (instr_with o r1 r2 r3 h k j) (slots_of s) (said_with (bare o)) ≡ said_with (instr_with o r1 r2 r3 h k j)
fills form.Empty top o r1 r2 r3 h k j a b c d e f = cc
fills _ top o r1 r2 r3 h k j a b c d e f = cc

-- the line that is printed for an instruction is the statement of that instruction
pub line_back : (pc : ℕ) (i : Instr) → pc < 2 ^ 32 → IsWellFormed i → is_float_op i.op ≡ false
    → statement_on (Some pc) (words_on (instruction_text i pc)) ≡ Ok (stated (command.Instruction i.op) [] (said_with i))
line_back pc i h w nf =
    let b = bounds i w in
    let slots = slots_of (operands_of i.op) in
    let rest = operand_texts 32 pc i slots in
    let p = slots_print (operands_of i.op) in
    let start = said_with (bare i.op) in
    let end = stated (command.Instruction i.op) [] in
    ap (statement_on (Some pc)) (line_words pc i b p)
    ∙ ap (λ (c : Option Command). known (Some pc) c rest) (name_found i.op nf)
    ∙ ap (λ (ts : List (List ℕ)). then_ (say (Some pc) slots ts start) end) (parted_back pc i slots b p)
    ∙ ap (λ (r : Result Said TextWhy). then_ r end) (say_back pc i slots start h b refl p)
    ∙ ap (λ (s : Said). Ok (end s)) (fills (operands_of i.op) (highest_rt i.op) i.op i.rs i.rt i.rd i.shamt i.imm i.target w.rs w.rt w.rd w.shamt w.imm w.target)

stands_by : (takes : Bool) (end pc : ℕ) → cond takes (Some end) None ≡ Some pc → takes ≡ true
stands_by true end pc h = refl
stands_by false end pc h = absurd (cc)

stands : (o : Op) (current : Option Piece) (pc : ℕ) → text_end current ≡ Some pc → may_stand (command.Instruction o) current ≡ true
stands o None pc h = absurd (cc)
stands o (Some piece) pc h = stands_by (takes_instructions piece.section) (end_of piece) pc h

-- where text is open at pc, the first pass reads the printed line as the statement
pub read_back : (sheet : Sheet) (has_entry : Bool) (pc : ℕ) (i : Instr) → text_end sheet.current ≡ Some pc → pc < 2 ^ 32 → IsWellFormed i → is_float_op i.op ≡ false
    → read sheet has_entry false (instruction_text i pc) ≡ Ok (stated (command.Instruction i.op) [] (said_with i))
read_back sheet has_entry pc i at h w nf =
    let b = bounds i w in
    let slots = slots_of (operands_of i.op) in
    let p = slots_print (operands_of i.op) in
    let line = instruction_text i pc in
    let names = line_words pc i b p in
    let st = stated (command.Instruction i.op) [] (said_with i) in
    ap (λ v. cond v (cond (is_second (command_named (words_on line).name) sheet has_entry) (Err why.Twice) (statement_on (text_end sheet.current) (words_on line) >>= in_place (words_on line).label sheet)) (Err why.Char)) (all_by is_line_byte is_allowed line line_allowed (line_all pc i b p))
    ∙ ap (λ (v : Words). cond (is_second (command_named v.name) sheet has_entry) (Err why.Twice) (statement_on (text_end sheet.current) (words_on line) >>= in_place v.label sheet)) names
    ∙ ap (λ (c : Option Command). cond (is_second c sheet has_entry) (Err why.Twice) (statement_on (text_end sheet.current) (words_on line) >>= in_place None sheet)) (name_found i.op nf)
    ∙ ap (λ (o : Option ℕ). statement_on o (words_on line) >>= in_place None sheet) at
    ∙ ap (λ (r : Result Stated TextWhy). r >>= in_place None sheet) (line_back pc i h w nf)
    ∙ ap (λ v. cond (v && true) (Ok st) (Err why.Section)) (stands i.op sheet.current pc at)
