-- The source of one instruction, through all passes.
use Rattle.std.proofs.Common.{◌≡◌, ◌+◌, ◌-◌, ◌%◌, ◌^◌, ◌<◌, ◌≤◌, ◌∙◌, ◌++◌, ℕ, List, [], ◌∷◌, Bool, true, false, not, cond, map, nat_eq, nat_le, length, codes, Option, Some, None, Result, Ok, Err, refl, ap, arith, lit<, length-append}
use Rattle.std.specs.List.{list_all, slice_split}
use Rattle.std.proofs.lemmas.Bool.Decides.{nat_tests}
use Rattle.pisa_isa.specs.declared.instr.Op.TheVariants as op
use Rattle.pisa_isa.specs.declared.instr.Instr.{Instr}
use Rattle.pisa_isa.specs.Classes.{is_float_op, operands_of}
use Rattle.pisa_isa.specs.Coding.{IsWellFormed, decoded, number_of, second_word}
use Rattle.pisa_isa.specs.CodingLaws.{bounds, codes_decoded, word_codes}
use Rattle.pisa_isa.specs.Texts.{name_of}
use Rattle.ss_base.specs.declared.text_fault.TextWhy.{TextWhy}
use Rattle.ss_base.specs.declared.text_fault.TextWhy.TheVariants as why
use Rattle.ss_base.specs.declared.text_fault.AsmFault.{AsmFault}
use Rattle.pisa_asm.specs.declared.tokens.Number.{Number}
use Rattle.pisa_asm.specs.declared.slots.Slot.TheVariants as slot
use Rattle.pisa_asm.specs.declared.statements.Section.TheVariants as section
use Rattle.pisa_asm.specs.declared.statements.Command.{Command}
use Rattle.pisa_asm.specs.declared.statements.Command.TheVariants as command
use Rattle.pisa_asm.specs.declared.sheet.Sheet.{Sheet}
use Rattle.text_lines.specs.Lines.{is_allowed, lines_of, parted}
use Rattle.pisa_asm.specs.Letters.{operands_in, trim}
use Rattle.pisa_asm.specs.Tokens.{limited, limited_in}
use Rattle.pisa_asm.specs.Operands.{Said, and_then, say, slots_of, then_}
use Rattle.pisa_asm.specs.Printed.{instruction_text, operand_texts, target_text}
use Rattle.pisa_asm.specs.Statements.{Stated, Words, bare, command_named, directive_named, known, labelled_line, stated, words_in, words_with}
use Rattle.pisa_asm.specs.Sheets.{end_of_open, is_known, moved, pieces_of, text_end}
use Rattle.pisa_asm.specs.Passes.{◌>>=◌, CanBeHeld, Found, after_line, at_line, described, first_pass, image_with, in_place, is_second, laid_out, made_bytes, next, no_sheet, nothing_found, parts_in, read, resolved, second_pass, statement_on, text_in, words_on}
use Rattle.pisa_asm.specs.Rounds.{image_of_one, source_of_one}
use Rattle.text_lines.specs.LineLaws.{last_line, more_lines}
use Rattle.pisa_asm.proofs.RoundNames.{name_some}
use Rattle.pisa_asm.proofs.RoundNumbers.{hex_token, number_hex, number_small, plain}
use Rattle.pisa_asm.proofs.RoundTokens.{all_by, is_token_byte, joined, parted_here, parted_nowhere, piece_alone, token_lacks_comma, trim_same}
use Rattle.pisa_asm.proofs.RoundLines.{code_same, is_line_byte, line_all, line_allowed, line_back, line_no_colon, line_words, not_all_blank, read_back, said_with, slots_print, start_same, token_line, words_parted}

abbrev opening : ℕ → List ℕ
opening pc = codes ".text " ++ target_text pc

-- ---- the line that opens the text

opening_all : (pc : ℕ) → list_all is_line_byte (opening pc) ≡ true
opening_all pc = joined is_line_byte (codes ".text ") (target_text pc) refl (all_by is_token_byte is_line_byte (target_text pc) token_line (hex_token pc))

opening_words : (pc : ℕ) → words_on (opening pc) ≡ words_with None (codes ".text", 32 ∷ target_text pc)
opening_words pc =
    let all = opening_all pc in
    ap words_in (code_same (opening pc) all)
    ∙ ap (λ (t : List ℕ). labelled_line (parted 58 t) t) (start_same (codes ".text") (32 ∷ target_text pc) refl (lit< tt))
    ∙ ap (λ (o : Option (List ℕ × List ℕ)). labelled_line o (opening pc)) (parted_nowhere 58 (opening pc) (all_by is_line_byte (λ b. not (nat_eq b 58)) (opening pc) line_no_colon all))
    ∙ ap (words_with None) (words_parted (codes ".text") (target_text pc) refl)

text_named : command_named (codes ".text") ≡ Some (command.Open section.Text)
unfolding directive_named
text_named = refl

start_alone : (pc : ℕ) → operands_in (32 ∷ target_text pc) ≡ target_text pc ∷ []
start_alone pc =
    let text = target_text pc in
    let token = hex_token pc in
    ap (λ v. cond v [] (map trim (slice_split (λ b. nat_eq b 44) (32 ∷ text)))) (not_all_blank text [] token (lit< tt))
    ∙ ap (map trim) (piece_alone (32 ∷ text) (token_lacks_comma text token))
    ∙ ap (λ (t : List ℕ). t ∷ []) (trim_same text token)

start_limited : (pc : ℕ) → pc < 2 ^ 32 → limited_in 0 (2 ^ 32 - 1) (target_text pc) ≡ Ok (plain pc)
start_limited pc h =
    let fits : nat_le pc (2 ^ 32 - 1) ≡ true = grind (arith, nat_tests) in
    ap (limited 0 (2 ^ 32 - 1)) (number_hex pc h ∙ ap (λ (n : Number). Some n) (number_small false pc (omega arith)))
    ∙ ap (λ b. cond b (Ok (plain pc)) (Err why.Range)) fits

abbrev opened_said : ℕ → Said
opened_said pc = record { instr = bare op.Nop; number = pc; label = None }

abbrev opened : ℕ → Stated
opened pc = stated (command.Open section.Text) [] (opened_said pc)

opening_statement : (pc : ℕ) → pc < 2 ^ 32 → statement_on None (words_on (opening pc)) ≡ Ok (opened pc)
opening_statement pc h =
    let none = said_with (bare op.Nop) in
    let end = stated (command.Open section.Text) [] in
    ap (statement_on None) (opening_words pc)
    ∙ ap (λ (c : Option Command). known None c (32 ∷ target_text pc)) text_named
    ∙ ap (λ (ts : List (List ℕ)). then_ (say None (slot.Start ∷ []) ts none) end) (start_alone pc)
    ∙ ap (λ (r : Result Number TextWhy). then_ (and_then none (then_ r (λ n. record none { number = n.magnitude })) (say None [] [])) end) (start_limited pc h)

opening_read : (pc : ℕ) → pc < 2 ^ 32 → read no_sheet false false (opening pc) ≡ Ok (opened pc)
opening_read pc h =
    let line = opening pc in
    ap (λ v. cond v (cond (is_second (command_named (words_on line).name) no_sheet false) (Err why.Twice) (statement_on None (words_on line) >>= in_place (words_on line).label no_sheet)) (Err why.Char)) (all_by is_line_byte is_allowed line line_allowed (opening_all pc))
    ∙ ap (λ (w : Words). cond (is_second (command_named w.name) no_sheet false) (Err why.Twice) (statement_on None (words_on line) >>= in_place w.label no_sheet)) (opening_words pc)
    ∙ ap (λ (c : Option Command). cond (is_second c no_sheet false) (Err why.Twice) (statement_on None (words_on line) >>= in_place None no_sheet)) text_named
    ∙ ap (λ (r : Result Stated TextWhy). r >>= in_place None no_sheet) (opening_statement pc h)

-- ---- the two lines

no_newline_token : (b : ℕ) → is_token_byte b ≡ true → not (nat_eq b 10) ≡ true
no_newline_token b h = grind (arith, nat_tests)

no_newline : (b : ℕ) → is_line_byte b ≡ true → not (nat_eq b 10) ≡ true
no_newline b h = grind (arith, nat_tests)

two_lines : (i : Instr) (pc : ℕ) → IsWellFormed i → lines_of (source_of_one i pc) ≡ opening pc ∷ instruction_text i pc ∷ []
two_lines i pc w =
    let line = instruction_text i pc in
    let all = line_all pc i (bounds i w) (slots_print (operands_of i.op)) in
    let some : 0 < length line = omega (arith, name_some i.op, length-append (name_of i.op) (operand_texts 32 pc i (slots_of (operands_of i.op)))) in
    more_lines (source_of_one i pc) (opening pc, line) (parted_here 10 (opening pc) line (all_by is_line_byte (λ b. not (nat_eq b 10)) (opening pc) no_newline (opening_all pc)))
    ∙ ap (λ (ls : List (List ℕ)). opening pc ∷ ls) (last_line line some (parted_nowhere 10 line (all_by is_line_byte (λ b. not (nat_eq b 10)) line no_newline all)))

-- ---- the passes

abbrev sheet_with : ℕ → ℕ → List ℕ → Sheet
sheet_with pc count content = record { closed = []; current = Some (record { section = section.Text; start = pc; size = count; bytes = content }) }

abbrev found_with : ℕ → ℕ → Found
found_with pc count = record { sheet = sheet_with pc count []; labels = []; entry = None }

nothing_known : (l : Option (List ℕ)) → is_known [] l ≡ false
nothing_known None = refl
nothing_known (Some name) = refl

abbrev one : Instr → Stated
one i = stated (command.Instruction i.op) [] (said_with i)

begins : (pc : ℕ) → pc < 2 ^ 32 → text_end (sheet_with pc 0 []).current ≡ Some pc
begins pc h = let same : (pc + 0) % 2 ^ 32 ≡ pc = omega arith in ap (λ n. Some n) same

first_is : (i : Instr) (pc : ℕ) → pc < 2 ^ 32 → IsWellFormed i → is_float_op i.op ≡ false
    → first_pass 1 nothing_found (opening pc ∷ instruction_text i pc ∷ []) ≡ Ok (found_with pc 8)
first_is i pc h w nf =
    let line = instruction_text i pc in
    let b = bounds i w in
    ap (λ t. at_line 1 (read no_sheet false t (opening pc)) (λ st. first_pass 2 (after_line nothing_found (words_on (opening pc)).label st) (line ∷ []))) (nothing_known (words_on (opening pc)).label)
    ∙ ap (λ (r : Result Stated TextWhy). at_line 1 r (λ st. first_pass 2 (after_line nothing_found (words_on (opening pc)).label st) (line ∷ []))) (opening_read pc h)
    ∙ ap (λ (v : Words). first_pass 2 (after_line nothing_found v.label (opened pc)) (line ∷ [])) (opening_words pc)
    ∙ ap (λ t. at_line 2 (read (sheet_with pc 0 []) false t line) (λ st. first_pass 3 (after_line (found_with pc 0) (words_on line).label st) [])) (nothing_known (words_on line).label)
    ∙ ap (λ (r : Result Stated TextWhy). at_line 2 r (λ st. first_pass 3 (after_line (found_with pc 0) (words_on line).label st) [])) (read_back (sheet_with pc 0 []) false pc i (begins pc h) h w nf)
    ∙ ap (λ (v : Words). first_pass 3 (after_line (found_with pc 0) v.label (one i)) []) (line_words pc i b (slots_print (operands_of i.op)))

abbrev content_of : Bool → Instr → List ℕ
content_of make i = made_bytes make (said_with i) (one i)

second_is : (make : Bool) (i : Instr) (pc : ℕ) → pc < 2 ^ 32 → IsWellFormed i → is_float_op i.op ≡ false
    → second_pass make [] 1 no_sheet (opening pc ∷ instruction_text i pc ∷ []) ≡ Ok (sheet_with pc 8 (content_of make i))
second_is make i pc h w nf =
    let line = instruction_text i pc in
    let goes = λ (n : ℕ) (sheet : Sheet) (rest : List (List ℕ)) (r : Result Stated TextWhy). at_line n (r >>= λ st. resolved [] st.said.label st.command (end_of_open sheet.current) st.said >>= λ said. Ok (moved sheet st (made_bytes make said st) st.command)) (λ s. second_pass make [] (n + 1) s rest) in
    ap (goes 1 no_sheet (line ∷ [])) (opening_statement pc h)
    ∙ ap (λ (o : Option ℕ). goes 2 (sheet_with pc 0 []) [] (statement_on o (words_on line))) (begins pc h)
    ∙ ap (goes 2 (sheet_with pc 0 []) []) (line_back pc i h w nf)

-- the source of one instruction describes its image
pub described_back : (i : Instr) (pc : ℕ) → pc < 2 ^ 32 → IsWellFormed i → is_float_op i.op ≡ false → described (source_of_one i pc) ≡ Ok (image_of_one i pc)
unfolding described
described_back i pc h w nf =
    let lines = opening pc ∷ instruction_text i pc ∷ [] in
    ap (λ (ls : List (List ℕ)). next (first_pass 1 nothing_found ls) (λ found. next (second_pass false found.labels 1 no_sheet ls) (λ sheet. laid_out found ls))) (two_lines i pc w)
    ∙ ap (λ (r : Result Found AsmFault). next r (λ found. next (second_pass false found.labels 1 no_sheet lines) (λ sheet. laid_out found lines))) (first_is i pc h w nf)
    ∙ ap (λ (r : Result Sheet AsmFault). next r (λ sheet. laid_out (found_with pc 8) lines)) (second_is false i pc h w nf)
    ∙ ap (λ (r : Result Sheet AsmFault). next r (λ sheet. image_with (text_in (pieces_of sheet)) (parts_in (pieces_of sheet)) [] None)) (second_is true i pc h w nf)

-- an object can hold it
pub one_held : (i : Instr) (pc : ℕ) → pc % 8 ≡ 0 → pc ≤ 0x7feffff8 → CanBeHeld (image_of_one i pc)
one_held i pc h k = record {
  form = record {
    entry = omega arith;
    text = record { alignment = h; least_size = omega arith; greatest_size = omega arith; range = omega arith };
    count = omega arith;
    parts = tt;
  };
  short = omega arith;
}

pub one_back : (i : Instr) (pc : ℕ) → pc % 8 ≡ 0 → pc ≤ 0x7feffff8 → IsWellFormed i → is_float_op i.op ≡ false
    → (described (source_of_one i pc) ≡ Ok (image_of_one i pc)) × CanBeHeld (image_of_one i pc)
one_back i pc h k w nf = (described_back i pc (omega arith) w nf, one_held i pc h k)

-- and its words stand for the instruction
pub one_decoded : (i : Instr) → IsWellFormed i → decoded (number_of i.op) (second_word i % 2 ^ 32) ≡ Some i
one_decoded i w =
    let b = bounds i w in
    let whole : second_word i % 2 ^ 32 ≡ second_word i = omega (arith, b.rs, b.rt, b.rd, b.shamt, b.imm, b.target) in
    ap (decoded (number_of i.op)) whole ∙ codes_decoded (number_of i.op) (second_word i) i (word_codes i (number_of i.op) w refl)
