-- What an operand says that was printed for an instruction.
use Rattle.std.proofs.Common.{◌≡◌, ◌+◌, ◌-◌, ◌*◌, ◌/◌, ◌%◌, ◌^◌, ◌<◌, ◌≤◌, ◌∙◌, ◌++◌, ◌&&◌, ℕ, List, [], ◌∷◌, Bool, true, false, not, cond, nat_eq, nat_le, nat_lt, length, decimal, Option, Some, Result, Ok, Err, refl, sym, ap, subst, arith, lit≤, append_assoc, length-append}
use Rattle.std.proofs.lemmas.Bool.Decides.{nat_tests}
use Rattle.pisa_isa.specs.declared.instr.Instr.{Instr}
use Rattle.pisa_isa.specs.Fields.{highest_rt, last_rt, takes_pair}
use Rattle.pisa_isa.specs.Table.{row_of}
use Rattle.pisa_isa.specs.Targets.{branch_target, jump_target}
use Rattle.pisa_isa.specs.CodingLaws.{Bounds}
use Rattle.ss_base.specs.declared.text_fault.TextWhy.{TextWhy}
use Rattle.ss_base.specs.declared.text_fault.TextWhy.TheVariants as why
use Rattle.std.proofs.lemmas.Fmt.{decimal_nonempty}
use Rattle.pisa_asm.specs.declared.tokens.Number.{Number}
use Rattle.pisa_asm.specs.declared.slots.Slot.{Slot}
use Rattle.pisa_asm.specs.declared.slots.Slot.TheVariants as slot
use Rattle.text_lines.specs.Lines.{parted}
use Rattle.pisa_asm.specs.Letters.{closed}
use Rattle.pisa_asm.specs.Tokens.{limited, limited_in, number_in, register_in, residue}
use Rattle.pisa_asm.specs.Operands.{Said, addressed, aimed, based, both, branch_field, indexed, jump_field, reached, slot_says, summed, then_, where_it, with_imm, with_rd, with_rs, with_rt, with_shamt, with_target, within}
use Rattle.pisa_asm.specs.Printed.{register_text, signed_text, slot_text, target_text}
use Rattle.pisa_asm.proofs.RoundNumbers.{digits_all, hex_token, limited_printed, number_hex, number_negative, number_small, plain, register_printed}
use Rattle.pisa_asm.proofs.RoundTokens.{closed_here, digits_lack, digits_token, is_token, is_token_byte, joined, lacks, parted_here}

-- ---- targets

branch_by : (pc imm : ℕ) (low : Bool) → nat_lt imm (2 ^ 15) ≡ low → pc < 2 ^ 32 → imm < 2 ^ 16
    → (cond low ((pc + 8 + 4 * imm) % 2 ^ 32) ((pc + 8 + 4 * imm + (2 ^ 32 - 4 * 2 ^ 16)) % 2 ^ 32) + 2 ^ 33 - (pc + 8)) / 4 % 2 ^ 16 ≡ imm
branch_by pc imm true e h k = omega arith
branch_by pc imm false e h k = omega arith

same_number : (n : ℕ) → nat_eq n n ≡ true
same_number n = grind (arith, nat_tests)

-- a branch has one field for its target
pub branch_back : (pc imm : ℕ) → pc < 2 ^ 32 → imm < 2 ^ 16 → branch_field pc (branch_target pc imm) ≡ Some imm
branch_back pc imm h k =
    ap (λ f. where_it (nat_eq (branch_target pc f) (branch_target pc imm)) f) (branch_by pc imm (nat_lt imm (2 ^ 15)) refl h k)
    ∙ ap (λ b. where_it b imm) (same_number (branch_target pc imm))

pub jump_back : (pc field : ℕ) → field < 2 ^ 26 → jump_field pc (jump_target pc field) ≡ Some field
jump_back pc field h =
    let same : jump_target pc field / 4 % 2 ^ 26 ≡ field = omega arith in
    ap (λ f. where_it (nat_eq (jump_target pc f) (jump_target pc field)) f) same
    ∙ ap (λ b. where_it b field) (same_number (jump_target pc field))

branch_low : (pc imm : ℕ) (low : Bool) → cond low ((pc + 8 + 4 * imm) % 2 ^ 32) ((pc + 8 + 4 * imm + (2 ^ 32 - 4 * 2 ^ 16)) % 2 ^ 32) < 2 ^ 32
branch_low pc imm true = omega arith
branch_low pc imm false = omega arith

aimed_back : (pc target field : ℕ) (by : ℕ → ℕ → Option ℕ) (put : ℕ → Said) (said : Said) → target < 2 ^ 32 → by pc target ≡ Some field
    → aimed (number_in (target_text target)) (Some pc) by put said (target_text target) ≡ Ok (put field)
aimed_back pc target field by put said h e =
    let fits : nat_le target (2 ^ 32 - 1) ≡ true = grind (arith, nat_tests) in
    ap (λ (o : Option Number). aimed o (Some pc) by put said (target_text target)) (number_hex target h ∙ ap (λ (n : Number). Some n) (number_small false target (omega arith)))
    ∙ ap (λ b. cond b (reached (by pc target) put) (Err why.Range)) fits
    ∙ ap (λ (o : Option ℕ). reached o put) e

-- ---- numbers of 16 bits

signed_by : (imm : ℕ) (low : Bool) → nat_lt imm (2 ^ 15) ≡ low → imm < 2 ^ 16
    → (n : Number) × (limited_in 32768 32767 (cond low (decimal imm) (45 ∷ decimal (2 ^ 16 - imm))) ≡ Ok n) × (residue (2 ^ 16) n ≡ imm)
signed_by imm true e h =
    let small : imm ≤ 32767 = grind (arith, nat_tests) in
    (plain imm, limited_printed 32768 32767 imm small (omega arith), refl)
signed_by imm false e h =
    let large : 32768 ≤ imm = grind (arith, nat_tests) in
    let opposite : Number = record { negative = true; magnitude = 2 ^ 16 - imm } in
    let fits : nat_le (2 ^ 16 - imm) 32768 ≡ true = grind (arith, nat_tests) in
    let value : (2 ^ 16 - (2 ^ 16 - imm)) % 2 ^ 16 ≡ imm = omega arith in (
      opposite,
      ap (limited 32768 32767) (number_negative (2 ^ 16 - imm) (omega arith) ∙ ap (λ (n : Number). Some n) (number_small true (2 ^ 16 - imm) (omega arith))) ∙ ap (λ b. cond b (Ok opposite) (Err why.Range)) fits,
      value,
    )

signed_back : (imm : ℕ) → imm < 2 ^ 16 → (n : Number) × (limited_in 32768 32767 (signed_text imm) ≡ Ok n) × (residue (2 ^ 16) n ≡ imm)
signed_back imm h = signed_by imm (nat_lt imm (2 ^ 15)) refl h

-- ---- addresses

signed_lacks_by : (c imm : ℕ) (low : Bool) → c < 44 → imm < 2 ^ 16 → lacks c (cond low (decimal imm) (45 ∷ decimal (2 ^ 16 - imm))) ≡ true
signed_lacks_by c imm true h k = digits_lack c (decimal imm) (omega arith) (digits_all imm (omega arith))
signed_lacks_by c imm false h k =
    let rest = digits_lack c (decimal (2 ^ 16 - imm)) (omega arith) (digits_all (2 ^ 16 - imm) (omega arith)) in
    grind (arith, nat_tests)

pub signed_lacks : (c imm : ℕ) → c < 44 → imm < 2 ^ 16 → lacks c (signed_text imm) ≡ true
signed_lacks c imm h k = signed_lacks_by c imm (nat_lt imm (2 ^ 15)) h k

some_bytes : (imm : ℕ) (low : Bool) → imm < 2 ^ 16 → 0 < length (cond low (decimal imm) (45 ∷ decimal (2 ^ 16 - imm)))
some_bytes imm true h = decimal_nonempty imm (omega arith)
some_bytes imm false h = omega arith

token_by : (imm : ℕ) (low : Bool) → imm < 2 ^ 16 → is_token (cond low (decimal imm) (45 ∷ decimal (2 ^ 16 - imm))) ≡ true
token_by imm true h = digits_token (decimal imm) (digits_all imm (omega arith))
token_by imm false h = digits_token (decimal (2 ^ 16 - imm)) (digits_all (2 ^ 16 - imm) (omega arith))

signed_token : (imm : ℕ) → imm < 2 ^ 16 → is_token (signed_text imm) ≡ true
signed_token imm h = token_by imm (nat_lt imm (2 ^ 15)) h

register_token : (r : ℕ) → r < 2 ^ 64 → is_token (register_text r) ≡ true
register_token r h = digits_token (decimal r) (digits_all r h)

register_lacks : (c r : ℕ) → c < 48 → r < 2 ^ 64 → nat_eq 36 c ≡ false → lacks c (register_text r) ≡ true
register_lacks c r h k e = ap (λ b. not b && lacks c (decimal r)) e ∙ digits_lack c (decimal r) h (digits_all r k)

regroup : (a : List ℕ) (b : ℕ) (c d : List ℕ) → (a ++ (b ∷ c)) ++ d ≡ a ++ (b ∷ (c ++ d))
regroup a b c d = simp append_assoc

address_back : (imm rs : ℕ) (said : Said) → imm < 2 ^ 16 → rs ≤ 31 → addressed (parted 40 (signed_text imm ++ 40 ∷ register_text rs ++ 41 ∷ [])) said ≡ Ok (with_rs (with_imm said imm) rs)
address_back imm rs said h k =
    let text = signed_text imm in
    let back = signed_back imm h in
    let some : nat_eq (length text) 0 ≡ false = grind (arith, nat_tests, some_bytes imm (nat_lt imm (2 ^ 15)) h) in
    ap (λ (t : List ℕ). addressed (parted 40 t) said) (regroup text 40 (register_text rs) (41 ∷ []))
    ∙ ap (λ (o : Option (List ℕ × List ℕ)). addressed o said) (parted_here 40 text (register_text rs ++ 41 ∷ []) (signed_lacks 40 imm (omega arith) h))
    ∙ ap (λ b. cond b (Err why.Form) (based (closed (register_text rs ++ 41 ∷ [])) text said)) some
    ∙ ap (λ (o : Option (List ℕ)). based o text said) (closed_here (register_text rs))
    ∙ ap (λ (r : Result Number TextWhy). both r (register_in 31 (register_text rs)) (λ n register. with_rs (with_imm said (residue (2 ^ 16) n)) register)) back.1
    ∙ ap (λ (r : Result ℕ TextWhy). both (Ok back.0) r (λ n register. with_rs (with_imm said (residue (2 ^ 16) n)) register)) (register_printed 31 rs k (omega arith))
    ∙ ap (λ m. Ok (with_rs (with_imm said m) rs)) back.2

sum_back : (rs rd : ℕ) (said : Said) → rs ≤ 31 → rd ≤ 31 → summed (parted 40 (40 ∷ register_text rs ++ 43 ∷ register_text rd ++ 41 ∷ [])) said ≡ Ok (with_rd (with_rs said rs) rd)
sum_back rs rd said h k =
    let inner = register_text rs ++ 43 ∷ register_text rd in
    ap (λ (o : Option (List ℕ × List ℕ)). summed o said) (parted_here 40 [] (inner ++ 41 ∷ []) refl)
    ∙ ap (λ (o : Option (List ℕ)). within o said) (closed_here inner)
    ∙ ap (λ (o : Option (List ℕ × List ℕ)). indexed o said) (parted_here 43 (register_text rs) (register_text rd) (register_lacks 43 rs (omega arith) (omega arith) refl))
    ∙ ap (λ (r : Result ℕ TextWhy). both r (register_in 31 (register_text rd)) (λ base index. with_rd (with_rs said base) index)) (register_printed 31 rs h (omega arith))
    ∙ ap (λ (r : Result ℕ TextWhy). both (Ok rs) r (λ base index. with_rd (with_rs said base) index)) (register_printed 31 rd k (omega arith))

-- ---- every place

-- a place among an instruction's operands
abbrev pub prints : Slot → Bool
prints slot.Start = false
prints slot.Count = false
prints slot.Word = false
prints slot.Half = false
prints slot.Byte = false
prints slot.Name = false
prints _ = true

-- with what an instruction has at a place
abbrev pub with_slot : Instr → Slot → Said → Said
with_slot i slot.Rs said = with_rs said i.rs
with_slot i slot.Rt said = with_rt said i.rt
with_slot i slot.Rd said = with_rd said i.rd
with_slot i slot.Shift said = with_shamt said i.shamt
with_slot i slot.Signed said = with_imm said i.imm
with_slot i slot.Unsigned said = with_imm said i.imm
with_slot i slot.Branch said = with_imm said i.imm
with_slot i slot.Jump said = with_target said i.target
with_slot i slot.Address said = with_rs (with_imm said i.imm) i.rs
with_slot i slot.Sum said = with_rd (with_rs said i.rs) i.rd
with_slot i _ said = said

last_small : (pair : Bool) → last_rt pair ≤ 31
last_small true = lit≤ tt
last_small false = lit≤ tt

-- what is printed at a place says what the instruction has there
pub slot_back : (pc : ℕ) (i : Instr) (s : Slot) (said : Said) → pc < 2 ^ 32 → Bounds i → said.instr.op ≡ i.op → prints s ≡ true
    → slot_says (Some pc) s (slot_text pc i s) said ≡ Ok (with_slot i s said)
slot_back pc i slot.Rs said h b e p = ap (λ (r : Result ℕ TextWhy). then_ r (with_rs said)) (register_printed 31 i.rs b.rs (omega arith))
slot_back pc i slot.Rt said h b e p =
    let fits = subst (λ o. i.rt ≤ highest_rt o) (sym e) b.rt_highest in
    ap (λ (r : Result ℕ TextWhy). then_ r (with_rt said)) (register_printed (highest_rt said.instr.op) i.rt fits (last_small (takes_pair (row_of said.instr.op).kind)))
slot_back pc i slot.Rd said h b e p = ap (λ (r : Result ℕ TextWhy). then_ r (with_rd said)) (register_printed 31 i.rd b.rd (omega arith))
slot_back pc i slot.Shift said h b e p = ap (λ (r : Result Number TextWhy). then_ r (λ n. with_shamt said n.magnitude)) (limited_printed 0 31 i.shamt b.shamt (omega (arith, b.shamt)))
slot_back pc i slot.Signed said h b e p =
    let back = signed_back i.imm (omega (arith, b.imm)) in
    ap (λ (r : Result Number TextWhy). then_ r (λ n. with_imm said (residue (2 ^ 16) n))) back.1 ∙ ap (λ m. Ok (with_imm said m)) back.2
slot_back pc i slot.Unsigned said h b e p = ap (λ (r : Result Number TextWhy). then_ r (λ n. with_imm said (residue (2 ^ 16) n))) (limited_printed 0 65535 i.imm b.imm (omega (arith, b.imm)))
slot_back pc i slot.Branch said h b e p =
    aimed_back pc (branch_target pc i.imm) i.imm branch_field (with_imm said) said (branch_low pc i.imm (nat_lt i.imm (2 ^ 15))) (branch_back pc i.imm h (omega (arith, b.imm)))
slot_back pc i slot.Jump said h b e p =
    aimed_back pc (jump_target pc i.target) i.target jump_field (with_target said) said (omega (arith, b.target)) (jump_back pc i.target (omega (arith, b.target)))
slot_back pc i slot.Address said h b e p = address_back i.imm i.rs said (omega (arith, b.imm)) b.rs
slot_back pc i slot.Sum said h b e p = sum_back i.rs i.rd said b.rs b.rd
slot_back pc i _ said h b e p = absurd (cc)

-- it is a token
pub slot_token : (pc : ℕ) (i : Instr) (s : Slot) → Bounds i → prints s ≡ true → is_token (slot_text pc i s) ≡ true
slot_token pc i slot.Rs b p = register_token i.rs (omega (arith, b.rs))
slot_token pc i slot.Rt b p = register_token i.rt (omega (arith, b.rt))
slot_token pc i slot.Rd b p = register_token i.rd (omega (arith, b.rd))
slot_token pc i slot.Shift b p = digits_token (decimal i.shamt) (digits_all i.shamt (omega (arith, b.shamt)))
slot_token pc i slot.Signed b p = signed_token i.imm (omega (arith, b.imm))
slot_token pc i slot.Unsigned b p = digits_token (decimal i.imm) (digits_all i.imm (omega (arith, b.imm)))
slot_token pc i slot.Branch b p = hex_token (branch_target pc i.imm)
slot_token pc i slot.Jump b p = hex_token (jump_target pc i.target)
slot_token pc i slot.Address b p =
    joined is_token_byte (signed_text i.imm ++ 40 ∷ register_text i.rs) (41 ∷ []) (joined is_token_byte (signed_text i.imm) (40 ∷ register_text i.rs) (signed_token i.imm (omega (arith, b.imm))) (register_token i.rs (omega (arith, b.rs)))) refl
slot_token pc i slot.Sum b p =
    joined is_token_byte (register_text i.rs ++ 43 ∷ register_text i.rd) (41 ∷ []) (joined is_token_byte (register_text i.rs) (43 ∷ register_text i.rd) (register_token i.rs (omega (arith, b.rs))) (register_token i.rd (omega (arith, b.rd)))) refl
slot_token pc i _ b p = absurd (cc)

-- and not empty
pub slot_some : (pc : ℕ) (i : Instr) (s : Slot) → Bounds i → prints s ≡ true → 0 < length (slot_text pc i s)
slot_some pc i slot.Shift b p = decimal_nonempty i.shamt (omega (arith, b.shamt))
slot_some pc i slot.Signed b p = some_bytes i.imm (nat_lt i.imm (2 ^ 15)) (omega (arith, b.imm))
slot_some pc i slot.Unsigned b p = decimal_nonempty i.imm (omega (arith, b.imm))
slot_some pc i slot.Address b p =
    omega (arith, length-append (signed_text i.imm ++ 40 ∷ register_text i.rs) (41 ∷ []), length-append (signed_text i.imm) (40 ∷ register_text i.rs))
slot_some pc i slot.Start b p = absurd (cc)
slot_some pc i slot.Count b p = absurd (cc)
slot_some pc i slot.Word b p = absurd (cc)
slot_some pc i slot.Half b p = absurd (cc)
slot_some pc i slot.Byte b p = absurd (cc)
slot_some pc i slot.Name b p = absurd (cc)
slot_some pc i _ b p = omega arith
