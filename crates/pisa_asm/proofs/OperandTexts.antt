-- Operands that are printed one after the other.
use Rattle.std.proofs.Common.{◌≡◌, ◌+◌, ◌<◌, ◌++◌, ◌∙◌, ℕ, List, [], ◌∷◌, length, get_or, drop, refl, sym, ap, append_assoc, add-one, drop-cons}
use Rattle.pisa_isa.specs.declared.instr.Instr.{Instr}
use Rattle.pisa_asm.specs.declared.slots.Slot.{Slot}
use Rattle.pisa_asm.specs.Printed.{operand_texts, slot_text}

pub texts_step : (old mid new : List ℕ) (separator pc : ℕ) (i : Instr) (slots : List Slot) (k : ℕ) (d : Slot) (total : List ℕ) → k < length slots
    → mid ≡ old ++ separator ∷ [] → new ≡ mid ++ slot_text pc i (get_or slots k d)
    → old ++ operand_texts separator pc i (drop k slots) ≡ total → new ++ operand_texts 44 pc i (drop (k + 1) slots) ≡ total
texts_step old mid new separator pc i slots k d total h e f so_far =
    let others = operand_texts 44 pc i (drop (k + 1) slots) in
    let p : drop k slots ≡ get_or slots k d ∷ drop (k + 1) slots = rw (add-one, drop-cons slots k d) refl in
    ap (λ (xs : List ℕ). xs ++ others) (f ∙ ap (λ (xs : List ℕ). xs ++ slot_text pc i (get_or slots k d)) e)
    ∙ regroup old separator (slot_text pc i (get_or slots k d)) others
    ∙ sym (ap (λ (ss : List Slot). old ++ operand_texts separator pc i ss) p) ∙ so_far
  where
    regroup : (a : List ℕ) (b : ℕ) (c d : List ℕ) → ((a ++ b ∷ []) ++ c) ++ d ≡ a ++ (b ∷ (c ++ d))
    regroup a b c d = simp append_assoc
