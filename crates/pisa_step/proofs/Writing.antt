-- An instruction writes the places of the table, and all others stay.
use Rattle.std.proofs.Common.{◌≡◌, ◌+◌, ℕ, Bool, true, false, not, List, [], ◌∷◌, ◌++◌, map, filter, Option, Some, None, Ok, IfOk, refl, sym, ap, subst, arith, nat_eq, unwrap_or, ◌∙◌, if◌then◌else◌}
use Rattle.std.specs.List.{Contains}
use Rattle.std.proofs.lemmas.Bool.{eqb-true}
use Rattle.std.proofs.lemmas.List.{append-nil, append_assoc}
use Rattle.std.proofs.lemmas.List.Elements.{Contains-append_left, Contains-append_right}
use Rattle.pisa_isa.specs.declared.instr.Instr.{Instr}
use Rattle.pisa_isa.specs.declared.places.Place.{Place}
use Rattle.pisa_isa.specs.declared.places.Place.TheVariants as place
use Rattle.pisa_isa.specs.Table.{row_of}
use Rattle.pisa_isa.specs.Fields.{fields_of}
use Rattle.pisa_isa.specs.Targets.{branch_target}
use Rattle.pisa_isa.specs.Places.{destination, first_operand, is_register, members, registers, writes_of}
use Rattle.pisa_step.specs.declared.action.Action.{Action}
use Rattle.pisa_step.specs.declared.action.Action.TheVariants as action
use Rattle.pisa_step.specs.declared.action.Alu.{Alu}
use Rattle.pisa_step.specs.declared.action.Alu.TheVariants as alu
use Rattle.pisa_step.specs.declared.action.Form.{Form}
use Rattle.pisa_step.specs.declared.action.Form.TheVariants as form
use Rattle.pisa_step.specs.declared.action.Link.TheVariants as link
use Rattle.pisa_step.specs.declared.action.Half.TheVariants as half
use Rattle.pisa_step.specs.declared.action.Address.{Address}
use Rattle.pisa_step.specs.declared.action.Address.TheVariants as address
use Rattle.pisa_step.specs.declared.action.Stored.{Stored}
use Rattle.pisa_step.specs.declared.action.Stored.TheVariants as stored
use Rattle.pisa_step.specs.declared.changes.Changes.{Changes}
use Rattle.pisa_step.specs.declared.changes.TextRange.{TextRange}
use Rattle.pisa_step.specs.Reader.{Reader, regs_after, regs_with}
use Rattle.pisa_step.specs.Words.{word_of, word_sum}
use Rattle.pisa_step.specs.Arithmetic.{alu_of, exact_of, first_of, second_of, target_of, is_taken}
use Rattle.pisa_step.specs.Memory.{address_of, loaded_of, part_loaded_at, word_at}
use Rattle.pisa_step.specs.Effect.{changed, effect_of, outcome_of, written}
use Rattle.pisa_step.specs.Actions.{action_of}
use Rattle.pisa_step.specs.Dependence.{value_at, where_some, written_places}
use Rattle.pisa_step.proofs.Columns.{form_shape, kind_for, kind_is, shape_is, shape_of, unsigned_shape}
use Rattle.pisa_step.proofs.Ways.{branches_any, divides_any, exactly_any, load_any, load_pair_any, settle, store_any, store_part_any}

-- ---- the places of a write

abbrev named : List (ℕ × ℕ) → List Place
named ws = map (λ w. place.Reg w.0) ws ++ []

one_if : (r v : ℕ) (zero : Bool) → named (if zero then [] else (r, v) ∷ []) ≡ (if zero then [] else place.Reg r ∷ [])
one_if r v true = refl
one_if r v false = refl

one_named : (r v : ℕ) → named (written r v) ≡ registers (r ∷ [])
one_named r v = one_if r v (nat_eq r 0)

pair_if : (r v w : ℕ) (zero next same : Bool) → nat_eq (r + 1) 0 ≡ next → nat_eq (r + 1) r ≡ same
    → named ((if zero then [] else (r, v) ∷ []) ++ (if next then [] else (r + 1, w) ∷ []))
    ≡ (if zero then (if next then [] else place.Reg (r + 1) ∷ [])
    else place.Reg r ∷ filter (λ p. not (is_register r p)) (if next then [] else place.Reg (r + 1) ∷ []))
pair_if r v w zero true same next-is same-is = absurd (omega (arith, eqb-true (r + 1) 0 next-is))
pair_if r v w true false same next-is same-is = refl
pair_if r v w false false true next-is same-is = absurd (omega (arith, eqb-true (r + 1) r same-is))
pair_if r v w false false false next-is same-is =
    subst (λ b. place.Reg r ∷ place.Reg (r + 1) ∷ [] ≡ place.Reg r ∷ (if not b then place.Reg (r + 1) ∷ [] else [])) (sym same-is) refl

pair_named : (r v w : ℕ) → named (written r v ++ written (r + 1) w) ≡ registers (r ∷ (r + 1) ∷ [])
pair_named r v w = pair_if r v w (nat_eq r 0) (nat_eq (r + 1) 0) (nat_eq (r + 1) r) refl refl

-- ---- the changes of an action

unsigned_rd : (f : Alu) → (fields_of (unsigned_shape f)).rd ≡ false
unsigned_rd alu.Upper = refl
unsigned_rd _ = refl

value_listed : (f : Alu) (at : Form) (i : Instr) (v : ℕ)
    → named (written (target_of at i) v) ≡ members i (first_operand (fields_of (form_shape f at)).rd)
value_listed f form.Registers i v = one_named i.rd v
value_listed f form.Signed i v = one_named i.rt v
value_listed f form.Unsigned i v = one_named i.rt v ∙ ap (λ b. members i (first_operand b)) (sym (unsigned_rd f))
value_listed f form.Shift i v = one_named i.rd v
value_listed f form.ShiftRegister i v = one_named i.rd v

abbrev Lists : Action → Instr → Changes → Type 0
Lists does i e = written_places e ≡ members i (destination (kind_for does) (fields_of (shape_of does)).rd)

store_lists : (size : Stored) (at : Address) (s : Reader) (i : Instr) (pc : ℕ) (text : TextRange)
    → IfOk (outcome_of (action.Store size at) s i pc text) (Lists (action.Store size at) i)
store_lists stored.Zero at s i pc text = store_any (Lists (action.Store stored.Zero at) i) stored.Zero s i pc text (address_of at s i) refl
store_lists stored.Byte at s i pc text = store_any (Lists (action.Store stored.Byte at) i) stored.Byte s i pc text (address_of at s i) refl
store_lists stored.Half at s i pc text = store_any (Lists (action.Store stored.Half at) i) stored.Half s i pc text (address_of at s i) refl
store_lists stored.Word at s i pc text = store_any (Lists (action.Store stored.Word at) i) stored.Word s i pc text (address_of at s i) refl
store_lists stored.Pair at s i pc text = store_any (Lists (action.Store stored.Pair at) i) stored.Pair s i pc text (address_of at s i) refl

lists : (does : Action) (s : Reader) (i : Instr) (pc : ℕ) (text : TextRange) → IfOk (outcome_of does s i pc text) (Lists does i)
lists action.Nothing s i pc text = refl
lists action.Float s i pc text = tt
lists action.Break s i pc text = tt
lists (action.Jump link.Absent) s i pc text = refl
lists (action.Jump link.Kept) s i pc text = refl
lists (action.JumpRegister link.Absent) s i pc text = refl
lists (action.JumpRegister link.Kept) s i pc text = one_named i.rd (word_sum pc 8)
lists (action.Branch test) s i pc text =
    branches_any (Lists (action.Branch test) i) (is_taken test (s.regs i.rs) (s.regs i.rt)) pc (branch_target pc i.imm) refl refl
lists (action.Compute f at) s i pc text = value_listed f at i (alu_of f (first_of at s i) (second_of at s i))
lists (action.Exact f at) s i pc text =
    let z = exact_of f (first_of at s i) (second_of at s i) in
    exactly_any (Lists (action.Exact f at) i) z pc (target_of at i) (value_listed alu.Add at i (word_of z))
lists (action.Multiply sign) s i pc text = refl
lists (action.Divide sign) s i pc text = divides_any (Lists (action.Divide sign) i) sign pc (s.regs i.rs) (s.regs i.rt) refl
lists (action.MoveFrom half.High) s i pc text = one_named i.rd s.hi
lists (action.MoveFrom half.Low) s i pc text = one_named i.rd s.lo
lists (action.MoveTo half.High) s i pc text = refl
lists (action.MoveTo half.Low) s i pc text = refl
lists (action.Load size at) s i pc text =
    load_any (Lists (action.Load size at) i) size s i pc (address_of at s i) (one_named i.rt (loaded_of size s (address_of at s i)))
lists (action.LoadPair at) s i pc text =
    load_pair_any (Lists (action.LoadPair at) i) s i pc (address_of at s i)
    (pair_named i.rt (word_at s (address_of at s i)) (word_at s (address_of at s i + 4)))
lists (action.LoadPart side) s i pc text = one_named i.rt (part_loaded_at side s (address_of address.Offset s i) (s.regs i.rt))
lists (action.Store size at) s i pc text = store_lists size at s i pc text
lists (action.StorePart side) s i pc text = store_part_any (Lists (action.StorePart side) i) side s i pc text (address_of address.Offset s i) refl

pub as_listed : (s : Reader) (i : Instr) (pc : ℕ) (text : TextRange) (e : Changes) → effect_of s i pc text ≡ Ok e
    → written_places e ≡ writes_of i
unfolding effect_of
as_listed s i pc text e is =
    subst (λ k. written_places e ≡ members i (destination k (fields_of (row_of i.op).operands).rd)) (sym (kind_is i.op))
    (subst (λ o. written_places e ≡ members i (destination (kind_for (action_of i.op)) (fields_of o).rd)) (sym (shape_is i.op))
    (settle (Lists (action_of i.op) i) (outcome_of (action_of i.op) s i pc text) e is (lists (action_of i.op) s i pc text)))

-- ---- all other places

first_is_there : (p : Place) (ps : List Place) → Contains (p ∷ ps) p
first_is_there p ps = Contains-append_left (p ∷ []) ps p (0, omega arith, refl)

some_stays : (value : Option ℕ) (old : ℕ) (p : Place) (before after : List Place)
    → (Contains (before ++ (where_some value p ++ after)) p → ⊥) → unwrap_or value old ≡ old
some_stays None old p before after absent = refl
some_stays (Some v) old p before after absent =
    absurd (absent (Contains-append_right before (p ∷ after) p (first_is_there p after)))

regs_with_stays : (regs : ℕ → ℕ) (r v q : ℕ) (zero same : Bool) → nat_eq q r ≡ same → (q ≡ r → ⊥)
    → (if zero then regs q else if same then v else regs q) ≡ regs q
regs_with_stays regs r v q true same is differs = refl
regs_with_stays regs r v q false true is differs = absurd (differs (eqb-true q r is))
regs_with_stays regs r v q false false is differs = refl

regs_stay : (regs : ℕ → ℕ) (ws : List (ℕ × ℕ)) (rest : List Place) (q : ℕ)
    → (Contains (map (λ w. place.Reg w.0) ws ++ rest) (place.Reg q) → ⊥) → regs_after regs ws q ≡ regs q
regs_stay regs [] rest q absent = refl
regs_stay regs (w ∷ ws) rest q absent =
    regs_stay (regs_with regs w.0 w.1) ws rest q
    (λ there. absent (Contains-append_right (place.Reg w.0 ∷ []) (map (λ x. place.Reg x.0) ws ++ rest) (place.Reg q) there))
    ∙ regs_with_stays regs w.0 w.1 q (nat_eq w.0 0) (nat_eq q w.0) refl
    (λ same. absent (subst (λ r. Contains (place.Reg r ∷ map (λ x. place.Reg x.0) ws ++ rest) (place.Reg q)) same
    (first_is_there (place.Reg q) (map (λ x. place.Reg x.0) ws ++ rest))))

lo_last : (a b c : List Place) → (a ++ b) ++ (c ++ []) ≡ a ++ (b ++ c)
lo_last a b c = ap (λ d. (a ++ b) ++ d) (append-nil c) ∙ append_assoc a b c

stays : (s : Reader) (e : Changes) (p : Place) → (Contains (written_places e) p → ⊥) → value_at (changed s e) p ≡ value_at s p
stays s e (place.Reg q) absent = regs_stay s.regs e.regs.items (where_some e.hi place.Hi ++ where_some e.lo place.Lo) q absent
stays s e place.Hi absent =
    some_stays e.hi s.hi place.Hi (map (λ w. place.Reg w.0) e.regs.items) (where_some e.lo place.Lo) absent
stays s e place.Lo absent =
    some_stays e.lo s.lo place.Lo (map (λ w. place.Reg w.0) e.regs.items ++ where_some e.hi place.Hi) []
    (λ there. absent (subst (λ ps. Contains ps place.Lo) (lo_last (map (λ w. place.Reg w.0) e.regs.items) (where_some e.hi place.Hi) (where_some e.lo place.Lo)) there))

pub others_stay : (s : Reader) (i : Instr) (pc : ℕ) (text : TextRange) (e : Changes) (p : Place) → effect_of s i pc text ≡ Ok e
    → (Contains (writes_of i) p → ⊥) → value_at (changed s e) p ≡ value_at s p
others_stay s i pc text e p is absent =
    stays s e p (λ there. absent (subst (λ ps. Contains ps p) (as_listed s i pc text e is) there))
