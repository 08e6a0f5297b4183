-- The access of an instruction is the one of the table, and it goes on as its control says.
use Rattle.std.proofs.Common.{◌≡◌, ℕ, Bool, true, false, [], Ok, IfOk, refl, sym, subst, nat_eq, if◌then◌else◌, ap, ◌∙◌}
use Rattle.pisa_isa.specs.declared.instr.Instr.{Instr}
use Rattle.pisa_isa.specs.declared.instr.Op.{Op}
use Rattle.pisa_isa.specs.declared.classes.AccessKind.TheVariants as access
use Rattle.pisa_isa.specs.declared.classes.ControlKind.TheVariants as control
use Rattle.pisa_isa.specs.Classes.{access_by, access_of, control_by, control_of}
use Rattle.pisa_isa.specs.Targets.{branch_target}
use Rattle.pisa_step.specs.declared.action.Action.{Action}
use Rattle.pisa_step.specs.declared.action.Action.TheVariants as action
use Rattle.pisa_step.specs.declared.action.Link.TheVariants as link
use Rattle.pisa_step.specs.declared.action.Half.TheVariants as half
use Rattle.pisa_step.specs.declared.action.Address.{Address}
use Rattle.pisa_step.specs.declared.action.Address.TheVariants as address
use Rattle.pisa_step.specs.declared.action.Stored.{Stored}
use Rattle.pisa_step.specs.declared.action.Stored.TheVariants as stored
use Rattle.pisa_step.specs.declared.changes.Changes.{Changes}
use Rattle.pisa_step.specs.declared.changes.TextRange.{TextRange}
use Rattle.pisa_step.specs.Reader.{Reader}
use Rattle.pisa_step.specs.Words.{word_sum}
use Rattle.pisa_step.specs.Arithmetic.{exact_of, first_of, second_of, target_of, is_taken}
use Rattle.pisa_step.specs.Memory.{address_of}
use Rattle.pisa_step.specs.Effect.{effect_of, jumps, outcome_of}
use Rattle.pisa_step.specs.Actions.{action_of}
use Rattle.pisa_step.specs.Dependence.{Accesses, GoesOn, GoesTo, effective_address, effective_address_by, jumps_to, loaded_count}
use Rattle.pisa_step.proofs.Columns.{kind_for, kind_is, shape_is, shape_of}
use Rattle.pisa_step.proofs.Ways.{branches_any, divides_any, exactly_any, load_any, load_pair_any, settle, store_any, store_part_any}

-- ---- the access

abbrev Fits : Action → Reader → Instr → Changes → Type 0
Fits does s i e = Accesses (access_by (kind_for does)) (effective_address_by (shape_of does) s i) e

store_fits : (size : Stored) (at : Address) (s : Reader) (i : Instr) (pc : ℕ) (text : TextRange)
    → IfOk (outcome_of (action.Store size at) s i pc text) (Fits (action.Store size at) s i)
store_fits stored.Zero address.Offset s i pc text = store_any (Fits (action.Store stored.Zero address.Offset) s i) stored.Zero s i pc text (address_of address.Offset s i) (refl, refl)
store_fits stored.Zero address.Indexed s i pc text = store_any (Fits (action.Store stored.Zero address.Indexed) s i) stored.Zero s i pc text (address_of address.Indexed s i) (refl, refl)
store_fits stored.Byte address.Offset s i pc text = store_any (Fits (action.Store stored.Byte address.Offset) s i) stored.Byte s i pc text (address_of address.Offset s i) (refl, refl)
store_fits stored.Byte address.Indexed s i pc text = store_any (Fits (action.Store stored.Byte address.Indexed) s i) stored.Byte s i pc text (address_of address.Indexed s i) (refl, refl)
store_fits stored.Half address.Offset s i pc text = store_any (Fits (action.Store stored.Half address.Offset) s i) stored.Half s i pc text (address_of address.Offset s i) (refl, refl)
store_fits stored.Half address.Indexed s i pc text = store_any (Fits (action.Store stored.Half address.Indexed) s i) stored.Half s i pc text (address_of address.Indexed s i) (refl, refl)
store_fits stored.Word address.Offset s i pc text = store_any (Fits (action.Store stored.Word address.Offset) s i) stored.Word s i pc text (address_of address.Offset s i) (refl, refl)
store_fits stored.Word address.Indexed s i pc text = store_any (Fits (action.Store stored.Word address.Indexed) s i) stored.Word s i pc text (address_of address.Indexed s i) (refl, refl)
store_fits stored.Pair address.Offset s i pc text = store_any (Fits (action.Store stored.Pair address.Offset) s i) stored.Pair s i pc text (address_of address.Offset s i) (refl, refl)
store_fits stored.Pair address.Indexed s i pc text = store_any (Fits (action.Store stored.Pair address.Indexed) s i) stored.Pair s i pc text (address_of address.Indexed s i) (refl, refl)

fits : (does : Action) (s : Reader) (i : Instr) (pc : ℕ) (text : TextRange) → IfOk (outcome_of does s i pc text) (Fits does s i)
fits action.Nothing s i pc text = (refl, refl)
fits action.Float s i pc text = tt
fits action.Break s i pc text = tt
fits (action.Jump link.Absent) s i pc text = (refl, refl)
fits (action.Jump link.Kept) s i pc text = (refl, refl)
fits (action.JumpRegister link.Absent) s i pc text = (refl, refl)
fits (action.JumpRegister link.Kept) s i pc text = (refl, refl)
fits (action.Branch test) s i pc text =
    branches_any (Fits (action.Branch test) s i) (is_taken test (s.regs i.rs) (s.regs i.rt)) pc (branch_target pc i.imm) (refl, refl) (refl, refl)
fits (action.Compute f form) s i pc text = (refl, refl)
fits (action.Exact f form) s i pc text =
    exactly_any (Fits (action.Exact f form) s i) (exact_of f (first_of form s i) (second_of form s i)) pc (target_of form i) (refl, refl)
fits (action.Multiply sign) s i pc text = (refl, refl)
fits (action.Divide sign) s i pc text = divides_any (Fits (action.Divide sign) s i) sign pc (s.regs i.rs) (s.regs i.rt) (refl, refl)
fits (action.MoveFrom half.High) s i pc text = (refl, refl)
fits (action.MoveFrom half.Low) s i pc text = (refl, refl)
fits (action.MoveTo half.High) s i pc text = (refl, refl)
fits (action.MoveTo half.Low) s i pc text = (refl, refl)
fits (action.Load size address.Offset) s i pc text = load_any (Fits (action.Load size address.Offset) s i) size s i pc (address_of address.Offset s i) (refl, refl)
fits (action.Load size address.Indexed) s i pc text = load_any (Fits (action.Load size address.Indexed) s i) size s i pc (address_of address.Indexed s i) (refl, refl)
fits (action.LoadPair address.Offset) s i pc text = load_pair_any (Fits (action.LoadPair address.Offset) s i) s i pc (address_of address.Offset s i) (refl, refl)
fits (action.LoadPair address.Indexed) s i pc text = load_pair_any (Fits (action.LoadPair address.Indexed) s i) s i pc (address_of address.Indexed s i) (refl, refl)
fits (action.LoadPart side) s i pc text = (refl, refl)
fits (action.Store size at) s i pc text = store_fits size at s i pc text
fits (action.StorePart side) s i pc text = store_part_any (Fits (action.StorePart side) s i) side s i pc text (address_of address.Offset s i) (refl, refl)

pub accesses : (s : Reader) (i : Instr) (pc : ℕ) (text : TextRange) (e : Changes) → effect_of s i pc text ≡ Ok e
    → Accesses (access_of i.op) (effective_address s i) e
unfolding effect_of
accesses s i pc text e is =
    subst (λ k. Accesses (access_by k) (effective_address s i) e) (sym (kind_is i.op))
    (subst (λ o. Accesses (access_by (kind_for (action_of i.op))) (effective_address_by o s i) e) (sym (shape_is i.op))
    (settle (Fits (action_of i.op) s i) (outcome_of (action_of i.op) s i pc text) e is (fits (action_of i.op) s i pc text)))

nothing_loaded_by : (does : Action) → (access_by (kind_for does) ≡ access.Load → ⊥) → loaded_count does ≡ 0
nothing_loaded_by (action.Load size at) other = absurd (other refl)
nothing_loaded_by (action.LoadPair at) other = absurd (other refl)
nothing_loaded_by (action.LoadPart side) other = absurd (other refl)
nothing_loaded_by _ other = refl

pub nothing_loaded : (o : Op) → (access_of o ≡ access.Load → ⊥) → loaded_count (action_of o) ≡ 0
nothing_loaded o other = nothing_loaded_by (action_of o) (λ is. other (ap access_by (kind_is o) ∙ is))

-- ---- the control

abbrev Goes : Action → Reader → Instr → ℕ → Changes → Type 0
Goes does s i pc e = GoesTo (control_by (kind_for does) i.rs) (word_sum pc 8) (branch_target pc i.imm) (jumps_to (shape_of does) s i pc) e

back : (test : Bool) (behind branch jump : ℕ) (e : Changes) → e.taken ≡ true → e.next ≡ jump
    → GoesTo (if test then control.Return else control.Jump) behind branch jump e
back true behind branch jump e taken next = (taken, next)
back false behind branch jump e taken next = (taken, next)

store_goes : (size : Stored) (at : Address) (s : Reader) (i : Instr) (pc : ℕ) (text : TextRange)
    → IfOk (outcome_of (action.Store size at) s i pc text) (Goes (action.Store size at) s i pc)
store_goes stored.Zero at s i pc text = store_any (Goes (action.Store stored.Zero at) s i pc) stored.Zero s i pc text (address_of at s i) (refl, refl)
store_goes stored.Byte at s i pc text = store_any (Goes (action.Store stored.Byte at) s i pc) stored.Byte s i pc text (address_of at s i) (refl, refl)
store_goes stored.Half at s i pc text = store_any (Goes (action.Store stored.Half at) s i pc) stored.Half s i pc text (address_of at s i) (refl, refl)
store_goes stored.Word at s i pc text = store_any (Goes (action.Store stored.Word at) s i pc) stored.Word s i pc text (address_of at s i) (refl, refl)
store_goes stored.Pair at s i pc text = store_any (Goes (action.Store stored.Pair at) s i pc) stored.Pair s i pc text (address_of at s i) (refl, refl)

goes : (does : Action) (s : Reader) (i : Instr) (pc : ℕ) (text : TextRange) → IfOk (outcome_of does s i pc text) (Goes does s i pc)
goes action.Nothing s i pc text = (refl, refl)
goes action.Float s i pc text = tt
goes action.Break s i pc text = tt
goes (action.Jump link.Absent) s i pc text = (refl, refl)
goes (action.Jump link.Kept) s i pc text = (refl, refl)
goes (action.JumpRegister link.Absent) s i pc text = back (nat_eq i.rs 31) (word_sum pc 8) (branch_target pc i.imm) (s.regs i.rs) (jumps pc (s.regs i.rs) []) refl refl
goes (action.JumpRegister link.Kept) s i pc text = (refl, refl)
goes (action.Branch test) s i pc text =
    branches_any (Goes (action.Branch test) s i pc) (is_taken test (s.regs i.rs) (s.regs i.rt)) pc (branch_target pc i.imm) refl refl
goes (action.Compute f form) s i pc text = (refl, refl)
goes (action.Exact f form) s i pc text =
    exactly_any (Goes (action.Exact f form) s i pc) (exact_of f (first_of form s i) (second_of form s i)) pc (target_of form i) (refl, refl)
goes (action.Multiply sign) s i pc text = (refl, refl)
goes (action.Divide sign) s i pc text = divides_any (Goes (action.Divide sign) s i pc) sign pc (s.regs i.rs) (s.regs i.rt) (refl, refl)
goes (action.MoveFrom half.High) s i pc text = (refl, refl)
goes (action.MoveFrom half.Low) s i pc text = (refl, refl)
goes (action.MoveTo half.High) s i pc text = (refl, refl)
goes (action.MoveTo half.Low) s i pc text = (refl, refl)
goes (action.Load size at) s i pc text = load_any (Goes (action.Load size at) s i pc) size s i pc (address_of at s i) (refl, refl)
goes (action.LoadPair at) s i pc text = load_pair_any (Goes (action.LoadPair at) s i pc) s i pc (address_of at s i) (refl, refl)
goes (action.LoadPart side) s i pc text = (refl, refl)
goes (action.Store size at) s i pc text = store_goes size at s i pc text
goes (action.StorePart side) s i pc text = store_part_any (Goes (action.StorePart side) s i pc) side s i pc text (address_of address.Offset s i) (refl, refl)

pub goes_on : (s : Reader) (i : Instr) (pc : ℕ) (text : TextRange) (e : Changes) → effect_of s i pc text ≡ Ok e
    → GoesOn (control_of i) s i pc e
unfolding effect_of
goes_on s i pc text e is =
    subst (λ k. GoesOn (control_by k i.rs) s i pc e) (sym (kind_is i.op))
    (subst (λ o. GoesTo (control_by (kind_for (action_of i.op)) i.rs) (word_sum pc 8) (branch_target pc i.imm) (jumps_to o s i pc) e) (sym (shape_is i.op))
    (settle (Goes (action_of i.op) s i pc) (outcome_of (action_of i.op) s i pc text) e is (goes (action_of i.op) s i pc text)))
