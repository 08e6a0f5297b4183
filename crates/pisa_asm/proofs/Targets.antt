-- Fields lead to their targets.
use Rattle.std.proofs.Common.{◌≡◌, ◌+◌, ◌-◌, ◌/◌, ◌%◌, ◌^◌, ◌∙◌, ℕ, Bool, true, false, nat_eq, Some, refl, sym, ap}
use Rattle.std.proofs.lemmas.Bool.{eqb-true}
use Rattle.pisa_isa.specs.Targets.{branch_target, jump_target}
use Rattle.pisa_asm.specs.Operands.{branch_field, jump_field, where_it}

passes : (b : Bool) (value field : ℕ) → where_it b value ≡ Some field → (b ≡ true) × (value ≡ field)
passes true value field h = (refl, cc)
passes false value field h = absurd (cc)

leads : (reach : ℕ → ℕ) (value target field : ℕ) → where_it (nat_eq (reach value) target) value ≡ Some field → reach field ≡ target
leads reach value target field h =
    let p = passes (nat_eq (reach value) target) value field h in
    sym (ap reach p.1) ∙ eqb-true _ _ p.0

pub branch_leads : (pc target imm : ℕ) → branch_field pc target ≡ Some imm → branch_target pc imm ≡ target
branch_leads pc target imm h = leads (branch_target pc) ((target + 2 ^ 33 - (pc + 8)) / 4 % 2 ^ 16) target imm h

pub jump_leads : (pc target field : ℕ) → jump_field pc target ≡ Some field → jump_target pc field ≡ target
jump_leads pc target field h = leads (jump_target pc) (target / 4 % 2 ^ 26) target field h
