-- What an instruction's effect depends on and what it changes, in terms of the columns of the
-- instruction table: its places, its access and its control.
use Rattle.std.specs.Prelude.{◌≡◌, ℕ, ◌+◌, ◌-◌, ◌%◌, ◌<◌, ◌≤◌, true, false, List, [], ◌∷◌, ◌++◌, All, Option, Some, None, IsSome, map, if◌then◌else◌}
use Rattle.pisa_isa.specs.declared.instr.Instr.{Instr}
use Rattle.pisa_isa.specs.declared.table.Operands.{Operands}
use Rattle.pisa_isa.specs.declared.table.Operands.TheVariants as form
use Rattle.pisa_isa.specs.declared.places.Place.{Place}
use Rattle.pisa_isa.specs.declared.places.Place.TheVariants as place
use Rattle.pisa_isa.specs.declared.classes.AccessKind.{AccessKind}
use Rattle.pisa_isa.specs.declared.classes.AccessKind.TheVariants as access
use Rattle.pisa_isa.specs.declared.classes.ControlKind.{ControlKind}
use Rattle.pisa_isa.specs.declared.classes.ControlKind.TheVariants as control
use Rattle.pisa_isa.specs.Classes.{operands_of}
use Rattle.pisa_isa.specs.Places.{reads_main_of, reads_second_of}
use Rattle.pisa_isa.specs.Targets.{branch_target, jump_target}
use Rattle.pisa_step.specs.declared.action.Action.{Action}
use Rattle.pisa_step.specs.declared.action.Action.TheVariants as action
use Rattle.pisa_step.specs.declared.action.Address.TheVariants as address
use Rattle.pisa_step.specs.declared.changes.Changes.{Changes}
use Rattle.pisa_step.specs.Reader.{Reader}
use Rattle.pisa_step.specs.Words.{word_sum}
use Rattle.pisa_step.specs.Actions.{action_of}
use Rattle.pisa_step.specs.Memory.{address_of, loaded_size}

-- what is read at a place
abbrev pub value_at : Reader → Place → ℕ
value_at s (place.Reg r) = s.regs r
value_at s place.Hi = s.hi
value_at s place.Lo = s.lo

-- the effective address of a load or store: the sum of two registers where the operands name two,
-- and else of a register and the signed immediate value
abbrev pub effective_address_by : Operands → Reader → Instr → ℕ
effective_address_by form.Indexed s i = address_of address.Indexed s i
effective_address_by form.RtIndexed s i = address_of address.Indexed s i
effective_address_by _ s i = address_of address.Offset s i

abbrev pub effective_address : Reader → Instr → ℕ
effective_address s i = effective_address_by (operands_of i.op) s i

-- the first byte of memory that is read where the effective address is a, and how many are read: a
-- part load reads the word that its address lies in
abbrev pub first_loaded : Action → ℕ → ℕ
first_loaded (action.LoadPart side) a = a - a % 4
first_loaded _ a = a

abbrev pub loaded_count : Action → ℕ
loaded_count (action.Load kind form) = loaded_size kind
loaded_count (action.LoadPair form) = 8
loaded_count (action.LoadPart side) = 4
loaded_count _ = 0

-- an instruction reads the byte of memory at this address
pub record IsLoaded (s : Reader) (i : Instr) (b : ℕ) : Type 0 where
  pub from : first_loaded (action_of i.op) (effective_address s i) ≤ b
  pub before : b < first_loaded (action_of i.op) (effective_address s i) + loaded_count (action_of i.op)

-- two readers agree on all that an instruction reads: on the places that the table lists, on register
-- 0, which is no place and always 0, on the bytes that it loads and on the byte order
pub record ReadTheSame (i : Instr) (s t : Reader) : Type 0 where
  pub zero : s.regs 0 ≡ t.regs 0
  pub main : All (λ p. value_at s p ≡ value_at t p) (reads_main_of i)
  pub second : All (λ p. value_at s p ≡ value_at t p) (reads_second_of i)
  pub bytes : (b : ℕ) → IsLoaded s i b → s.bytes b ≡ t.bytes b
  pub big : s.big ≡ t.big

-- the places that changes write: the registers in their order, then HI and LO
abbrev pub where_some : Option ℕ → Place → List Place
where_some None p = []
where_some (Some value) p = p ∷ []

abbrev pub written_places : Changes → List Place
written_places e =
    map (λ w. place.Reg w.0) e.regs.items ++ (where_some e.hi place.Hi ++ where_some e.lo place.Lo)

-- changes have the effective address of an access of this kind, and a write where it is a store
abbrev pub Accesses : AccessKind → ℕ → Changes → Type 0
Accesses access.Nothing a e = (e.access ≡ None) × (e.mem ≡ None)
Accesses access.Load a e = (e.access ≡ Some a) × (e.mem ≡ None)
Accesses access.Store a e = (e.access ≡ Some a) × IsSome e.mem

-- where a jump goes: to its target where the operands have one, and else to the address in rs
abbrev pub jumps_to : Operands → Reader → Instr → ℕ → ℕ
jumps_to form.Target s i pc = jump_target pc i.target
jumps_to _ s i pc = s.regs i.rs

-- changes go on behind the instruction; to the target of a branch, where it is taken; to where a
-- jump goes
abbrev pub GoesTo : ControlKind → ℕ → ℕ → ℕ → Changes → Type 0
GoesTo control.Nothing behind branch jump e = (e.taken ≡ false) × (e.next ≡ behind)
GoesTo control.Cond behind branch jump e = e.next ≡ (if e.taken then branch else behind)
GoesTo _ behind branch jump e = (e.taken ≡ true) × (e.next ≡ jump)

abbrev pub GoesOn : ControlKind → Reader → Instr → ℕ → Changes → Type 0
GoesOn kind s i pc e =
    GoesTo kind (word_sum pc 8) (branch_target pc i.imm) (jumps_to (operands_of i.op) s i pc) e
