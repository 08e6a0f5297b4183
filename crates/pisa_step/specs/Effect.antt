-- What an instruction does: its changes, or the cause for which it stops.
use Rattle.std.specs.Prelude.{◌≡◌, ◌<◌, ℕ, ℤ, ◌+◌, ◌/◌, ◌%◌, ◌^◌, Bool, true, false, ◌==◌, List, [], ◌∷◌, ◌++◌, length, Option, Some, None, Result, Ok, Err, nat_eq, unwrap_or, if◌then◌else◌}
use Rattle.arrayvec.specs.ArrayVec.{ArrayVec}
use Rattle.pisa_isa.specs.declared.instr.Instr.{Instr}
use Rattle.pisa_isa.specs.Coding.{number_of}
use Rattle.pisa_isa.specs.Targets.{branch_target, jump_target}
use Rattle.pisa_step.specs.declared.action.Action.{Action}
use Rattle.pisa_step.specs.declared.action.Action.TheVariants as action
use Rattle.pisa_step.specs.declared.action.Link.{Link}
use Rattle.pisa_step.specs.declared.action.Link.TheVariants as link
use Rattle.pisa_step.specs.declared.action.Sign.{Sign}
use Rattle.pisa_step.specs.declared.action.Half.{Half}
use Rattle.pisa_step.specs.declared.action.Half.TheVariants as half
use Rattle.pisa_step.specs.declared.action.Address.TheVariants as address
use Rattle.pisa_step.specs.declared.action.Loaded.{Loaded}
use Rattle.pisa_step.specs.declared.action.Stored.{Stored}
use Rattle.pisa_step.specs.declared.action.Stored.TheVariants as stored
use Rattle.pisa_step.specs.declared.action.Side.{Side}
use Rattle.pisa_step.specs.declared.cause.Cause.{Cause}
use Rattle.pisa_step.specs.declared.cause.Cause.TheVariants as cause
use Rattle.pisa_step.specs.declared.changes.Changes.{Changes}
use Rattle.pisa_step.specs.declared.changes.MemWrite.{MemWrite}
use Rattle.pisa_step.specs.declared.changes.TextRange.{TextRange}
use Rattle.pisa_step.specs.Reader.{Reader, regs_after, with_bytes}
use Rattle.pisa_step.specs.Words.{word_sum, word_of, is_in_word}
use Rattle.pisa_step.specs.Actions.{action_of}
use Rattle.pisa_step.specs.Arithmetic.{alu_of, exact_of, product_of, quotient_of, remainder_of, first_of, second_of, target_of, is_taken}
use Rattle.pisa_step.specs.Memory.{address_of, loaded_of, loaded_size, stored_of, stored_size, word_at, part_loaded_at, part_stored, part_start, meets}

abbrev pub vec_of : {A : Type 0} → List A → ArrayVec A
vec_of xs = record { items = xs }

-- the next instruction follows, and nothing is written
abbrev pub going_on : ℕ → Changes
going_on pc = record {
  next = word_sum pc 8;
  taken = false;
  regs = vec_of [];
  hi = None;
  lo = None;
  mem = None;
  access = None;
}

-- the write of a register; register 0 isn't written
abbrev pub written : ℕ → ℕ → List (ℕ × ℕ)
written r value = if nat_eq r 0 then [] else (r, value) ∷ []

abbrev pub writes_reg : ℕ → ℕ → ℕ → Changes
writes_reg pc r value = record (going_on pc) { regs = vec_of (written r value) }

-- the return address of a jump that keeps it
abbrev pub linked : Link → ℕ → ℕ → List (ℕ × ℕ)
linked link.Absent r pc = []
linked link.Kept r pc = written r (word_sum pc 8)

abbrev pub jumps : ℕ → ℕ → List (ℕ × ℕ) → Changes
jumps pc next regs = record (going_on pc) { next = next; taken = true; regs = vec_of regs }

abbrev pub branches : Bool → ℕ → ℕ → Changes
branches true pc target = jumps pc target []
branches false pc target = going_on pc

-- a signed value that is a word is written, and for another it stops
abbrev pub exactly : ℤ → ℕ → ℕ → Result Changes Cause
exactly z pc r = if is_in_word z then Ok (writes_reg pc r (word_of z)) else Err cause.Overflow

-- HI and LO get values
abbrev pub writes_both : ℕ → ℕ → ℕ → Changes
writes_both pc hi lo = record (going_on pc) { hi = Some hi; lo = Some lo }

abbrev pub moves_from : Half → Reader → ℕ
moves_from half.High s = s.hi
moves_from half.Low s = s.lo

abbrev pub moves_to : Half → ℕ → ℕ → Changes
moves_to half.High pc value = record (going_on pc) { hi = Some value }
moves_to half.Low pc value = record (going_on pc) { lo = Some value }

-- an address that isn't a multiple of the size stops
abbrev pub aligned : ℕ → ℕ → Result Changes Cause → Result Changes Cause
aligned size a next = if a % size == 0 then next else Err (cause.Misaligned a)

-- a load's registers
abbrev pub loads : ℕ → ℕ → List (ℕ × ℕ) → Changes
loads pc a regs = record (going_on pc) { regs = vec_of regs; access = Some a }

-- a write of bytes, which stops where one of them lies in text
abbrev pub stores : TextRange → ℕ → ℕ → ℕ → List ℕ → Result Changes Cause
stores text pc a start content =
    if meets text start (length content) then Err (cause.TextWrite start) else
    Ok (record (going_on pc) { mem = Some (record { addr = start; bytes = vec_of content }); access = Some a })

abbrev pub load_at : Loaded → Reader → Instr → ℕ → ℕ → Result Changes Cause
load_at kind s i pc a = aligned (loaded_size kind) a (Ok (loads pc a (written i.rt (loaded_of kind s a))))

abbrev pub load_pair_at : Reader → Instr → ℕ → ℕ → Result Changes Cause
load_pair_at s i pc a =
    aligned 8 a (Ok (loads pc a (written i.rt (word_at s a) ++ written (i.rt + 1) (word_at s (a + 4)))))

abbrev pub load_part_at : Side → Reader → Instr → ℕ → ℕ → Changes
load_part_at side s i pc a =
    loads pc a (written i.rt (part_loaded_at side s a (s.regs i.rt)))

abbrev pub store_at : Stored → Reader → Instr → ℕ → TextRange → ℕ → Result Changes Cause
store_at kind s i pc text a = aligned (stored_size kind) a (stores text pc a a (stored_of kind s i.rt))

abbrev pub store_part_at : Side → Reader → Instr → ℕ → TextRange → ℕ → Result Changes Cause
store_part_at side s i pc text a =
    stores text pc a (part_start side s.big a) (part_stored side s.big (a % 4) (s.regs i.rt))

abbrev pub divides : Sign → ℕ → ℕ → ℕ → Result Changes Cause
divides sign pc a b =
    if b == 0 then Err cause.DivideByZero else
    Ok (writes_both pc (remainder_of sign a b) (quotient_of sign a b))

abbrev pub multiplies : Sign → ℕ → ℕ → ℕ → Changes
multiplies sign pc a b = writes_both pc (product_of sign a b / 2 ^ 32) (product_of sign a b % 2 ^ 32)

-- the register fields name registers
pub record AreRegisters (i : Instr) : Type 0 where
  pub rs : i.rs < 32
  pub rt : i.rt < 32
  pub rd : i.rd < 32

-- rt names two registers, its own and the next
abbrev pub TakesPair : Action → Type 0
TakesPair (action.LoadPair address) = Unit {0}
TakesPair (action.Store kind address) = kind ≡ stored.Pair
TakesPair _ = ⊥

-- what an action does
abbrev pub outcome_of : Action → Reader → Instr → ℕ → TextRange → Result Changes Cause
outcome_of action.Nothing s i pc text = Ok (going_on pc)
outcome_of action.Float s i pc text = Err (cause.FloatingPoint (number_of i.op))
outcome_of action.Break s i pc text = Err cause.Break
outcome_of (action.Jump link) s i pc text = Ok (jumps pc (jump_target pc i.target) (linked link 31 pc))
outcome_of (action.JumpRegister link) s i pc text = Ok (jumps pc (s.regs i.rs) (linked link i.rd pc))
outcome_of (action.Branch test) s i pc text =
    Ok (branches (is_taken test (s.regs i.rs) (s.regs i.rt)) pc (branch_target pc i.imm))
outcome_of (action.Compute f form) s i pc text =
    Ok (writes_reg pc (target_of form i) (alu_of f (first_of form s i) (second_of form s i)))
outcome_of (action.Exact f form) s i pc text =
    exactly (exact_of f (first_of form s i) (second_of form s i)) pc (target_of form i)
outcome_of (action.Multiply sign) s i pc text = Ok (multiplies sign pc (s.regs i.rs) (s.regs i.rt))
outcome_of (action.Divide sign) s i pc text = divides sign pc (s.regs i.rs) (s.regs i.rt)
outcome_of (action.MoveFrom half) s i pc text = Ok (writes_reg pc i.rd (moves_from half s))
outcome_of (action.MoveTo half) s i pc text = Ok (moves_to half pc (s.regs i.rs))
outcome_of (action.Load kind address) s i pc text = load_at kind s i pc (address_of address s i)
outcome_of (action.LoadPair address) s i pc text = load_pair_at s i pc (address_of address s i)
outcome_of (action.LoadPart side) s i pc text = Ok (load_part_at side s i pc (address_of address.Offset s i))
outcome_of (action.Store kind address) s i pc text = store_at kind s i pc text (address_of address s i)
outcome_of (action.StorePart side) s i pc text =
    store_part_at side s i pc text (address_of address.Offset s i)

-- what an instruction other than a system call does at an address: its changes, or the first cause
-- that holds of floating point, break, overflow or division by zero, misaligned, write to text
unfoldable pub effect_of : Reader → Instr → ℕ → TextRange → Result Changes Cause
effect_of s i pc text = outcome_of (action_of i.op) s i pc text

-- what is read after a write, if there is one
abbrev pub with_write : Reader → Option MemWrite → Reader
with_write s None = s
with_write s (Some w) = with_bytes s w.addr w.bytes.items

-- what is read after the changes of an instruction
abbrev pub changed : Reader → Changes → Reader
changed s e = record {
  regs = regs_after s.regs e.regs.items;
  hi = unwrap_or e.hi s.hi;
  lo = unwrap_or e.lo s.lo;
  bytes = (with_write s e.mem).bytes;
  big = s.big;
}
