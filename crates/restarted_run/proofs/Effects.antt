-- What an instruction writes are words and bytes, where a machine reads words and bytes.
use Rattle.std.proofs.Common.{◌≡◌, ◌+◌, ◌%◌, ◌/◌, ◌*◌, ◌<◌, ◌^◌, ℕ, Bool, true, false, List, [], ◌∷◌, ◌++◌, Some, None, Result, Ok, Err, nat_eq, length, ◌-◌, IfOk, refl, subst, arith, if◌then◌else◌, ◌==◌}
use Rattle.std.specs.Prelude.{ℤ, nat_lt}
use Rattle.std.specs.List.{AllByRecursion}
use Rattle.std.specs.Option.{ForSome}
use Rattle.std.specs.Int.{w32, to_le_bytes, to_be_bytes}
use Rattle.pisa_isa.specs.declared.instr.Instr.{Instr}
use Rattle.pisa_isa.specs.Coding.{IsWellFormed}
use Rattle.pisa_isa.specs.CodingLaws.{bounds}
use Rattle.pisa_isa.specs.Targets.{branch_target, jump_target}
use Rattle.pisa_step.specs.declared.action.Action.{Action}
use Rattle.pisa_step.specs.declared.action.Action.TheVariants as action
use Rattle.pisa_step.specs.declared.action.Link.{Link}
use Rattle.pisa_step.specs.declared.action.Link.TheVariants as link
use Rattle.pisa_step.specs.declared.action.Address.TheVariants as address
use Rattle.pisa_step.specs.declared.action.Half.{Half}
use Rattle.pisa_step.specs.declared.action.Half.TheVariants as half
use Rattle.pisa_step.specs.declared.action.Form.{Form}
use Rattle.pisa_step.specs.declared.action.Form.TheVariants as form
use Rattle.pisa_step.specs.declared.action.Sign.{Sign}
use Rattle.pisa_step.specs.declared.action.Stored.{Stored}
use Rattle.pisa_step.specs.declared.action.Stored.TheVariants as stored
use Rattle.pisa_step.specs.declared.action.Side.{Side}
use Rattle.pisa_step.specs.declared.action.Side.TheVariants as side
use Rattle.pisa_step.specs.declared.cause.Cause.{Cause}
use Rattle.pisa_step.specs.declared.cause.Cause.TheVariants as cause
use Rattle.pisa_step.specs.declared.changes.Changes.{Changes}
use Rattle.pisa_step.specs.declared.changes.TextRange.{TextRange}
use Rattle.pisa_step.specs.Reader.{Reader}
use Rattle.pisa_step.specs.Words.{word_sum, is_in_word, word_of}
use Rattle.pisa_step.specs.Actions.{action_of}
use Rattle.pisa_step.specs.Arithmetic.{exact_of, first_of, second_of, is_taken, product_of, quotient_of, remainder_of, target_of}
use Rattle.pisa_step.specs.Memory.{address_of, loaded_of, loaded_size, half_bytes, word_bytes, stored_of, stored_size, word_at, part_loaded_at, part_stored, part_start, meets}
use Rattle.pisa_step.specs.Effect.{aligned, branches, effect_of, going_on, linked, loads, moves_from, moves_to, multiplies, outcome_of, stores, vec_of, writes_both, writes_reg, written}
use Rattle.restarted_run.specs.Within.{AreBytes}
use Rattle.restarted_run.proofs.Bytes.{more_bytes, no_bytes, joined_bytes, taken_bytes, left_bytes, zero_bytes, low_bytes, high_bytes}
use Rattle.restarted_run.proofs.Words.{word_in_range, half_extended_below, alu_below, product_below, quotient_below, remainder_below, word_below, loaded_below, part_loaded_below}

-- a machine reads words and bytes
pub record ReadsWords (s : Reader) : Type 0 where
  pub regs : (n : ℕ) → s.regs n < 2 ^ 32
  pub hi : s.hi < 2 ^ 32
  pub lo : s.lo < 2 ^ 32
  pub bytes : (a : ℕ) → s.bytes a < 2 ^ 8

-- what an instruction writes
pub record WritesWords (e : Changes) : Type 0 where
  pub next : e.next < 2 ^ 32
  pub regs : AllByRecursion (λ (w : ℕ × ℕ). w.1 < 2 ^ 32) e.regs.items
  pub hi : ForSome e.hi (λ v. v < 2 ^ 32)
  pub lo : ForSome e.lo (λ v. v < 2 ^ 32)
  pub mem : ForSome e.mem (λ w. AreBytes w.bytes.items)

some_is : {A : Type 0} (x y : A) → Some x ≡ Some y → x ≡ y
some_is x y same = cc

-- ---- registers

written_if : (r value : ℕ) (zero : Bool) → value < 2 ^ 32 → AllByRecursion (λ (w : ℕ × ℕ). w.1 < 2 ^ 32) (if zero then [] else (r, value) ∷ [])
written_if r value true h = tt
written_if r value false h = (h, tt)

written_words : (r value : ℕ) → value < 2 ^ 32 → AllByRecursion (λ (w : ℕ × ℕ). w.1 < 2 ^ 32) (written r value)
written_words r value h = written_if r value (nat_eq r 0) h

both_words : (xs ys : List (ℕ × ℕ)) → AllByRecursion (λ (w : ℕ × ℕ). w.1 < 2 ^ 32) xs → AllByRecursion (λ (w : ℕ × ℕ). w.1 < 2 ^ 32) ys → AllByRecursion (λ (w : ℕ × ℕ). w.1 < 2 ^ 32) (xs ++ ys)
both_words [] ys h g = g
both_words (x ∷ xs) ys h g = (h.0, both_words xs ys h.1 g)

linked_words : (keeps : Link) (r pc : ℕ) → AllByRecursion (λ (w : ℕ × ℕ). w.1 < 2 ^ 32) (linked keeps r pc)
linked_words link.Absent r pc = tt
linked_words link.Kept r pc = written_words r (word_sum pc 8) (omega arith)

-- changes of registers alone
only_registers : (e : Changes) → e.next < 2 ^ 32 → AllByRecursion (λ (w : ℕ × ℕ). w.1 < 2 ^ 32) e.regs.items → e.hi ≡ None → e.lo ≡ None → e.mem ≡ None → WritesWords e
only_registers e next regs hi lo mem = record { next = next; regs = regs; hi = λ v is. cc; lo = λ v is. cc; mem = λ w is. cc }

follows : (pc : ℕ) → word_sum pc 8 < 2 ^ 32
follows pc = omega arith

-- ---- stores

bytes_of_half : (big : Bool) (h : ℕ) → AreBytes (half_bytes big h)
bytes_of_half false h = low_bytes 0 2 h
bytes_of_half true h = high_bytes 2 h

bytes_of_word : (big : Bool) (w : ℕ) → AreBytes (word_bytes big w)
bytes_of_word false w = low_bytes 0 4 w
bytes_of_word true w = high_bytes 4 w

stored_bytes : (kind : Stored) (s : Reader) (rt : ℕ) → AreBytes (stored_of kind s rt)
stored_bytes stored.Byte s rt = more_bytes (s.regs rt % 2 ^ 8) [] (omega arith) no_bytes
stored_bytes stored.Half s rt = bytes_of_half s.big (s.regs rt % 2 ^ 16)
stored_bytes stored.Word s rt = bytes_of_word s.big (s.regs rt)
stored_bytes stored.Pair s rt = joined_bytes (word_bytes s.big (s.regs rt)) (word_bytes s.big (s.regs (rt + 1))) (bytes_of_word s.big (s.regs rt)) (bytes_of_word s.big (s.regs (rt + 1)))
stored_bytes stored.Zero s rt = zero_bytes 8

part_bytes : (part : Side) (big : Bool) (place value : ℕ) → AreBytes (part_stored part big place value)
part_bytes side.Left false place value = left_bytes (3 - place) (to_le_bytes w32 value) (low_bytes 0 4 value)
part_bytes side.Right false place value = taken_bytes (4 - place) (to_le_bytes w32 value) (low_bytes 0 4 value)
part_bytes side.Left true place value = taken_bytes (4 - place) (to_be_bytes w32 value) (high_bytes 4 value)
part_bytes side.Right true place value = left_bytes (3 - place) (to_be_bytes w32 value) (high_bytes 4 value)

stores_if : (pc a start : ℕ) (content : List ℕ) (test : Bool) → AreBytes content
    → IfOk (if test then Err (cause.TextWrite start) else Ok (record (going_on pc) { mem = Some (record { addr = start; bytes = vec_of content }); access = Some a })) WritesWords
stores_if pc a start content true all = tt
stores_if pc a start content false all = record {
  next = follows pc;
  regs = tt;
  hi = λ v is. cc;
  lo = λ v is. cc;
  mem = λ w same. subst (λ x. AreBytes x.bytes.items) (some_is _ _ same) all;
}

stores_words : (text : TextRange) (pc a start : ℕ) (content : List ℕ) → AreBytes content → IfOk (stores text pc a start content) WritesWords
stores_words text pc a start content all = stores_if pc a start content (meets text start (length content)) all

aligned_if : (next : Result Changes Cause) (a : ℕ) (test : Bool) → IfOk next WritesWords → IfOk (if test then next else Err (cause.Misaligned a)) WritesWords
aligned_if next a true h = h
aligned_if next a false h = tt

aligned_words : (size a : ℕ) (next : Result Changes Cause) → IfOk next WritesWords → IfOk (aligned size a next) WritesWords
aligned_words size a next h = aligned_if next a (a % size == 0) h

-- ---- operands

first_below : (f : Form) (s : Reader) (i : Instr) → ReadsWords s → first_of f s i < 2 ^ 32
first_below form.Registers s i r = r.regs i.rs
first_below form.Signed s i r = r.regs i.rs
first_below form.Unsigned s i r = r.regs i.rs
first_below form.Shift s i r = r.regs i.rt
first_below form.ShiftRegister s i r = r.regs i.rt

second_below : (f : Form) (s : Reader) (i : Instr) → ReadsWords s → IsWellFormed i → second_of f s i < 2 ^ 32
second_below form.Registers s i r formed = r.regs i.rt
second_below form.Signed s i r formed = half_extended_below i.imm
second_below form.Unsigned s i r formed = omega (arith, (bounds i formed).imm)
second_below form.Shift s i r formed = omega (arith, (bounds i formed).shamt)
second_below form.ShiftRegister s i r formed = r.regs i.rs

-- ---- actions

exactly_if : (pc r : ℕ) (z : ℤ) (test : Bool) → is_in_word z ≡ test → IfOk (if test then Ok (writes_reg pc r (word_of z)) else Err cause.Overflow) WritesWords
exactly_if pc r z true is = only_registers _ (follows pc) (written_words r (word_of z) (word_in_range z is)) refl refl refl
exactly_if pc r z false is = tt

both_halves : (pc hi lo : ℕ) → hi < 2 ^ 32 → lo < 2 ^ 32 → WritesWords (writes_both pc hi lo)
both_halves pc hi lo h g = record {
  next = follows pc;
  regs = tt;
  hi = λ v same. subst (λ x. x < 2 ^ 32) (some_is _ _ same) h;
  lo = λ v same. subst (λ x. x < 2 ^ 32) (some_is _ _ same) g;
  mem = λ w is. cc;
}

divides_if : (pc hi lo : ℕ) (test : Bool) → hi < 2 ^ 32 → lo < 2 ^ 32 → IfOk (if test then Err cause.DivideByZero else Ok (writes_both pc hi lo)) WritesWords
divides_if pc hi lo true h g = tt
divides_if pc hi lo false h g = both_halves pc hi lo h g

multiplies_words : (sort : Sign) (pc a b : ℕ) → a < 2 ^ 32 → b < 2 ^ 32 → WritesWords (multiplies sort pc a b)
multiplies_words sort pc a b h g =
    let p : product_of sort a b < 2 ^ 64 = product_below sort a b h g in
    both_halves pc (product_of sort a b / 2 ^ 32) (product_of sort a b % 2 ^ 32) (omega (arith, p)) (omega arith)

target_if : (pc imm : ℕ) (test : Bool) → (if test then (pc + 8 + 4 * imm) % 2 ^ 32 else (pc + 8 + 4 * imm + (2 ^ 32 - 4 * 2 ^ 16)) % 2 ^ 32) < 2 ^ 32
target_if pc imm true = omega arith
target_if pc imm false = omega arith

branches_words : (test : Bool) (pc imm : ℕ) → WritesWords (branches test pc (branch_target pc imm))
branches_words true pc imm = only_registers _ (target_if pc imm (nat_lt imm (2 ^ 15))) tt refl refl refl
branches_words false pc imm = only_registers _ (follows pc) tt refl refl refl

from_below : (part : Half) (s : Reader) → ReadsWords s → moves_from part s < 2 ^ 32
from_below half.High s r = r.hi
from_below half.Low s r = r.lo

moves_words : (part : Half) (pc value : ℕ) → value < 2 ^ 32 → WritesWords (moves_to part pc value)
moves_words half.High pc value h = record { next = follows pc; regs = tt; hi = λ v same. subst (λ x. x < 2 ^ 32) (some_is _ _ same) h; lo = λ v is. cc; mem = λ w is. cc }
moves_words half.Low pc value h = record { next = follows pc; regs = tt; hi = λ v is. cc; lo = λ v same. subst (λ x. x < 2 ^ 32) (some_is _ _ same) h; mem = λ w is. cc }

loads_words : (pc a : ℕ) (regs : List (ℕ × ℕ)) → AllByRecursion (λ (w : ℕ × ℕ). w.1 < 2 ^ 32) regs → WritesWords (loads pc a regs)
loads_words pc a regs h = only_registers _ (follows pc) h refl refl refl

jump_below : (pc target : ℕ) → pc < 2 ^ 32 → target < 2 ^ 26 → jump_target pc target < 2 ^ 32
jump_below pc target h g = omega arith

outcome_words : (does : Action) (s : Reader) (i : Instr) (pc : ℕ) (text : TextRange) → ReadsWords s → IsWellFormed i → pc < 2 ^ 32 → IfOk (outcome_of does s i pc text) WritesWords
outcome_words action.Nothing s i pc text r formed below = only_registers _ (follows pc) tt refl refl refl
outcome_words action.Float s i pc text r formed below = tt
outcome_words action.Break s i pc text r formed below = tt
outcome_words (action.Jump keeps) s i pc text r formed below =
    only_registers _ (jump_below pc i.target below (omega (arith, (bounds i formed).target))) (linked_words keeps 31 pc) refl refl refl
outcome_words (action.JumpRegister keeps) s i pc text r formed below = only_registers _ (r.regs i.rs) (linked_words keeps i.rd pc) refl refl refl
outcome_words (action.Branch test) s i pc text r formed below = branches_words (is_taken test (s.regs i.rs) (s.regs i.rt)) pc i.imm
outcome_words (action.Compute f form) s i pc text r formed below =
    only_registers _ (follows pc) (written_words (target_of form i) _ (alu_below f (first_of form s i) (second_of form s i) (first_below form s i r) (second_below form s i r formed))) refl refl refl
outcome_words (action.Exact f form) s i pc text r formed below = exactly_if pc (target_of form i) (exact_of f (first_of form s i) (second_of form s i)) (is_in_word (exact_of f (first_of form s i) (second_of form s i))) refl
outcome_words (action.Multiply sort) s i pc text r formed below = multiplies_words sort pc (s.regs i.rs) (s.regs i.rt) (r.regs i.rs) (r.regs i.rt)
outcome_words (action.Divide sort) s i pc text r formed below =
    divides_if pc (remainder_of sort (s.regs i.rs) (s.regs i.rt)) (quotient_of sort (s.regs i.rs) (s.regs i.rt)) (s.regs i.rt == 0)
    (remainder_below sort (s.regs i.rs) (s.regs i.rt) (r.regs i.rs)) (quotient_below sort (s.regs i.rs) (s.regs i.rt) (r.regs i.rs))
outcome_words (action.MoveFrom part) s i pc text r formed below = only_registers _ (follows pc) (written_words i.rd (moves_from part s) (from_below part s r)) refl refl refl
outcome_words (action.MoveTo part) s i pc text r formed below = moves_words part pc (s.regs i.rs) (r.regs i.rs)
outcome_words (action.Load kind form) s i pc text r formed below =
    let a = address_of form s i in
    aligned_words (loaded_size kind) a (Ok (loads pc a (written i.rt (loaded_of kind s a)))) (loads_words pc a (written i.rt (loaded_of kind s a)) (written_words i.rt (loaded_of kind s a) (loaded_below kind s a r.bytes)))
outcome_words (action.LoadPair form) s i pc text r formed below =
    let a = address_of form s i in
    let first = written i.rt (word_at s a) in
    let second = written (i.rt + 1) (word_at s (a + 4)) in
    aligned_words 8 a (Ok (loads pc a (first ++ second)))
    (loads_words pc a (first ++ second) (both_words first second (written_words i.rt (word_at s a) (word_below s a r.bytes)) (written_words (i.rt + 1) (word_at s (a + 4)) (word_below s (a + 4) r.bytes))))
outcome_words (action.LoadPart part) s i pc text r formed below =
    let a = address_of address.Offset s i in
    loads_words pc a (written i.rt (part_loaded_at part s a (s.regs i.rt))) (written_words i.rt (part_loaded_at part s a (s.regs i.rt)) (part_loaded_below part s a (s.regs i.rt) r.bytes (r.regs i.rt)))
outcome_words (action.Store kind form) s i pc text r formed below =
    let a = address_of form s i in
    aligned_words (stored_size kind) a (stores text pc a a (stored_of kind s i.rt)) (stores_words text pc a a (stored_of kind s i.rt) (stored_bytes kind s i.rt))
outcome_words (action.StorePart part) s i pc text r formed below =
    let a = address_of address.Offset s i in
    stores_words text pc a (part_start part s.big a) (part_stored part s.big (a % 4) (s.regs i.rt)) (part_bytes part s.big (a % 4) (s.regs i.rt))

pub effect_words : (s : Reader) (i : Instr) (pc : ℕ) (text : TextRange) → ReadsWords s → IsWellFormed i → pc < 2 ^ 32 → IfOk (effect_of s i pc text) WritesWords
unfolding effect_of
effect_words s i pc text r formed below = outcome_words (action_of i.op) s i pc text r formed below
