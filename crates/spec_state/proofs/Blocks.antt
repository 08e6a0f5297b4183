-- What an instruction writes lies in one aligned block of 8 bytes.
use Rattle.std.proofs.Common.{◌≡◌, ◌+◌, ◌-◌, ◌%◌, ◌/◌, ◌<◌, ◌≤◌, ℕ, Bool, true, false, List, [], ◌∷◌, ◌++◌, Some, None, Result, Ok, Err, length, IfOk, refl, subst, arith, ◌==◌, if◌then◌else◌}
use Rattle.std.proofs.lemmas.Bool.{eqb-true}
use Rattle.std.proofs.Math.ListN.{length-append, length-take, length-drop}
use Rattle.pisa_isa.specs.declared.instr.Instr.{Instr}
use Rattle.pisa_step.specs.declared.action.Action.{Action}
use Rattle.pisa_step.specs.declared.action.Action.TheVariants as action
use Rattle.pisa_step.specs.declared.action.Half.{Half}
use Rattle.pisa_step.specs.declared.action.Half.TheVariants as half
use Rattle.pisa_step.specs.declared.action.Address.TheVariants as address
use Rattle.pisa_step.specs.declared.action.Stored.{Stored}
use Rattle.pisa_step.specs.declared.action.Stored.TheVariants as stored
use Rattle.pisa_step.specs.declared.action.Side.{Side}
use Rattle.pisa_step.specs.declared.action.Side.TheVariants as side
use Rattle.pisa_step.specs.declared.cause.Cause.{Cause}
use Rattle.pisa_step.specs.declared.cause.Cause.TheVariants as cause
use Rattle.pisa_step.specs.declared.changes.Changes.{Changes}
use Rattle.pisa_step.specs.declared.changes.TextRange.{TextRange}
use Rattle.pisa_isa.specs.Targets.{branch_target}
use Rattle.pisa_step.specs.Reader.{Reader}
use Rattle.pisa_step.specs.Actions.{action_of}
use Rattle.pisa_step.specs.Arithmetic.{is_taken}
use Rattle.pisa_step.specs.Memory.{address_of, loaded_size, half_bytes, word_bytes, stored_of, stored_size, part_stored, part_start, meets}
use Rattle.pisa_step.specs.Effect.{aligned, branches, effect_of, going_on, loads, moves_to, outcome_of, store_at, store_part_at, stores, writes_both, writes_reg}
use Rattle.spec_state.specs.Overlay.{IsInBlock, WritesInBlock}

-- a range in one block has at most 8 bytes
pub block_is_short : (addr len : ℕ) → IsInBlock addr len → len ≤ 8
block_is_short addr len within = grind (arith, within (addr + 8))

some_is : {A : Type 0} (x y : A) → Some x ≡ Some y → x ≡ y
some_is x y same = cc

-- changes that write no memory
unwritten : (e : Changes) → e.mem ≡ None → WritesInBlock e
unwritten e none = λ w is. cc

aligned_if : (size a : ℕ) (next : Result Changes Cause) (test : Bool) → (a % size == 0) ≡ test → (a % size ≡ 0 → IfOk next WritesInBlock) → IfOk (if test then next else Err (cause.Misaligned a)) WritesInBlock
aligned_if size a next true is fits = fits (eqb-true (a % size) 0 is)
aligned_if size a next false is fits = tt

aligned_in_block : (size a : ℕ) (next : Result Changes Cause) → (a % size ≡ 0 → IfOk next WritesInBlock) → IfOk (aligned size a next) WritesInBlock
aligned_in_block size a next fits = aligned_if size a next (a % size == 0) refl fits

stores_if : (pc a start : ℕ) (content : List ℕ) (test : Bool) → IsInBlock start (length content) → IfOk (if test then Err (cause.TextWrite start) else Ok (record (going_on pc) { mem = Some (record { addr = start; bytes = record { items = content } }); access = Some a })) WritesInBlock
stores_if pc a start content true fits = tt
stores_if pc a start content false fits = λ w same. subst (λ x. IsInBlock x.addr (length x.bytes.items)) (some_is _ _ same) fits

stores_in_block : (text : TextRange) (pc a start : ℕ) (content : List ℕ) → IsInBlock start (length content) → IfOk (stores text pc a start content) WritesInBlock
stores_in_block text pc a start content fits = stores_if pc a start content (meets text start (length content)) fits

half_length : (big : Bool) (h : ℕ) → length (half_bytes big h) ≡ 2
half_length false h = refl
half_length true h = refl

word_length : (big : Bool) (w : ℕ) → length (word_bytes big w) ≡ 4
word_length false w = refl
word_length true w = refl

-- a store writes as many bytes as its address must be a multiple of
stored_length : (kind : Stored) (s : Reader) (rt : ℕ) → length (stored_of kind s rt) ≡ stored_size kind
stored_length stored.Byte s rt = refl
stored_length stored.Half s rt = half_length s.big _
stored_length stored.Word s rt = word_length s.big _
stored_length stored.Pair s rt =
    omega (arith, length-append (word_bytes s.big (s.regs rt)) (word_bytes s.big (s.regs (rt + 1))), word_length s.big (s.regs rt), word_length s.big (s.regs (rt + 1)))
stored_length stored.Zero s rt = refl

-- an aligned range of 1, 2, 4 or 8 bytes lies in one block
aligned_range : (kind : Stored) (a len : ℕ) → a % stored_size kind ≡ 0 → len ≡ stored_size kind → IsInBlock a len
aligned_range stored.Byte a len even is = λ b low high. omega arith
aligned_range stored.Half a len even is = λ b low high. omega arith
aligned_range stored.Word a len even is = λ b low high. omega arith
aligned_range stored.Pair a len even is = λ b low high. omega arith
aligned_range stored.Zero a len even is = λ b low high. omega arith

store_in_block : (kind : Stored) (s : Reader) (i : Instr) (pc : ℕ) (text : TextRange) (a : ℕ) → IfOk (store_at kind s i pc text a) WritesInBlock
store_in_block kind s i pc text a =
    aligned_in_block (stored_size kind) a _
    (λ even. stores_in_block text pc a a (stored_of kind s i.rt) (aligned_range kind a _ even (stored_length kind s i.rt)))

-- a range within a word lies in one block
within_word : (a start len : ℕ) → a - a % 4 ≤ start → start + len ≤ a - a % 4 + 4 → IsInBlock start len
within_word a start len above below = λ b low high. omega arith

part_above : (part : Side) (big : Bool) (a : ℕ) → a - a % 4 ≤ part_start part big a
part_above side.Left false a = omega arith
part_above side.Right false a = omega arith
part_above side.Left true a = omega arith
part_above side.Right true a = omega arith

part_below : (part : Side) (big : Bool) (a value : ℕ) → part_start part big a + length (part_stored part big (a % 4) value) ≤ a - a % 4 + 4
part_below side.Left false a value = simp length-drop (omega arith)
part_below side.Right false a value = simp length-take (omega arith)
part_below side.Left true a value = simp length-take (omega arith)
part_below side.Right true a value = simp length-drop (omega arith)

store_part_in_block : (part : Side) (s : Reader) (i : Instr) (pc : ℕ) (text : TextRange) (a : ℕ) → IfOk (store_part_at part s i pc text a) WritesInBlock
store_part_in_block part s i pc text a =
    stores_in_block text pc a _ _ (within_word a _ _ (part_above part s.big a) (part_below part s.big a (s.regs i.rt)))

exactly_if : (pc r word : ℕ) (test : Bool) → IfOk (if test then Ok (writes_reg pc r word) else Err cause.Overflow) WritesInBlock
exactly_if pc r word true = unwritten (writes_reg pc r word) refl
exactly_if pc r word false = tt

divides_if : (pc high low : ℕ) (test : Bool) → IfOk (if test then Err cause.DivideByZero else Ok (writes_both pc high low)) WritesInBlock
divides_if pc high low true = tt
divides_if pc high low false = unwritten (writes_both pc high low) refl

branches_in_block : (test : Bool) (pc next : ℕ) → WritesInBlock (branches test pc next)
branches_in_block true pc next = unwritten (branches true pc next) refl
branches_in_block false pc next = unwritten (branches false pc next) refl

moves_in_block : (part : Half) (pc value : ℕ) → WritesInBlock (moves_to part pc value)
moves_in_block half.High pc value = unwritten (moves_to half.High pc value) refl
moves_in_block half.Low pc value = unwritten (moves_to half.Low pc value) refl

load_in_block : (pc size a : ℕ) (regs : List (ℕ × ℕ)) → IfOk (aligned size a (Ok (loads pc a regs))) WritesInBlock
load_in_block pc size a regs = aligned_in_block size a (Ok (loads pc a regs)) (λ _. unwritten (loads pc a regs) refl)

outcome_in_block : (does : Action) (s : Reader) (i : Instr) (pc : ℕ) (text : TextRange) → IfOk (outcome_of does s i pc text) WritesInBlock
outcome_in_block action.Nothing s i pc text = λ w is. cc
outcome_in_block action.Float s i pc text = tt
outcome_in_block action.Break s i pc text = tt
outcome_in_block (action.Jump keeps) s i pc text = λ w is. cc
outcome_in_block (action.JumpRegister keeps) s i pc text = λ w is. cc
outcome_in_block (action.Branch test) s i pc text = branches_in_block (is_taken test (s.regs i.rs) (s.regs i.rt)) pc (branch_target pc i.imm)
outcome_in_block (action.Compute f form) s i pc text = λ w is. cc
outcome_in_block (action.Exact f form) s i pc text = exactly_if _ _ _ _
outcome_in_block (action.Multiply sign) s i pc text = λ w is. cc
outcome_in_block (action.Divide sign) s i pc text = divides_if _ _ _ _
outcome_in_block (action.MoveFrom part) s i pc text = λ w is. cc
outcome_in_block (action.MoveTo part) s i pc text = moves_in_block part pc _
outcome_in_block (action.Load kind form) s i pc text = load_in_block pc (loaded_size kind) (address_of form s i) _
outcome_in_block (action.LoadPair form) s i pc text = load_in_block pc 8 (address_of form s i) _
outcome_in_block (action.LoadPart part) s i pc text = λ w is. cc
outcome_in_block (action.Store kind form) s i pc text = store_in_block kind s i pc text _
outcome_in_block (action.StorePart part) s i pc text = store_part_in_block part s i pc text _

pub effects_in_block : (s : Reader) (i : Instr) (pc : ℕ) (text : TextRange) (e : Changes) → effect_of s i pc text ≡ Ok e → WritesInBlock e
unfolding effect_of
effects_in_block s i pc text e is = subst (λ answer. IfOk answer WritesInBlock) is (outcome_in_block (action_of i.op) s i pc text)
