-- The changes of every instruction are proper.
use Rattle.std.proofs.Common.{◌≡◌, ◌+◌, ◌%◌, ◌<◌, ◌≤◌, ◌^◌, ℕ, Bool, true, false, List, [], ◌∷◌, ◌++◌, Some, None, Result, Ok, Err, length, All, nat_eq, IfOk, refl, subst, arith, if◌then◌else◌, ◌==◌}
use Rattle.std.proofs.lemmas.Bool.{eqb-true, eqb-false}
use Rattle.std.proofs.lemmas.Bool.Decides.{nat_tests}
use Rattle.std.proofs.lemmas.List.Elements.{All-nil, All-cons}
use Rattle.std.proofs.Math.ListN.{length-append, length-take, length-drop}
use Rattle.pisa_isa.specs.declared.instr.Instr.{Instr}
use Rattle.pisa_step.specs.declared.action.Action.{Action}
use Rattle.pisa_step.specs.declared.action.Action.TheVariants as action
use Rattle.pisa_step.specs.declared.action.Link.{Link}
use Rattle.pisa_step.specs.declared.action.Link.TheVariants as link
use Rattle.pisa_step.specs.declared.action.Half.{Half}
use Rattle.pisa_step.specs.declared.action.Half.TheVariants as half
use Rattle.pisa_step.specs.declared.action.Form.{Form}
use Rattle.pisa_step.specs.declared.action.Form.TheVariants as form
use Rattle.pisa_step.specs.declared.action.Address.{Address}
use Rattle.pisa_step.specs.declared.action.Address.TheVariants as address
use Rattle.pisa_step.specs.declared.action.Stored.{Stored}
use Rattle.pisa_step.specs.declared.action.Stored.TheVariants as stored
use Rattle.pisa_step.specs.declared.action.Side.{Side}
use Rattle.pisa_step.specs.declared.action.Side.TheVariants as side
use Rattle.pisa_step.specs.declared.cause.Cause.{Cause}
use Rattle.pisa_step.specs.declared.cause.Cause.TheVariants as cause
use Rattle.pisa_step.specs.declared.changes.Changes.{Changes}
use Rattle.pisa_step.specs.declared.changes.TextRange.{TextRange}
use Rattle.pisa_isa.specs.Targets.{branch_target}
use Rattle.pisa_step.specs.Reader.{Reader}
use Rattle.pisa_step.specs.Words.{word_sum}
use Rattle.pisa_step.specs.Arithmetic.{is_taken, target_of}
use Rattle.pisa_step.specs.Memory.{address_of, loaded_of, loaded_size, half_bytes, word_bytes, stored_of, stored_size, word_at, part_stored, part_start, meets}
use Rattle.pisa_step.specs.Effect.{AreRegisters, TakesPair, aligned, branches, going_on, linked, loads, moves_to, outcome_of, store_at, store_part_at, stores, writes_both, writes_reg, written}
use Rattle.pisa_step.specs.Proper.{IsProper, IsRising}

-- rising registers are below 32
all_below : (above : ℕ) (ws : List (ℕ × ℕ)) → IsRising above ws → All (λ w. w.0 < 32) ws
all_below above [] rising = All-nil (λ w. w.0 < 32)
all_below above (w ∷ rest) rising =
    All-cons (λ w. w.0 < 32) w rest rising.1 (all_below w.0 rest rising.2)

written_if : (r value : ℕ) (zero : Bool) → nat_eq r 0 ≡ zero → r < 32 → IsRising 0 (if zero then [] else (r, value) ∷ [])
written_if r value true is below = tt
written_if r value false is below = (omega (arith, eqb-false r 0 is), below, tt)

written_rising : (r value : ℕ) → r < 32 → IsRising 0 (written r value)
written_rising r value below = written_if r value (nat_eq r 0) refl below

pair_if : (r v w : ℕ) (zero next : Bool) → nat_eq r 0 ≡ zero → nat_eq (r + 1) 0 ≡ next → r < 31 → IsRising 0 ((if zero then [] else (r, v) ∷ []) ++ (if next then [] else (r + 1, w) ∷ []))
pair_if r v w zero true is next below = absurd (omega (arith, eqb-true (r + 1) 0 next))
pair_if r v w true false is next below = (omega arith, omega arith, tt)
pair_if r v w false false is next below = (omega (arith, eqb-false r 0 is), omega arith, (omega arith, omega arith, tt))

pair_rising : (r v w : ℕ) → r < 31 → IsRising 0 (written r v ++ written (r + 1) w)
pair_rising r v w below = pair_if r v w (nat_eq r 0) (nat_eq (r + 1) 0) refl refl below

linked_rising : (keeps : Link) (r pc : ℕ) → r < 32 → IsRising 0 (linked keeps r pc)
linked_rising link.Absent r pc below = tt
linked_rising link.Kept r pc below = written_rising r (word_sum pc 8) below

-- changes that write no memory
unwritten : (text : TextRange) (e : Changes) → IsRising 0 e.regs.items → e.mem ≡ None → IsProper text e
unwritten text e rising none = record {
  rising = rising;
  registers = all_below 0 e.regs.items rising;
  range = λ w is. cc;
  outside = λ w is. cc;
}

aligned_if : (text : TextRange) (size a : ℕ) (next : Result Changes Cause) (test : Bool) → (a % size == 0) ≡ test → (a % size ≡ 0 → IfOk next (IsProper text)) → IfOk (if test then next else Err (cause.Misaligned a)) (IsProper text)
aligned_if text size a next true is proper = proper (eqb-true (a % size) 0 is)
aligned_if text size a next false is proper = tt

aligned_proper : (text : TextRange) (size a : ℕ) (next : Result Changes Cause) → (a % size ≡ 0 → IfOk next (IsProper text)) → IfOk (aligned size a next) (IsProper text)
aligned_proper text size a next proper = aligned_if text size a next (a % size == 0) refl proper

some_is : {A : Type 0} (x y : A) → Some x ≡ Some y → x ≡ y
some_is x y same = cc

-- a write that doesn't meet text stays outside
outside : (text : TextRange) (start count a : ℕ) → meets text start count ≡ false → start ≤ a → a < start + count → text.start ≤ a → text.end ≤ a
outside text start count a misses = grind (arith, nat_tests)

stores_if : (text : TextRange) (pc a start : ℕ) (content : List ℕ) (test : Bool) → meets text start (length content) ≡ test → start + length content ≤ 2 ^ 32 → IfOk (if test then Err (cause.TextWrite start) else Ok (record (going_on pc) { mem = Some (record { addr = start; bytes = record { items = content } }); access = Some a })) (IsProper text)
stores_if text pc a start content true is fits = tt
stores_if text pc a start content false is fits = record {
  rising = tt;
  registers = All-nil (λ w. w.0 < 32);
  range = λ w same. subst (λ x. x.addr + length x.bytes.items ≤ 2 ^ 32) (some_is _ _ same) fits;
  outside = λ w same. subst (λ x. (b : ℕ) → x.addr ≤ b → b < x.addr + length x.bytes.items → text.start ≤ b → text.end ≤ b) (some_is _ _ same) (λ b. outside text start (length content) b is);
}

stores_proper : (text : TextRange) (pc a start : ℕ) (content : List ℕ) → start + length content ≤ 2 ^ 32 → IfOk (stores text pc a start content) (IsProper text)
stores_proper text pc a start content fits =
    stores_if text pc a start content (meets text start (length content)) refl fits

half_length : (big : Bool) (h : ℕ) → length (half_bytes big h) ≡ 2
half_length false h = refl
half_length true h = refl

word_length : (big : Bool) (w : ℕ) → length (word_bytes big w) ≡ 4
word_length false w = refl
word_length true w = refl

-- a store writes as many bytes as its address must be a multiple of
stored_length : (kind : Stored) (s : Reader) (rt : ℕ) → length (stored_of kind s rt) ≡ stored_size kind
stored_length stored.Byte s rt = refl
stored_length stored.Half s rt = half_length s.big _
stored_length stored.Word s rt = word_length s.big _
stored_length stored.Pair s rt =
    omega (arith, length-append (word_bytes s.big (s.regs rt)) (word_bytes s.big (s.regs (rt + 1))), word_length s.big (s.regs rt), word_length s.big (s.regs (rt + 1)))
stored_length stored.Zero s rt = refl

-- an aligned access ends at or below 2^32
aligned_ends : (kind : Stored) (a : ℕ) → a < 2 ^ 32 → a % stored_size kind ≡ 0 → a + stored_size kind ≤ 2 ^ 32
aligned_ends stored.Byte a below even = omega arith
aligned_ends stored.Half a below even = omega arith
aligned_ends stored.Word a below even = omega arith
aligned_ends stored.Pair a below even = omega arith
aligned_ends stored.Zero a below even = omega arith

store_proper : (kind : Stored) (s : Reader) (i : Instr) (pc : ℕ) (text : TextRange) (a : ℕ) → a < 2 ^ 32 → IfOk (store_at kind s i pc text a) (IsProper text)
store_proper kind s i pc text a below =
    aligned_proper text (stored_size kind) a _
    (λ even. stores_proper text pc a a (stored_of kind s i.rt) (omega (arith, stored_length kind s i.rt, aligned_ends kind a below even)))

-- a part store ends at or below 2^32
part_ends : (part : Side) (big : Bool) (a value : ℕ) → a < 2 ^ 32 → part_start part big a + length (part_stored part big (a % 4) value) ≤ 2 ^ 32
part_ends side.Left false a value below = simp length-drop (omega arith)
part_ends side.Right false a value below = simp length-take (omega arith)
part_ends side.Left true a value below = simp length-take (omega arith)
part_ends side.Right true a value below = simp length-drop (omega arith)

store_part_proper : (part : Side) (s : Reader) (i : Instr) (pc : ℕ) (text : TextRange) (a : ℕ) → a < 2 ^ 32 → IfOk (store_part_at part s i pc text a) (IsProper text)
store_part_proper part s i pc text a below = stores_proper text pc a _ _ (part_ends part s.big a (s.regs i.rt) below)

address_below : (form : Address) (s : Reader) (i : Instr) → address_of form s i < 2 ^ 32
address_below address.Offset s i = omega arith
address_below address.Indexed s i = omega arith

target_below : (f : Form) (i : Instr) → AreRegisters i → target_of f i < 32
target_below form.Registers i are = are.rd
target_below form.Signed i are = are.rt
target_below form.Unsigned i are = are.rt
target_below form.Shift i are = are.rd
target_below form.ShiftRegister i are = are.rd

exactly_if : (text : TextRange) (pc r word : ℕ) (test : Bool) → r < 32 → IfOk (if test then Ok (writes_reg pc r word) else Err cause.Overflow) (IsProper text)
exactly_if text pc r word true below = unwritten text _ (written_rising r word below) refl
exactly_if text pc r word false below = tt

divides_if : (text : TextRange) (pc high low : ℕ) (test : Bool) → IfOk (if test then Err cause.DivideByZero else Ok (writes_both pc high low)) (IsProper text)
divides_if text pc high low true = tt
divides_if text pc high low false = unwritten text _ tt refl

branches_proper : (text : TextRange) (test : Bool) (pc next : ℕ) → IsProper text (branches test pc next)
branches_proper text true pc next = unwritten text _ tt refl
branches_proper text false pc next = unwritten text _ tt refl

moves_proper : (text : TextRange) (part : Half) (pc value : ℕ) → IsProper text (moves_to part pc value)
moves_proper text half.High pc value = unwritten text _ tt refl
moves_proper text half.Low pc value = unwritten text _ tt refl

load_proper : (text : TextRange) (pc size a : ℕ) (regs : List (ℕ × ℕ)) → IsRising 0 regs → IfOk (aligned size a (Ok (loads pc a regs))) (IsProper text)
load_proper text pc size a regs rising = aligned_proper text size a (Ok (loads pc a regs)) (λ _. unwritten text (loads pc a regs) rising refl)

pub outcome_proper : (does : Action) (s : Reader) (i : Instr) (pc : ℕ) (text : TextRange) → AreRegisters i → (TakesPair does → i.rt < 31) → IfOk (outcome_of does s i pc text) (IsProper text)
outcome_proper action.Nothing s i pc text are pair = unwritten text _ tt refl
outcome_proper action.Float s i pc text are pair = tt
outcome_proper action.Break s i pc text are pair = tt
outcome_proper (action.Jump keeps) s i pc text are pair = unwritten text _ (linked_rising keeps 31 pc (omega arith)) refl
outcome_proper (action.JumpRegister keeps) s i pc text are pair = unwritten text _ (linked_rising keeps i.rd pc are.rd) refl
outcome_proper (action.Branch test) s i pc text are pair = branches_proper text (is_taken test (s.regs i.rs) (s.regs i.rt)) pc (branch_target pc i.imm)
outcome_proper (action.Compute f form) s i pc text are pair = unwritten text _ (written_rising _ _ (target_below form i are)) refl
outcome_proper (action.Exact f form) s i pc text are pair = exactly_if text _ _ _ _ (target_below form i are)
outcome_proper (action.Multiply sign) s i pc text are pair = unwritten text _ tt refl
outcome_proper (action.Divide sign) s i pc text are pair = divides_if text _ _ _ _
outcome_proper (action.MoveFrom part) s i pc text are pair = unwritten text _ (written_rising i.rd _ are.rd) refl
outcome_proper (action.MoveTo part) s i pc text are pair = moves_proper text part pc _
outcome_proper (action.Load kind form) s i pc text are pair =
    load_proper text pc (loaded_size kind) (address_of form s i) _ (written_rising i.rt (loaded_of kind s (address_of form s i)) are.rt)
outcome_proper (action.LoadPair form) s i pc text are pair =
    load_proper text pc 8 (address_of form s i) _ (pair_rising i.rt (word_at s (address_of form s i)) (word_at s (address_of form s i + 4)) (pair tt))
outcome_proper (action.LoadPart part) s i pc text are pair = unwritten text _ (written_rising i.rt _ are.rt) refl
outcome_proper (action.Store kind form) s i pc text are pair = store_proper kind s i pc text _ (address_below form s i)
outcome_proper (action.StorePart part) s i pc text are pair =
    store_part_proper part s i pc text _ (address_below address.Offset s i)
