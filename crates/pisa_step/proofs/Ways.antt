-- The ways in which an action may end: what holds of the changes of each holds of its changes.
use Rattle.std.proofs.Common.{◌≡◌, ◌+◌, ◌%◌, ℕ, ℤ, Bool, true, false, List, [], ◌++◌, Some, Result, Ok, Err, length, IfOk, subst, if◌then◌else◌, ◌==◌}
use Rattle.pisa_isa.specs.declared.instr.Instr.{Instr}
use Rattle.pisa_step.specs.declared.action.Loaded.{Loaded}
use Rattle.pisa_step.specs.declared.action.Side.{Side}
use Rattle.pisa_step.specs.declared.action.Sign.{Sign}
use Rattle.pisa_step.specs.declared.action.Stored.{Stored}
use Rattle.pisa_step.specs.Reader.{Reader}
use Rattle.pisa_step.specs.declared.cause.Cause.{Cause}
use Rattle.pisa_step.specs.declared.cause.Cause.TheVariants as cause
use Rattle.pisa_step.specs.declared.changes.Changes.{Changes}
use Rattle.pisa_step.specs.declared.changes.TextRange.{TextRange}
use Rattle.pisa_step.specs.Words.{is_in_word, word_of}
use Rattle.pisa_step.specs.Arithmetic.{quotient_of, remainder_of}
use Rattle.pisa_step.specs.Memory.{loaded_of, loaded_size, meets, part_start, part_stored, stored_of, stored_size, word_at}
use Rattle.pisa_step.specs.Effect.{aligned, branches, divides, exactly, going_on, jumps, load_at, load_pair_at, loads, store_at, store_part_at, stores, vec_of, writes_both, writes_reg, written}

-- what holds of the changes of an answer holds of the changes that it has
pub settle : (P : Changes → Type 0) (r : Result Changes Cause) (e : Changes) → r ≡ Ok e → IfOk r P → P e
settle P (Ok x) e is holds = let same : x ≡ e = cc in subst P same holds
settle P (Err why) e is holds = absurd (cc)

where_true : (P : Changes → Type 0) (test : Bool) (next : Result Changes Cause) (why : Cause) → IfOk next P → IfOk (if test then next else Err why) P
where_true P true next why holds = holds
where_true P false next why holds = tt

where_false : (P : Changes → Type 0) (test : Bool) (next : Result Changes Cause) (why : Cause) → IfOk next P → IfOk (if test then Err why else next) P
where_false P true next why holds = tt
where_false P false next why holds = holds

pub aligned_any : (P : Changes → Type 0) (size a : ℕ) (next : Result Changes Cause) → IfOk next P → IfOk (aligned size a next) P
aligned_any P size a next holds = where_true P (a % size == 0) next (cause.Misaligned a) holds

pub stores_any : (P : Changes → Type 0) (text : TextRange) (pc a start : ℕ) (content : List ℕ)
    → P (record (going_on pc) { mem = Some (record { addr = start; bytes = vec_of content }); access = Some a })
    → IfOk (stores text pc a start content) P
stores_any P text pc a start content holds =
    where_false P (meets text start (length content)) (Ok _) (cause.TextWrite start) holds

pub exactly_any : (P : Changes → Type 0) (z : ℤ) (pc r : ℕ) → P (writes_reg pc r (word_of z)) → IfOk (exactly z pc r) P
exactly_any P z pc r holds = where_true P (is_in_word z) (Ok (writes_reg pc r (word_of z))) cause.Overflow holds

pub divides_any : (P : Changes → Type 0) (sign : Sign) (pc a b : ℕ)
    → P (writes_both pc (remainder_of sign a b) (quotient_of sign a b)) → IfOk (divides sign pc a b) P
divides_any P sign pc a b holds = where_false P (b == 0) (Ok _) cause.DivideByZero holds

pub branches_any : (P : Changes → Type 0) (test : Bool) (pc target : ℕ)
    → P (jumps pc target []) → P (going_on pc) → P (branches test pc target)
branches_any P true pc target taken other = taken
branches_any P false pc target taken other = other

pub load_any : (P : Changes → Type 0) (size : Loaded) (s : Reader) (i : Instr) (pc a : ℕ)
    → P (loads pc a (written i.rt (loaded_of size s a))) → IfOk (load_at size s i pc a) P
load_any P size s i pc a holds = aligned_any P (loaded_size size) a (Ok (loads pc a (written i.rt (loaded_of size s a)))) holds

pub load_pair_any : (P : Changes → Type 0) (s : Reader) (i : Instr) (pc a : ℕ)
    → P (loads pc a (written i.rt (word_at s a) ++ written (i.rt + 1) (word_at s (a + 4)))) → IfOk (load_pair_at s i pc a) P
load_pair_any P s i pc a holds =
    aligned_any P 8 a (Ok (loads pc a (written i.rt (word_at s a) ++ written (i.rt + 1) (word_at s (a + 4))))) holds

-- the changes of a write of bytes
abbrev pub putting : ℕ → ℕ → ℕ → List ℕ → Changes
putting pc a start content = record (going_on pc) { mem = Some (record { addr = start; bytes = vec_of content }); access = Some a }

pub store_any : (P : Changes → Type 0) (size : Stored) (s : Reader) (i : Instr) (pc : ℕ) (text : TextRange) (a : ℕ)
    → P (putting pc a a (stored_of size s i.rt)) → IfOk (store_at size s i pc text a) P
store_any P size s i pc text a holds =
    aligned_any P (stored_size size) a (stores text pc a a (stored_of size s i.rt)) (stores_any P text pc a a (stored_of size s i.rt) holds)

pub store_part_any : (P : Changes → Type 0) (side : Side) (s : Reader) (i : Instr) (pc : ℕ) (text : TextRange) (a : ℕ)
    → P (putting pc a (part_start side s.big a) (part_stored side s.big (a % 4) (s.regs i.rt))) → IfOk (store_part_at side s i pc text a) P
store_part_any P side s i pc text a holds =
    stores_any P text pc a (part_start side s.big a) (part_stored side s.big (a % 4) (s.regs i.rt)) holds
