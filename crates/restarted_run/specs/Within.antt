-- What every state that a run reaches keeps to.
use Rattle.std.specs.Prelude.{◌≡◌, ◌+◌, ◌^◌, ◌<◌, ◌≤◌, ℕ, List, length, slice_index}
use Rattle.std.specs.List.{AllByRecursion}
use Rattle.ecoff_load.specs.declared.image.Image.{Image}
use Rattle.ecoff_load.specs.Object.{IsText}
use Rattle.ecoff_load.specs.Start.{block}
use Rattle.event_trace.specs.declared.trace.Trace.{Trace}
use Rattle.sim_safe.specs.State.{State, HoldsText}
use Rattle.checkpoint.specs.Grammar.{IsCode}
use Rattle.cut_run.specs.Point.{HasNoOthers}

-- each number of a state fits its place: words have 32 bits, bytes 8
pub record IsWithin (s : State) : Type 0 where
  pub pc : s.pc < 2 ^ 32
  pub registers : (n : ℕ) → s.reads.regs n < 2 ^ 32
  pub hi : s.reads.hi < 2 ^ 32
  pub lo : s.reads.lo < 2 ^ 32
  pub bytes : (a : ℕ) → s.reads.bytes a < 2 ^ 8
  pub others : HasNoOthers s
  pub used : s.used < 2 ^ 32
  pub code : IsCode s.ended

-- the text is one that an object can bring, of the state's byte order, and its bytes stand in memory
pub record HoldsProgram (s : State) : Type 0 where
  pub fits : IsText s.text
  pub order : s.reads.big ≡ s.text.big
  pub content : HoldsText s.reads.bytes s.text

-- ---- what comes into a state

-- each is a byte; behind the end of a list 0 is read
abbrev pub AreBytes : List ℕ → Type 0
AreBytes bytes = (k : ℕ) → slice_index bytes k < 2 ^ 8

-- what the recorded calls of a trace write to memory
abbrev pub WritesBytes : Trace → Type 0
WritesBytes trace = AllByRecursion (λ r. AllByRecursion (λ b. AreBytes b.bytes) r.out_blocks) trace.records

-- what an image brings to memory
pub record BringsBytes (image : Image) : Type 0 where
  pub text : AreBytes image.text.bytes
  pub parts : AllByRecursion (λ p. AreBytes p.bytes) image.parts

-- the start block of these arguments is bytes, and ends at or below 2^32
pub record FitsBlock (image : Image) (args : List (List ℕ)) : Type 0 where
  pub bytes : AreBytes (block image.text.big args)
  pub end : 0x7fff8000 + length (block image.text.big args) ≤ 2 ^ 32
