-- The state that a point holds, and whether a point belongs to an object.
use Rattle.std.specs.Prelude.{◌≡◌, ◌+◌, ◌<◌, ℕ, Bool, true, ◌&&◌, List, [], ◌∷◌, length, slice_index, Result, Ok, Err, nat_eq, not, if◌then◌else◌}
use Rattle.ecoff_load.specs.declared.image.Text.{Text}
use Rattle.event_trace.specs.Grammar.{order_number}
use Rattle.paged_mem.specs.Memory.{byte_of}
use Rattle.sim_safe.specs.State.{State, Storage, state_of, HoldsText}
use Rattle.checkpoint.specs.declared.fault.PointWhy.{PointWhy}
use Rattle.checkpoint.specs.declared.fault.PointWhy.TheVariants as why
use Rattle.checkpoint.specs.declared.fault.PointFault.{PointFault}
use Rattle.checkpoint.specs.declared.fault.PointFault.TheVariants as faults
use Rattle.checkpoint.specs.declared.point.Head.{Head}
use Rattle.checkpoint.specs.State.{PointState}

-- ---- the state

-- the state that a point holds of a machine whose program has this text
abbrev pub state_held : PointState → Text → State
state_held p text = record {
  pc = p.head.pc;
  reads = record {
    regs = slice_index (0 ∷ p.head.regs);
    hi = p.head.hi;
    lo = p.head.lo;
    bytes = byte_of p.pages;
    big = p.head.big;
  };
  icnt = p.head.icnt;
  used = p.head.used;
  ended = p.head.ended;
  text = text;
}

-- the head of a point of version 2 of a machine
abbrev pub head_taken : Storage → Head
head_taken m = record {
  version = 2;
  big = m.text.big;
  icnt = m.icnt;
  pc = m.pc;
  regs = m.regs;
  hi = m.hi;
  lo = m.lo;
  used = m.used;
  ended = m.ended;
  text_start = m.text.start;
  text_length = length m.text.bytes;
}

-- a point of version 2 of a machine: the machine's state, and where the text of the machine's program lies
pub record IsPointOf (m : Storage) (p : PointState) : Type 0 where
  pub version : p.head.version ≡ 2
  pub state : state_held p m.text ≡ state_of m
  pub text_start : p.head.text_start ≡ m.text.start
  pub text_length : p.head.text_length ≡ length m.text.bytes

-- ---- the object

-- these bytes stand in memory from an address on
abbrev pub stands : (ℕ → ℕ) → ℕ → List ℕ → Bool
stands memory at [] = true
stands memory at (byte ∷ bytes) = nat_eq (memory at) byte && stands memory (at + 1) bytes

-- where a point says its byte order: version 1 says it with the magic
abbrev pub order_place : ℕ → ℕ
order_place version = if nat_eq version 2 then 180 else 0

abbrev pub refused : ℕ → PointWhy → Result (Unit {0}) PointFault
refused at reason = Err (faults.Bad at reason)

-- the first check that fails of a point's head with the text of an object
unfoldable pub head_fit : Head → Text → Result (Unit {0}) PointFault
head_fit h text =
    if not (nat_eq (order_number h.big) (order_number text.big)) then refused (order_place h.version) why.OtherOrder else
    if not (nat_eq h.text_start text.start) then refused 168 why.Text else
    if not (nat_eq h.text_length (length text.bytes)) then refused 172 why.Text else
    Ok tt

-- the bytes of the text are the object's
unfoldable pub text_fit : (ℕ → ℕ) → Text → Result (Unit {0}) PointFault
text_fit memory text = if stands memory text.start text.bytes then Ok tt else refused 176 why.OtherText

-- the first of two answers that is a refusal
abbrev pub first_refusal : Result (Unit {0}) PointFault → Result (Unit {0}) PointFault → Result (Unit {0}) PointFault
first_refusal (Ok x) second = second
first_refusal (Err e) second = Err e

-- the first check that fails of a point with the text of an object
abbrev pub fit : PointState → Text → Result (Unit {0}) PointFault
fit p text = first_refusal (head_fit p.head text) (text_fit (byte_of p.pages) text)

-- a refusal is that of the first check that fails, unless memory ran out
abbrev pub IsRefusal : Result (Unit {0}) PointFault → PointFault → Type 0
IsRefusal checks faults.OutOfMemory = Unit {0}
IsRefusal checks (faults.Bad at reason) = checks ≡ Err (faults.Bad at reason)

-- a point is one of a program with this text: byte order, where the text lies, and its bytes
pub record Fits (p : PointState) (text : Text) : Type 0 where
  pub order : p.head.big ≡ text.big
  pub start : p.head.text_start ≡ text.start
  pub size : p.head.text_length ≡ length text.bytes
  pub content : HoldsText (byte_of p.pages) text
