-- The checks of a trace from left to right, with the first one that fails. A function takes the
-- bytes from a place on, and answers a value and the bytes after it.
use Rattle.std.specs.Prelude.{◌≡◌, ◌≢◌, ◌<◌, ◌+◌, ◌-◌, ◌^◌, ℕ, zero, suc, true, false, List, [], ◌∷◌, length, take, drop, Result, Ok, Err, nat_lt, nat_eq, slice_index, if◌then◌else◌}
use Rattle.ss_base.specs.Text.{word_at, double_at}
use Rattle.event_trace.specs.declared.fault.TraceWhy.{TraceWhy}
use Rattle.event_trace.specs.declared.fault.TraceWhy.TheVariants as why
use Rattle.event_trace.specs.declared.fault.TraceFault.{TraceFault}
use Rattle.event_trace.specs.declared.fault.TraceFault.TheVariants as faults
use Rattle.event_trace.specs.declared.fault.Stop.{Stop}
use Rattle.event_trace.specs.declared.fault.Stop.TheVariants as stops
use Rattle.event_trace.specs.declared.trace.CallKind.{CallKind}
use Rattle.event_trace.specs.declared.trace.CallKind.TheVariants.{Plain, Emit, Exit}
use Rattle.event_trace.specs.declared.trace.Block.{Block}
use Rattle.event_trace.specs.declared.trace.Record.{Record}
use Rattle.event_trace.specs.declared.trace.Trace.{Trace}
use Rattle.event_trace.specs.declared.record_reading.Head.{Head}
use Rattle.event_trace.specs.declared.reading.Start.{Start}
use Rattle.event_trace.specs.Grammar.{next_register, next_block, next_record}

-- a check that fails, at the field that has this many bytes left from its first byte on
pub record Refusal : Type 0 where
  pub left : ℕ
  pub why : TraceWhy

infixl 10 ◌>>=◌
abbrev pub ◌>>=◌ : {A B : Type 0} → Result A Refusal → (A → Result B Refusal) → Result B Refusal
(Ok x) >>= f = f x
(Err e) >>= f = Err e

abbrev pub refuse : {A : Type 0} → ℕ → TraceWhy → Result A Refusal
refuse left reason = Err (record { left = left; why = reason })

-- the file ends inside a field, which is told at the file's end
abbrev pub short : {A : Type 0} → Result A Refusal
short = refuse 0 why.Short

-- What a function returned, seen by view, is what reading gives, unless memory ran out.
abbrev pub Fails : {Y : Type 0} → Stop → Result Y Refusal → Type 0
Fails stops.NoMemory read = Unit {0}
Fails (stops.Refused left reason) read = read ≡ refuse left reason

abbrev pub Gives : {X Y : Type 0} → (X → Y) → Result X Stop → Result Y Refusal → Type 0
Gives view (Ok x) read = read ≡ Ok (view x)
Gives view (Err e) read = Fails e read

-- items one after the other, each judged with the least number that it may have
unfoldable pub items_at : {A : Type 0} → (ℕ → List ℕ → Result (A × List ℕ) Refusal) → (A → ℕ) → ℕ → ℕ → List ℕ → Result (List A × List ℕ) Refusal
items_at one next zero least bytes = Ok ([], bytes)
items_at one next (suc n) least bytes = do
  first ← one least bytes
  others ← items_at one next n (next first.0) first.1
  Ok (first.0 ∷ others.0, others.1)

-- a register, and then its value
unfoldable pub register_at : ℕ → List ℕ → Result ((ℕ × ℕ) × List ℕ) Refusal
register_at least bytes =
    if nat_lt (length bytes) 4 then short else
    if nat_lt (word_at bytes 0) least then refuse (length bytes) why.Register else
    if nat_lt 31 (word_at bytes 0) then refuse (length bytes) why.Register else
    if nat_lt (length bytes) 8 then short else
    Ok ((word_at bytes 0, word_at bytes 4), drop 8 bytes)

-- an address and a length, and then that many bytes
unfoldable pub block_at : ℕ → List ℕ → Result (Block × List ℕ) Refusal
block_at least bytes =
    if nat_lt (length bytes) 8 then short else
    if nat_lt (word_at bytes 4) 1 then refuse (length bytes) why.Block else
    if nat_lt 65536 (word_at bytes 4) then refuse (length bytes) why.Block else
    if nat_lt (2 ^ 32) (word_at bytes 0 + word_at bytes 4) then refuse (length bytes) why.Block else
    if nat_lt (length (drop 8 bytes)) (word_at bytes 4) then short else
    Ok (record { addr = word_at bytes 0; bytes = take (word_at bytes 4) (drop 8 bytes) }, drop (word_at bytes 4) (drop 8 bytes))

abbrev pub kind_of : ℕ → CallKind
kind_of zero = Plain
kind_of (suc zero) = Emit
kind_of (suc (suc n)) = Exit

-- the checks of a record's head but the last
unfoldable pub fields_check : ℕ → List ℕ → Result (Unit {0}) Refusal
fields_check least bytes =
    if nat_lt (double_at bytes 0) least then refuse (length bytes) why.Order else
    if nat_lt (10 ^ 15) (double_at bytes 0) then refuse (length bytes) why.Order else
    if nat_lt 2 (slice_index bytes 12) then refuse (length bytes - 12) why.Kind else
    if nat_lt 8 (slice_index bytes 13) then refuse (length bytes - 13) why.Many else
    if nat_lt 16 (slice_index bytes 14) then refuse (length bytes - 14) why.Many else
    if nat_lt 8 (slice_index bytes 15) then refuse (length bytes - 15) why.Many else
    if nat_lt 16 (slice_index bytes 16) then refuse (length bytes - 16) why.Many else
    if nat_lt 0 (slice_index bytes 17) then refuse (length bytes - 17) why.Pad else
    if nat_lt 0 (slice_index bytes 18) then refuse (length bytes - 17) why.Pad else
    if nat_lt 0 (slice_index bytes 19) then refuse (length bytes - 17) why.Pad else
    Ok tt

-- the last: an exit has no outputs, and another call has no code
unfoldable pub exit_check : List ℕ → Result (Unit {0}) Refusal
exit_check bytes =
    if nat_eq (slice_index bytes 12) 2 then
    if nat_lt 0 (slice_index bytes 15) then refuse (length bytes - 15) why.Exit else
    if nat_lt 0 (slice_index bytes 16) then refuse (length bytes - 15) why.Exit else
    Ok tt
    else
    if nat_lt 0 (word_at bytes 20) then refuse (length bytes - 20) why.Exit else
    Ok tt

-- what stands in a record's head
abbrev pub head_of : List ℕ → Head
head_of bytes = record {
  icnt = double_at bytes 0;
  pc = word_at bytes 8;
  kind = kind_of (slice_index bytes 12);
  ins = slice_index bytes 13;
  in_blocks = slice_index bytes 14;
  outs = slice_index bytes 15;
  out_blocks = slice_index bytes 16;
  code = word_at bytes 20;
}

-- a record's head, which is one field
unfoldable pub head_at : ℕ → List ℕ → Result (Head × List ℕ) Refusal
head_at least bytes = if nat_lt (length bytes) 24 then short else
    fields_check least bytes >>= λ _. exit_check bytes >>= λ _. Ok (head_of bytes, drop 24 bytes)

-- a head, and the lists that it counts
unfoldable pub record_at : ℕ → List ℕ → Result (Record × List ℕ) Refusal
record_at least bytes = do
  head ← head_at least bytes
  ins ← items_at register_at next_register head.0.ins 1 head.1
  in_blocks ← items_at block_at next_block head.0.in_blocks 0 ins.1
  outs ← items_at register_at next_register head.0.outs 1 in_blocks.1
  out_blocks ← items_at block_at next_block head.0.out_blocks 0 outs.1
  Ok (
    record {
      icnt = head.0.icnt;
      pc = head.0.pc;
      kind = head.0.kind;
      code = head.0.code;
      ins = ins.0;
      in_blocks = in_blocks.0;
      outs = outs.0;
      out_blocks = out_blocks.0;
    },
    out_blocks.1,
  )

-- the version whose magic the first eight bytes are, read as a number: PEXT0001 or PEXT0002; 0 for others
abbrev pub version_of : List ℕ → ℕ
version_of bytes =
    if nat_eq (double_at bytes 0) 0x3130303054584550 then 1 else
    if nat_eq (double_at bytes 0) 0x3230303054584550 then 2 else 0

-- the magic, the number of records, and in version 2 the byte order
unfoldable pub start_at : List ℕ → Result (Start × List ℕ) Refusal
start_at bytes =
    if nat_lt (length bytes) 8 then short else
    if nat_eq (version_of bytes) 0 then refuse (length bytes) why.Magic else
    if nat_lt (length bytes) 12 then short else
    if nat_lt 1000000 (word_at bytes 8) then refuse (length bytes - 8) why.Count else
    if nat_eq (version_of bytes) 1 then Ok (record { version = 1; big = false; count = word_at bytes 8 }, drop 12 bytes) else
    if nat_lt (length bytes) 16 then short else
    if nat_lt 1 (word_at bytes 12) then refuse (length bytes - 12) why.ByteOrder else
    Ok (record { version = 2; big = nat_eq (word_at bytes 12) 1; count = word_at bytes 8 }, drop 16 bytes)

-- all of the bytes
unfoldable pub trace_at : List ℕ → Result Trace Refusal
trace_at bytes = do
  start ← start_at bytes
  records ← items_at record_at next_record start.0.count 0 start.1
  if nat_lt 0 (length records.1) then refuse (length records.1) why.Extra else Ok (record { file = true; version = start.0.version; big = start.0.big; records = records.0 })

-- the same with places that are counted from the file's start
abbrev pub placed : ℕ → Result Trace Refusal → Result Trace TraceFault
placed total (Ok t) = Ok t
placed total (Err e) = Err (faults.Bad (total - e.left) e.why)

-- the trace that the bytes stand for, or the place and the reason of the first check that fails
abbrev pub checked : List ℕ → Result Trace TraceFault
checked bytes = placed (length bytes) (trace_at bytes)

-- an answer is that one, unless memory ran out
abbrev pub Answers : Result Trace TraceFault → Result Trace TraceFault → Type 0
Answers (Err faults.OutOfMemory) answer = Unit {0}
Answers (Err (faults.Bad at reason)) answer = answer ≡ Err (faults.Bad at reason)
Answers (Ok t) answer = answer ≡ Ok t

-- where a reason stands in a file of a size: Short at its end, every other one at a byte of it; that the orders differ is no reason
pub record IsPlaced (size at : ℕ) (reason : TraceWhy) : Type 0 where
  pub short : reason ≡ why.Short → at ≡ size
  pub field : reason ≢ why.Short → at < size
  pub other : reason ≢ why.OtherOrder

abbrev pub Placed : ℕ → TraceFault → Type 0
Placed size (faults.Bad at reason) = IsPlaced size at reason
Placed size faults.OutOfMemory = Unit {0}
