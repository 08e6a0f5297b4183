-- One step of the functional machine.
use Rattle.std.specs.Prelude.{◌≡◌, ◌+◌, ℕ, List, [], ◌∷◌, length, Bool, true, false, Option, Some, None, Result, Ok, Err, nat_eq, slice_get, if◌then◌else◌}
use Rattle.std.specs.Option.{ForSome}
use Rattle.ecoff_load.specs.Fetch.{fetch}
use Rattle.ss_base.specs.declared.fault.OutOfMemory.{OutOfMemory}
use Rattle.pisa_isa.specs.declared.instr.Op.{Op}
use Rattle.pisa_isa.specs.declared.instr.Op.TheVariants as op
use Rattle.pisa_isa.specs.declared.instr.Instr.{Instr}
use Rattle.pisa_isa.specs.Coding.{decoded}
use Rattle.pisa_step.specs.declared.cause.Cause.{Cause}
use Rattle.pisa_step.specs.declared.cause.Cause.TheVariants as cause
use Rattle.pisa_step.specs.declared.changes.Changes.{Changes}
use Rattle.pisa_step.specs.Reader.{regs_after}
use Rattle.pisa_step.specs.Words.{word_sum}
use Rattle.pisa_step.specs.Effect.{effect_of, changed, vec_of}
use Rattle.paged_mem.specs.Memory.{Pages, IsRangeReserved}
use Rattle.event_trace.specs.declared.trace.CallKind.TheVariants as kind
use Rattle.event_trace.specs.declared.trace.Block.{Block}
use Rattle.event_trace.specs.declared.trace.Record.{Record}
use Rattle.event_trace.specs.declared.trace.Trace.{Trace}
use Rattle.sim_safe.specs.declared.record.CallNote.{CallNote}
use Rattle.sim_safe.specs.declared.record.CommitRecord.{CommitRecord}
use Rattle.sim_safe.specs.declared.record.Peek.{Peek}
use Rattle.sim_safe.specs.declared.record.Peek.TheVariants as peek
use Rattle.sim_safe.specs.declared.record.Stepped.{Stepped}
use Rattle.sim_safe.specs.declared.record.Stepped.TheVariants as stepped
use Rattle.sim_safe.specs.State.{State, Storage, state_of, range_of}
use Rattle.sim_safe.specs.Record.{call_by}
use Rattle.sim_safe.specs.Call.{comparisons, mismatch, block_in_text, blocks_written, exit_of}

-- what a step does: an instruction is done, or the step stops and changes nothing
pub data Outcome : Type 0 where
  Next : (did : CommitRecord) (after : State) → Outcome
  Halt : (why : Cause) → Outcome

-- ---- instructions that are no calls

abbrev pub recorded : State → Instr → Changes → CommitRecord
recorded s i e = record {
  number = s.icnt;
  pc = s.pc;
  instr = i;
  next = e.next;
  taken = e.taken;
  regs = vec_of e.regs.items;
  hi = e.hi;
  lo = e.lo;
  mem = e.mem;
  access = e.access;
  call = None;
}

abbrev pub moved : State → Changes → State
moved s e = record s { pc = e.next; reads = changed s.reads e; icnt = s.icnt + 1 }

abbrev pub executed : State → Instr → Result Changes Cause → Outcome
executed s i (Ok e) = Next (recorded s i e) (moved s e)
executed s i (Err why) = Halt why

-- ---- system calls

-- the record of a call, with the registers that it wrote
abbrev pub call_recorded : State → Instr → CallNote → List (ℕ × ℕ) → CommitRecord
call_recorded s i note regs = record {
  number = s.icnt;
  pc = s.pc;
  instr = i;
  next = word_sum s.pc 8;
  taken = false;
  regs = vec_of regs;
  hi = None;
  lo = None;
  mem = None;
  access = None;
  call = Some note;
}

-- the exit code of a call without a trace: register 4, where register 2 holds 1
abbrev pub exit_asked : State → Option ℕ
exit_asked s = if nat_eq (s.reads.regs 2) 1 then Some (s.reads.regs 4) else None

-- without a trace a call is an exit with its code, or there is no record for it
abbrev pub unrecorded_as : State → Instr → Option ℕ → Outcome
unrecorded_as s i (Some code) =
    Next (call_recorded s i (record { used = 0; kind = kind.Exit; code = code }) [])
    (record s { pc = word_sum s.pc 8; icnt = s.icnt + 1; ended = Some code })
unrecorded_as s i None = Halt (cause.TraceEnd s.used)

abbrev pub unrecorded : State → Instr → Outcome
unrecorded s i = unrecorded_as s i (exit_asked s)

-- the state after a call that is done by its record
abbrev pub served : State → Record → State
served s r = record s {
  pc = word_sum s.pc 8;
  reads = record s.reads { regs = regs_after s.reads.regs r.outs; bytes = blocks_written s.reads.bytes r.out_blocks };
  icnt = s.icnt + 1;
  used = s.used + 1;
  ended = exit_of r.kind r.code;
}

-- a cause stops the step
abbrev pub unless : Option Cause → Outcome → Outcome
unless None otherwise = otherwise
unless (Some why) otherwise = Halt why

-- a call by its record: all that the call reads must be as recorded, and its writes meet no text
abbrev pub replayed : State → Instr → Record → Outcome
replayed s i r =
    unless (mismatch (comparisons s r)) (unless (block_in_text (range_of s.text) r.out_blocks)
    (Next (call_recorded s i (record { used = s.used; kind = r.kind; code = r.code }) r.outs) (served s r)))

-- the next record that is left, or none
abbrev pub replayed_next : State → Instr → Option Record → Outcome
replayed_next s i None = Halt (cause.TraceEnd s.used)
replayed_next s i (Some r) = replayed s i r

abbrev pub called : Trace → State → Instr → Outcome
called trace s i = if trace.file then replayed_next s i (slice_get trace.records s.used) else unrecorded s i

-- ---- a step

abbrev pub is_call : Op → Bool
is_call op.Syscall = true
is_call _ = false

-- the step at an instruction
abbrev pub step_at : Trace → State → Instr → Outcome
step_at trace s i = if is_call i.op then called trace s i else executed s i (effect_of s.reads i s.pc (range_of s.text))

-- the step at two words, which code an instruction or none
abbrev pub step_decoded : Trace → State → Option Instr → Outcome
step_decoded trace s None = Halt cause.Illegal
step_decoded trace s (Some i) = step_at trace s i

-- the step at fetched words, or where there is no instruction
abbrev pub step_fetched : Trace → State → Option (ℕ × ℕ) → Outcome
step_fetched trace s None = Halt cause.BadFetch
step_fetched trace s (Some words) = step_decoded trace s (decoded words.0 words.1)

-- the step of a program that has exited, or still runs
abbrev pub step_running : Trace → State → Option ℕ → Outcome
step_running trace s (Some code) = Halt (cause.Exited code)
step_running trace s None = step_fetched trace s (fetch s.text s.pc)

-- what the next step of a state does
unfoldable pub step_of : Trace → State → Outcome
step_of trace s = step_running trace s s.ended

-- ---- answers

-- what the next step would do, without the writes
abbrev pub peeked_at : Instr → Option CallNote → Peek
peeked_at i None = peek.Plain i
peeked_at i (Some note) = peek.Call note

abbrev pub peek_of : Outcome → Peek
peek_of (Next r s) = peeked_at r.instr r.call
peek_of (Halt why) = peek.Stop why

-- an answer of the program together with the state after it
abbrev pub outcome_of : Stepped → State → Outcome
outcome_of (stepped.Did r) now = Next r now
outcome_of (stepped.Stop why) now = Halt why

-- a step that stops leaves everything as it was, its pages too
abbrev pub StepStays : Stepped → Storage → Storage → Type 0
StepStays (stepped.Did r) old new = new.icnt ≡ old.icnt + 1
StepStays (stepped.Stop why) old new = new ≡ old

-- an answer and what is left are this outcome; want of memory leaves the state as it was
abbrev pub Does : Outcome → Storage → Storage → Result Stepped OutOfMemory → Type 0
Does outcome old new (Ok r) = (outcome_of r (state_of new) ≡ outcome) × StepStays r old new
Does outcome old new (Err _) = state_of new ≡ state_of old

-- what a step answers and leaves
abbrev pub Steps : Trace → Storage → Storage → Result Stepped OutOfMemory → Type 0
Steps trace old new result = Does (step_of trace (state_of old)) old new result

-- the pages that an instruction's store writes are reserved
abbrev pub StoreHeld : Pages → Changes → Type 0
StoreHeld pages e = ForSome e.mem (λ w. IsRangeReserved pages w.addr (length w.bytes.items))

-- the pages of blocks are reserved
abbrev pub AreBlocksReserved : Pages → List Block → Type 0
AreBlocksReserved pages [] = Unit {0}
AreBlocksReserved pages (b ∷ bs) = IsRangeReserved pages b.addr (length b.bytes) × AreBlocksReserved pages bs

-- all that an instruction writes to memory lies in reserved pages
pub record WritesReserved (trace : Trace) (pages : Pages) (r : CommitRecord) : Type 0 where
  pub store : ForSome r.mem (λ w. IsRangeReserved pages w.addr (length w.bytes.items))
  pub blocks : ForSome (call_by trace r.call) (λ c. AreBlocksReserved pages c.out_blocks)

-- a step whose writes touch reserved pages alone, or that stops
abbrev pub TakesNoMemory : Trace → Pages → Outcome → Type 0
TakesNoMemory trace pages (Next r s) = WritesReserved trace pages r
TakesNoMemory trace pages (Halt why) = Unit {0}
