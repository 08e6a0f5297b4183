-- The record that a call uses.
use Rattle.std.proofs.Common.{◌≡◌, ℕ, sym, ap, subst, refl, inl, inr}
use Rattle.std.specs.Prelude.{true, false, Option, Some, None, slice_get}
use Rattle.pisa_isa.specs.declared.instr.Instr.{Instr}
use Rattle.pisa_step.specs.declared.cause.Cause.{Cause}
use Rattle.event_trace.specs.declared.trace.Record.{Record}
use Rattle.event_trace.specs.declared.trace.Trace.{Trace}
use Rattle.event_trace.specs.Grammar.{IsTrace, IsRecord, next_record}
use Rattle.paged_mem.specs.Memory.{Pages}
use Rattle.sim_safe.specs.declared.record.CallNote.{CallNote}
use Rattle.sim_safe.specs.State.{State, range_of}
use Rattle.sim_safe.specs.Record.{IsRunTrace, call_by}
use Rattle.sim_safe.specs.Call.{comparisons, mismatch, block_in_text}
use Rattle.sim_safe.specs.Step.{Outcome, Next, unless, replayed, replayed_next, called, call_recorded, served, TakesNoMemory}
use Rattle.sim_safe.specs.Replay.{FitsCall, HeldFor}
use Rattle.sim_safe.proofs.Lists.{in_turn_get}

-- a trace with a file is one that a file brought
pub is_file : (trace : Trace) → IsRunTrace trace → trace.file ≡ true → IsTrace trace
is_file trace run file = elim run [ inl e ↦ (let f : trace.file ≡ false = ap (λ (t : Trace). t.file) e in cc) | inr is ↦ is ]

-- the record that is next is one that a trace can bring
pub record_fits : (trace : Trace) (k : ℕ) (r : Record) → IsRunTrace trace → trace.file ≡ true → slice_get trace.records k ≡ Some r → FitsCall r
record_fits trace k r run file e =
    let fits = (in_turn_get IsRecord next_record 0 trace.records k r (is_file trace run file).records e).1 in
    record { ins = fits.ins; in_blocks = fits.in_blocks; outs = fits.outs; out_blocks = fits.out_blocks }

-- with a file a call goes by the record that is next
pub called_some : (trace : Trace) (s : State) (i : Instr) (r : Record) → trace.file ≡ true → slice_get trace.records s.used ≡ Some r → replayed s i r ≡ called trace s i
called_some trace s i r file next = rw (file, next) refl

pub called_none : (trace : Trace) (s : State) (i : Instr) → trace.file ≡ true → slice_get trace.records s.used ≡ None → replayed_next s i None ≡ called trace s i
called_none trace s i file next = rw (file, next) refl

by_record : (trace : Trace) (note : CallNote) (r : Record) → trace.file ≡ true → slice_get trace.records note.used ≡ Some r → call_by trace (Some note) ≡ Some r
by_record trace note r file next = rw (file, next) refl

held_if : (trace : Trace) (pages : Pages) (s : State) (i : Instr) (r : Record) (m b : Option Cause) → trace.file ≡ true → slice_get trace.records s.used ≡ Some r
    → (let o : Outcome = unless m (unless b (Next (call_recorded s i (record { used = s.used; kind = r.kind; code = r.code }) r.outs) (served s r))) in TakesNoMemory trace pages o → HeldFor pages r o)
held_if trace pages s i r (Some why) b file next takes = tt
held_if trace pages s i r None (Some why) file next takes = tt
held_if trace pages s i r None None file next takes =
    takes.blocks r (by_record trace (record { used = s.used; kind = r.kind; code = r.code }) r file next)

-- a call that takes no memory has its pages reserved
pub call_held : (trace : Trace) (pages : Pages) (s : State) (i : Instr) (r : Record) → trace.file ≡ true → slice_get trace.records s.used ≡ Some r
    → TakesNoMemory trace pages (called trace s i) → HeldFor pages r (replayed s i r)
call_held trace pages s i r file next takes =
    held_if trace pages s i r (mismatch (comparisons s r)) (block_in_text (range_of s.text) r.out_blocks) file next
    (subst (TakesNoMemory trace pages) (sym (called_some trace s i r file next)) takes)
