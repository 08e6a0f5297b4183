-- Steps keep each number of a state in its place.
use Rattle.std.proofs.Common.{◌≡◌, ◌+◌, ◌<◌, ◌≤◌, ◌^◌, ℕ, zero, suc, Bool, true, false, List, [], ◌∷◌, length, Option, Some, None, Result, Ok, Err, IfOk, inl, inr, refl, sym, subst, ◌∙◌, arith, if◌then◌else◌}
use Rattle.std.specs.Prelude.{slice_get, unwrap_or}
use Rattle.std.specs.List.{AllByRecursion}
use Rattle.std.specs.Option.{ForSome}
use Rattle.std.proofs.lemmas.Option.{slice_get_within}
use Rattle.ecoff_load.specs.Fetch.{fetch}
use Rattle.pisa_isa.specs.declared.instr.Instr.{Instr}
use Rattle.pisa_isa.specs.Coding.{IsWellFormed, decoded}
use Rattle.pisa_step.specs.declared.cause.Cause.{Cause}
use Rattle.pisa_step.specs.declared.changes.Changes.{Changes}
use Rattle.pisa_step.specs.declared.changes.MemWrite.{MemWrite}
use Rattle.pisa_step.specs.declared.changes.TextRange.{TextRange}
use Rattle.pisa_step.specs.Reader.{Reader}
use Rattle.pisa_step.specs.Effect.{effect_of, with_write}
use Rattle.pisa_step.specs.Proper.{IsProper, IsRising}
use Rattle.event_trace.specs.declared.trace.CallKind.{CallKind}
use Rattle.event_trace.specs.declared.trace.CallKind.TheVariants as kind
use Rattle.event_trace.specs.declared.trace.Record.{Record}
use Rattle.event_trace.specs.declared.trace.Trace.{Trace}
use Rattle.event_trace.specs.Grammar.{InTurn, IsRecord, IsTrace, next_record, absent_trace}
use Rattle.sim_safe.specs.State.{State, range_of}
use Rattle.sim_safe.specs.Call.{comparisons, mismatch, block_in_text, exit_of}
use Rattle.sim_safe.specs.Record.{IsRunTrace}
use Rattle.sim_safe.specs.Step.{Outcome, Next, Halt, call_recorded, called, executed, exit_asked, is_call, moved, replayed_next, served, step_decoded, step_fetched, step_of, step_running, unless, unrecorded_as}
use Rattle.sim_safe.specs.Run.{after, after_more}
use Rattle.sim_safe.proofs.Decoding.{coded_formed}
use Rattle.checkpoint.specs.Grammar.{IsCode}
use Rattle.restarted_run.specs.Within.{IsWithin, AreBytes, WritesBytes}
use Rattle.restarted_run.proofs.Bytes.{regs_words, regs_zero, regs_above, registers_fit, memory_bytes, memory_above, blocks_bytes, blocks_above}
use Rattle.restarted_run.proofs.Effects.{WritesWords, effect_words}

-- ---- records of calls

-- a record that a run may use as that of a number
record FitsRecord (k : ℕ) (r : Record) : Type 0 where
  pub least : ℕ
  pub is : IsRecord least r
  pub bytes : AllByRecursion (λ b. AreBytes b.bytes) r.out_blocks
  pub count : k + 1 < 2 ^ 32

abbrev FitRecords : Trace → Type 0
FitRecords trace = (k : ℕ) (r : Record) → slice_get trace.records k ≡ Some r → FitsRecord k r

some_is : {A : Type 0} (x y : A) → Some x ≡ Some y → x ≡ y
some_is x y same = cc

record_at : (least : ℕ) (rs : List Record) → InTurn IsRecord next_record least rs → (k : ℕ) (r : Record) → slice_get rs k ≡ Some r → (l : ℕ) × IsRecord l r
record_at least [] h k r e = cc
record_at least (x ∷ xs) h zero r e = (least, subst (λ (y : Record). IsRecord least y) (some_is x r e) h.0)
record_at least (x ∷ xs) h (suc k) r e = record_at (next_record x) xs h.1 k r e

bytes_at : (rs : List Record) → AllByRecursion (λ (r : Record). AllByRecursion (λ b. AreBytes b.bytes) r.out_blocks) rs → (k : ℕ) (r : Record) → slice_get rs k ≡ Some r → AllByRecursion (λ b. AreBytes b.bytes) r.out_blocks
bytes_at [] h k r e = cc
bytes_at (x ∷ xs) h zero r e = subst (λ (y : Record). AllByRecursion (λ b. AreBytes b.bytes) y.out_blocks) (some_is x r e) h.0
bytes_at (x ∷ xs) h (suc k) r e = bytes_at xs h.1 k r e

no_records : FitRecords absent_trace
no_records k r e = cc

file_fits : (trace : Trace) → IsTrace trace → WritesBytes trace → FitRecords trace
file_fits trace is writes k r e =
    let found = record_at 0 trace.records is.records k r e in
    record {
      least = found.0;
      is = found.1;
      bytes = bytes_at trace.records writes k r e;
      count = omega (arith, is.count, slice_get_within trace.records k r e);
    }

records_fit : (trace : Trace) → IsRunTrace trace → WritesBytes trace → FitRecords trace
records_fit trace (inl absent) writes = subst (λ (t : Trace). FitRecords t) (sym absent) no_records
records_fit trace (inr is) writes = file_fits trace is writes

-- ---- instructions that are no calls

rising_below : (above : ℕ) (ws : List (ℕ × ℕ)) → IsRising above ws → AllByRecursion (λ (w : ℕ × ℕ). w.0 < 32) ws
rising_below above [] h = tt
rising_below above (w ∷ ws) h = (h.1, rising_below w.0 ws h.2)

value_or : (o : Option ℕ) (d : ℕ) → ForSome o (λ v. v < 2 ^ 32) → d < 2 ^ 32 → unwrap_or o d < 2 ^ 32
value_or None d h g = g
value_or (Some v) d h g = h v refl

write_bytes : (s : Reader) (mem : Option MemWrite) → ForSome mem (λ w. AreBytes w.bytes.items) → ((a : ℕ) → s.bytes a < 2 ^ 8) → (a : ℕ) → (with_write s mem).bytes a < 2 ^ 8
write_bytes s None h g a = g a
write_bytes s (Some w) h g a = memory_bytes s.bytes w.addr w.bytes.items g (h w refl) a

write_above : (s : Reader) (mem : Option MemWrite) (a : ℕ) → ForSome mem (λ w. w.addr + length w.bytes.items ≤ 2 ^ 32) → 2 ^ 32 ≤ a → (with_write s mem).bytes a ≡ s.bytes a
write_above s None a h high = refl
write_above s (Some w) a h high = memory_above s.bytes w.addr w.bytes.items a (h w refl) high

moved_within : (s : State) (e : Changes) → IsWithin s → IsProper (range_of s.text) e → WritesWords e → IsWithin (moved s e)
moved_within s e h p w = record {
  pc = w.next;
  registers = λ n. regs_words e.regs.items s.reads.regs w.regs h.registers n;
  hi = value_or e.hi s.reads.hi w.hi h.hi;
  lo = value_or e.lo s.reads.lo w.lo h.lo;
  bytes = λ a. write_bytes s.reads e.mem w.mem h.bytes a;
  others = record {
    zero = regs_zero e.regs.items s.reads.regs ∙ h.others.zero;
    registers = λ n high. regs_above e.regs.items s.reads.regs n (rising_below 0 e.regs.items p.rising) high ∙ h.others.registers n high;
    addresses = λ a high. write_above s.reads e.mem a p.range high ∙ h.others.addresses a high;
  };
  used = h.used;
  code = h.code;
}

abbrev StepWithin : Outcome → Type 0
StepWithin (Next r t) = IsWithin t
StepWithin (Halt why) = Unit {0}

executed_within : (s : State) (i : Instr) (e : Result Changes Cause) → IsWithin s → IfOk e (IsProper (range_of s.text)) → IfOk e WritesWords → StepWithin (executed s i e)
executed_within s i (Ok e) h p w = moved_within s e h p w
executed_within s i (Err why) h p w = tt

-- ---- system calls

unrecorded_within : (s : State) (i : Instr) (asked : Option ℕ) → IsWithin s → IsCode asked → StepWithin (unrecorded_as s i asked)
unrecorded_within s i None h code = tt
unrecorded_within s i (Some x) h code = record {
  pc = omega arith;
  registers = h.registers;
  hi = h.hi;
  lo = h.lo;
  bytes = h.bytes;
  others = record { zero = h.others.zero; registers = h.others.registers; addresses = h.others.addresses };
  used = h.used;
  code = code;
}

asked_if : (test : Bool) (x : ℕ) → x < 2 ^ 32 → IsCode (if test then Some x else None)
asked_if true x h = h
asked_if false x h = tt

exit_code : (k : CallKind) (code : ℕ) → code < 2 ^ 32 → IsCode (exit_of k code)
exit_code kind.Plain code h = tt
exit_code kind.Emit code h = tt
exit_code kind.Exit code h = h

served_within : (s : State) (r : Record) → IsWithin s → FitsRecord s.used r → IsWithin (served s r)
served_within s r h f =
    let outs = registers_fit 1 r.outs f.is.outs.1 in
    record {
      pc = omega arith;
      registers = λ n. regs_words r.outs s.reads.regs outs.1 h.registers n;
      hi = h.hi;
      lo = h.lo;
      bytes = λ a. blocks_bytes r.out_blocks s.reads.bytes f.bytes h.bytes a;
      others = record {
        zero = regs_zero r.outs s.reads.regs ∙ h.others.zero;
        registers = λ n high. regs_above r.outs s.reads.regs n outs.0 high ∙ h.others.registers n high;
        addresses = λ a high. blocks_above 0 r.out_blocks s.reads.bytes a f.is.out_blocks.1 high ∙ h.others.addresses a high;
      };
      used = f.count;
      code = exit_code r.kind r.code f.is.code;
    }

replayed_within : (s : State) (i : Instr) (r : Record) (m b : Option Cause) → IsWithin s → FitsRecord s.used r
    → StepWithin (unless m (unless b (Next (call_recorded s i (record { used = s.used; kind = r.kind; code = r.code }) r.outs) (served s r))))
replayed_within s i r (Some why) b h f = tt
replayed_within s i r None (Some why) h f = tt
replayed_within s i r None None h f = served_within s r h f

next_within : (trace : Trace) (s : State) (i : Instr) (next : Option Record) → slice_get trace.records s.used ≡ next → IsWithin s → FitRecords trace → StepWithin (replayed_next s i next)
next_within trace s i None is h fit = tt
next_within trace s i (Some r) is h fit = replayed_within s i r (mismatch (comparisons s r)) (block_in_text (range_of s.text) r.out_blocks) h (fit s.used r is)

called_within : (trace : Trace) (s : State) (i : Instr) (file : Bool) → IsWithin s → FitRecords trace → StepWithin (if file then replayed_next s i (slice_get trace.records s.used) else unrecorded_as s i (exit_asked s))
called_within trace s i true h fit = next_within trace s i (slice_get trace.records s.used) refl h fit
called_within trace s i false h fit = unrecorded_within s i (exit_asked s) h (asked_if _ (s.reads.regs 4) (h.registers 4))

-- ---- steps

-- what every instruction writes lies where it can
abbrev pub WriteWhereTheyCan : Type 0
WriteWhereTheyCan = (s : Reader) (i : Instr) (pc : ℕ) (text : TextRange) → IsWellFormed i → IfOk (effect_of s i pc text) (IsProper text)

module _ (proper : WriteWhereTheyCan) (trace : Trace) (fit : FitRecords trace) where
  at_within : (s : State) (i : Instr) (call : Bool) → IsWithin s → IsWellFormed i → StepWithin (if call then called trace s i else executed s i (effect_of s.reads i s.pc (range_of s.text)))
  at_within s i true h formed = called_within trace s i trace.file h fit
  at_within s i false h formed =
      executed_within s i (effect_of s.reads i s.pc (range_of s.text)) h (proper s.reads i s.pc (range_of s.text) formed)
      (effect_words s.reads i s.pc (range_of s.text) (record { regs = h.registers; hi = h.hi; lo = h.lo; bytes = h.bytes }) formed h.pc)

  decoded_within : (s : State) (words : ℕ × ℕ) (i : Option Instr) → i ≡ decoded words.0 words.1 → IsWithin s → StepWithin (step_decoded trace s i)
  decoded_within s words None is h = tt
  decoded_within s words (Some i) is h = at_within s i (is_call i.op) h (coded_formed words i is)

  fetched_within : (s : State) (words : Option (ℕ × ℕ)) → IsWithin s → StepWithin (step_fetched trace s words)
  fetched_within s None h = tt
  fetched_within s (Some words) h = decoded_within s words (decoded words.0 words.1) refl h

  running_within : (s : State) (ended : Option ℕ) → IsWithin s → StepWithin (step_running trace s ended)
  running_within s (Some code) h = tt
  running_within s None h = fetched_within s (fetch s.text s.pc) h

  step_within : (s : State) → IsWithin s → StepWithin (step_of trace s)
  unfolding step_of
  step_within s h = running_within s s.ended h

  more_within : (n : ℕ) (s : State) (o : Outcome) → IsWithin s → StepWithin o → ((t : State) → IsWithin t → IsWithin (after trace n t)) → IsWithin (after_more (after trace n) s o)
  more_within n s (Next r t) h g f = f t g
  more_within n s (Halt why) h g f = h

  after_within : (n : ℕ) (s : State) → IsWithin s → IsWithin (after trace n s)
  unfolding after
  after_within zero s h = h
  after_within (suc n) s h = more_within n s (step_of trace s) h (step_within s h) (λ t g. after_within n t g)

pub runs_within : WriteWhereTheyCan → (trace : Trace) (n : ℕ) (s : State) → IsRunTrace trace → WritesBytes trace → IsWithin s → IsWithin (after trace n s)
runs_within proper trace n s is writes h = after_within proper trace (records_fit trace is writes) n s h
