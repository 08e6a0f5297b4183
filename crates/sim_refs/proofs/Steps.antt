-- The records that steps and runs of the machine give.
use Rattle.std.specs.Prelude.{◌≡◌, ◌≢◌, ℕ, zero, suc, Bool, true, false, List, [], ◌∷◌, All, IsSome, is_some, Option, Some, None, Result, Ok, Err, slice_get, if◌then◌else◌}
use Rattle.std.proofs.Common.{refl, ap, arith}
use Rattle.std.proofs.lemmas.List.Elements.{All-nil, All-cons}
use Rattle.std.proofs.lemmas.List.Sums.{sum_by-cons}
use Rattle.pisa_isa.specs.declared.instr.Op.{Op}
use Rattle.pisa_isa.specs.declared.instr.Op.TheVariants as op
use Rattle.pisa_isa.specs.declared.instr.Instr.{Instr}
use Rattle.pisa_isa.specs.declared.classes.AccessKind.{AccessKind}
use Rattle.pisa_isa.specs.declared.classes.AccessKind.TheVariants as access
use Rattle.pisa_isa.specs.Classes.{access_of}
use Rattle.pisa_isa.specs.Coding.{decoded}
use Rattle.pisa_step.specs.declared.cause.Cause.{Cause}
use Rattle.pisa_step.specs.declared.changes.Changes.{Changes}
use Rattle.pisa_step.specs.Dependence.{Accesses, effective_address}
use Rattle.pisa_step.specs.Effect.{effect_of}
use Rattle.pisa_step.proofs.Going.{accesses}
use Rattle.ecoff_load.specs.Fetch.{fetch}
use Rattle.event_trace.specs.declared.trace.Record.{Record}
use Rattle.event_trace.specs.declared.trace.Trace.{Trace}
use Rattle.sim_safe.specs.declared.record.CallNote.{CallNote}
use Rattle.sim_safe.specs.declared.record.CommitRecord.{CommitRecord}
use Rattle.sim_safe.specs.State.{State, range_of}
use Rattle.sim_safe.specs.Call.{comparisons, mismatch, block_in_text}
use Rattle.sim_safe.specs.Step.{Outcome, Next, Halt, call_recorded, called, executed, exit_asked, is_call, replayed_next, served, step_decoded, step_fetched, step_of, step_running, unless, unrecorded_as}
use Rattle.sim_safe.specs.Record.{Item, item_of}
use Rattle.sim_safe.specs.Commit.{onto}
use Rattle.sim_safe.specs.Run.{items_more, items_of}
use Rattle.sim_safe.specs.Statistics.{load_count, store_count}
use Rattle.bpred_unit.specs.declared.config.PredConfig.{PredConfig}
use Rattle.sim_refs.specs.Laws.{HasAddress, StepHasAddress, records_of, AgreesWithStatistics}

-- ---- steps

call_accesses : (o : Op) → is_call o ≡ true → access_of o ≡ access.Nothing
call_accesses op.Syscall e = refl
call_accesses _ e = let no : false ≡ true = e in cc

-- a system call has no address, and needs none
called_has : (s : State) (i : Instr) (note : CallNote) (regs : List (ℕ × ℕ)) → is_call i.op ≡ true → HasAddress (call_recorded s i note regs)
called_has s i note regs call = λ other. absurd (other (call_accesses i.op call))

addressed : (k : AccessKind) (a : ℕ) (e : Changes) → Accesses k a e → k ≢ access.Nothing → IsSome e.access
addressed access.Load a e does other = ap is_some does.0
addressed access.Store a e does other = ap is_some does.0
addressed access.Nothing a e does other = absurd (other refl)

executed_has : (s : State) (i : Instr) (e : Result Changes Cause) → effect_of s.reads i s.pc (range_of s.text) ≡ e → StepHasAddress (executed s i e)
executed_has s i (Ok e) is = addressed (access_of i.op) (effective_address s.reads i) e (accesses s.reads i s.pc (range_of s.text) e is)
executed_has s i (Err why) is = tt

unrecorded_has : (s : State) (i : Instr) (asked : Option ℕ) → is_call i.op ≡ true → StepHasAddress (unrecorded_as s i asked)
unrecorded_has s i None call = tt
unrecorded_has s i (Some code) call = λ other. absurd (other (call_accesses i.op call))

replayed_if : (s : State) (i : Instr) (r : Record) (m b : Option Cause) → is_call i.op ≡ true
    → StepHasAddress (unless m (unless b (Next (call_recorded s i (record { used = s.used; kind = r.kind; code = r.code }) r.outs) (served s r))))
replayed_if s i r (Some why) b call = tt
replayed_if s i r None (Some why) call = tt
replayed_if s i r None None call = called_has s i (record { used = s.used; kind = r.kind; code = r.code }) r.outs call

next_has : (s : State) (i : Instr) (next : Option Record) → is_call i.op ≡ true → StepHasAddress (replayed_next s i next)
next_has s i None call = tt
next_has s i (Some r) call = replayed_if s i r (mismatch (comparisons s r)) (block_in_text (range_of s.text) r.out_blocks) call

called_if : (trace : Trace) (s : State) (i : Instr) (file : Bool) → is_call i.op ≡ true
    → StepHasAddress (if file then replayed_next s i (slice_get trace.records s.used) else unrecorded_as s i (exit_asked s))
called_if trace s i true call = next_has s i (slice_get trace.records s.used) call
called_if trace s i false call = unrecorded_has s i (exit_asked s) call

at_if : (trace : Trace) (s : State) (i : Instr) (call : Bool) → is_call i.op ≡ call
    → StepHasAddress (if call then called trace s i else executed s i (effect_of s.reads i s.pc (range_of s.text)))
at_if trace s i true is = called_if trace s i trace.file is
at_if trace s i false is = executed_has s i (effect_of s.reads i s.pc (range_of s.text)) refl

decoded_has : (trace : Trace) (s : State) (i : Option Instr) → StepHasAddress (step_decoded trace s i)
decoded_has trace s None = tt
decoded_has trace s (Some i) = at_if trace s i (is_call i.op) refl

fetched_has : (trace : Trace) (s : State) (words : Option (ℕ × ℕ)) → StepHasAddress (step_fetched trace s words)
fetched_has trace s None = tt
fetched_has trace s (Some words) = decoded_has trace s (decoded words.0 words.1)

running_has : (trace : Trace) (s : State) (ended : Option ℕ) → StepHasAddress (step_running trace s ended)
running_has trace s (Some code) = tt
running_has trace s None = fetched_has trace s (fetch s.text s.pc)

step_has : (trace : Trace) (s : State) → StepHasAddress (step_of trace s)
unfolding step_of
step_has trace s = running_has trace s s.ended

-- ---- runs

more_have : (trace : Trace) (n : ℕ) (o : Outcome) (h : List Item) → StepHasAddress o → All HasAddress (records_of h)
    → ((t : State) (g : List Item) → All HasAddress (records_of g) → All HasAddress (records_of (onto (items_of trace n t) g)))
    → All HasAddress (records_of (onto (items_more trace (items_of trace n) o) h))
more_have trace n (Next r t) h has all rest = rest t (item_of trace r ∷ h) (All-cons HasAddress r (records_of h) has all)
more_have trace n (Halt why) h has all rest = all

onto_have : (trace : Trace) (n : ℕ) (s : State) (h : List Item) → All HasAddress (records_of h) → All HasAddress (records_of (onto (items_of trace n s) h))
unfolding items_of
onto_have trace zero s h all = all
onto_have trace (suc n) s h all = more_have trace n (step_of trace s) h (step_has trace s) all (λ t g. onto_have trace n t g)

pub run_has : (trace : Trace) (n : ℕ) (s : State) → All HasAddress (records_of (onto (items_of trace n s) []))
run_has trace n s = onto_have trace n s [] (All-nil HasAddress)

-- ---- statistics

pub agrees : (c : PredConfig) (h : List Item) → AgreesWithStatistics c h
agrees c [] = record { insn = refl; loads = refl; stores = refl; branches = refl }
agrees c (i ∷ h) =
    let rest = agrees c h in
    record {
      insn = omega (arith, rest.insn);
      loads = omega (arith, rest.loads, sum_by-cons (λ (r : CommitRecord). load_count (access_of r.instr.op)) i.did (records_of h));
      stores = omega (arith, rest.stores, sum_by-cons (λ (r : CommitRecord). store_count (access_of r.instr.op)) i.did (records_of h));
      branches = omega (arith, rest.branches);
    }
