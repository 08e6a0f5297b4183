-- A step that is done leads to the address that it records.
use Rattle.std.proofs.Common.{◌≡◌, ℕ, zero, suc, [], ◌∷◌, ◌++◌, Option, Some, None, refl, ap}
use Rattle.std.specs.Prelude.{Result, Ok, Err, slice_get}
use Rattle.std.proofs.lemmas.Bool.{cond_both}
use Rattle.pisa_isa.specs.declared.instr.Instr.{Instr}
use Rattle.pisa_isa.specs.Coding.{decoded}
use Rattle.pisa_step.specs.declared.cause.Cause.{Cause}
use Rattle.pisa_step.specs.declared.changes.Changes.{Changes}
use Rattle.pisa_step.specs.Effect.{effect_of}
use Rattle.ecoff_load.specs.Fetch.{fetch}
use Rattle.event_trace.specs.declared.trace.Record.{Record}
use Rattle.event_trace.specs.declared.trace.Trace.{Trace}
use Rattle.sim_safe.specs.declared.record.CommitRecord.{CommitRecord}
use Rattle.sim_safe.specs.State.{State, range_of}
use Rattle.sim_safe.specs.Call.{comparisons, mismatch, block_in_text}
use Rattle.sim_safe.specs.Record.{item_of}
use Rattle.sim_safe.specs.Run.{items_of, items_more, after, after_more}
use Rattle.sim_safe.specs.Step.{Outcome, Next, Halt, step_of, step_running, step_fetched, step_decoded, step_at, is_call, executed, called, replayed_next, unrecorded, unrecorded_as, exit_asked, unless}

abbrev pub LeadsOn : Outcome → Type 0
LeadsOn (Next did t) = did.next ≡ t.pc
LeadsOn (Halt why) = Unit {0}

leads_executed : (s : State) (i : Instr) (r : Result Changes Cause) → LeadsOn (executed s i r)
leads_executed s i (Ok e) = refl
leads_executed s i (Err why) = tt

leads_unless : (m : Option Cause) (o : Outcome) → LeadsOn o → LeadsOn (unless m o)
leads_unless None o h = h
leads_unless (Some why) o h = tt

leads_replayed : (s : State) (i : Instr) (m : Option Record) → LeadsOn (replayed_next s i m)
leads_replayed s i None = tt
leads_replayed s i (Some r) = leads_unless (mismatch (comparisons s r)) _ (leads_unless (block_in_text (range_of s.text) r.out_blocks) _ refl)

leads_unrecorded : (s : State) (i : Instr) (m : Option ℕ) → LeadsOn (unrecorded_as s i m)
leads_unrecorded s i None = tt
leads_unrecorded s i (Some code) = refl

leads_at : (trace : Trace) (s : State) (i : Instr) → LeadsOn (step_at trace s i)
leads_at trace s i =
    cond_both (is_call i.op) (called trace s i) (executed s i (effect_of s.reads i s.pc (range_of s.text))) LeadsOn
    (λ _. cond_both trace.file (replayed_next s i (slice_get trace.records s.used)) (unrecorded s i) LeadsOn
    (λ _. leads_replayed s i (slice_get trace.records s.used)) (λ _. leads_unrecorded s i (exit_asked s)))
    (λ _. leads_executed s i (effect_of s.reads i s.pc (range_of s.text)))

leads_decoded : (trace : Trace) (s : State) (m : Option Instr) → LeadsOn (step_decoded trace s m)
leads_decoded trace s None = tt
leads_decoded trace s (Some i) = leads_at trace s i

leads_fetched : (trace : Trace) (s : State) (m : Option (ℕ × ℕ)) → LeadsOn (step_fetched trace s m)
leads_fetched trace s None = tt
leads_fetched trace s (Some words) = leads_decoded trace s (decoded words.0 words.1)

leads_running : (trace : Trace) (s : State) (m : Option ℕ) → LeadsOn (step_running trace s m)
leads_running trace s None = leads_fetched trace s (fetch s.text s.pc)
leads_running trace s (Some code) = tt

pub step_leads : (trace : Trace) (s : State) → LeadsOn (step_of trace s)
unfolding step_of
step_leads trace s = leads_running trace s s.ended

-- a program that has exited does no more steps
pub exited_halts : (trace : Trace) (s : State) (code : ℕ) → s.ended ≡ Some code → step_of trace s ≡ step_running trace s (Some code)
unfolding step_of
exited_halts trace s code e = ap (step_running trace s) e

-- the items of one more step
pub items_next : (trace : Trace) (n : ℕ) (s u : State) (did : CommitRecord) → step_of trace (after trace n s) ≡ Next did u → items_of trace (suc n) s ≡ items_of trace n s ++ (item_of trace did ∷ [])
unfolding items_of after
items_next trace zero s u did e = rw e refl
items_next trace (suc n) s u did e = by_outcome (step_of trace s) refl e (λ t. items_next trace n t u did)
  where
    by_outcome : (o : Outcome) → step_of trace s ≡ o → step_of trace (after_more (after trace n) s o) ≡ Next did u
        → ((t : State) → step_of trace (after trace n t) ≡ Next did u → items_of trace (suc n) t ≡ items_of trace n t ++ (item_of trace did ∷ []))
        → items_more trace (items_of trace (suc n)) o ≡ items_more trace (items_of trace n) o ++ (item_of trace did ∷ [])
    by_outcome (Next r t) f h ih = ap (λ x. item_of trace r ∷ x) (ih t h)
    by_outcome (Halt why) f h ih = absurd cc
