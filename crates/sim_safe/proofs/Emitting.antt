-- What the steps of a run emit, by the records that they use.
use Rattle.std.proofs.Common.{◌≡◌, ◌<◌, ◌≤◌, ◌-◌, ◌+◌, ◌++◌, ℕ, zero, suc, List, [], ◌∷◌, length, take, drop, refl, sym, ap, subst, ◌∙◌, arith, ◌⊎◌, inl, inr}
use Rattle.std.specs.Prelude.{Bool, true, false, Option, Some, None, Result, Ok, Err, slice_get, if◌then◌else◌}
use Rattle.std.proofs.lemmas.Option.{slice_get_within, get_or_from_slice_get}
use Rattle.pisa_isa.specs.declared.instr.Instr.{Instr}
use Rattle.pisa_isa.specs.Coding.{decoded}
use Rattle.pisa_step.specs.declared.cause.Cause.{Cause}
use Rattle.pisa_step.specs.declared.changes.Changes.{Changes}
use Rattle.pisa_step.specs.Effect.{effect_of}
use Rattle.ecoff_load.specs.Fetch.{fetch}
use Rattle.event_trace.specs.declared.trace.Record.{Record}
use Rattle.event_trace.specs.declared.trace.Trace.{Trace}
use Rattle.sim_safe.specs.State.{State, range_of}
use Rattle.sim_safe.specs.Call.{comparisons, mismatch, block_in_text}
use Rattle.sim_safe.specs.Record.{item_of}
use Rattle.sim_safe.specs.Commit.{output_of, outputs_of, record_output, emitted_by, records_between}
use Rattle.sim_safe.specs.Step.{Outcome, Next, Halt, call_recorded, called, executed, exit_asked, is_call, replayed_next, served, step_decoded, step_fetched, step_of, step_running, unless, unrecorded_as}
use Rattle.sim_safe.specs.Run.{items_more, items_of, after_more, after}
use Rattle.sim_safe.proofs.Lists.{rest_at}

-- ---- a step

-- a step uses no record and emits nothing, or uses one and emits what that emits
record Uses (trace : Trace) (s t : State) (out : List ℕ) (c : Record) : Type 0 where
  next : slice_get trace.records s.used ≡ Some c
  used : t.used ≡ s.used + 1
  same : out ≡ record_output c

abbrev Emits : Trace → State → Outcome → Type 0
Emits trace s (Next r t) = ((t.used ≡ s.used) × (output_of (item_of trace r) ≡ [])) ⊎ ((c : Record) × Uses trace s t (output_of (item_of trace r)) c)
Emits trace s (Halt why) = Unit {0}

unrecorded_emits : (trace : Trace) (s : State) (i : Instr) (code : Option ℕ) → Emits trace s (unrecorded_as s i code)
unrecorded_emits trace s i (Some code) = inl (refl, refl)
unrecorded_emits trace s i None = tt

executed_emits : (trace : Trace) (s : State) (i : Instr) (e : Result Changes Cause) → Emits trace s (executed s i e)
executed_emits trace s i (Ok e) = inl (refl, refl)
executed_emits trace s i (Err why) = tt

replayed_if : (trace : Trace) (s : State) (i : Instr) (c : Record) (m b : Option Cause) → trace.file ≡ true → slice_get trace.records s.used ≡ Some c
    → Emits trace s (unless m (unless b (Next (call_recorded s i (record { used = s.used; kind = c.kind; code = c.code }) c.outs) (served s c))))
replayed_if trace s i c (Some why) b file is = tt
replayed_if trace s i c None (Some why) file is = tt
replayed_if trace s i c None None file is = inr (c, record { next = is; used = refl; same = rw (file, is) refl })

next_emits : (trace : Trace) (s : State) (i : Instr) (next : Option Record) → trace.file ≡ true → slice_get trace.records s.used ≡ next → Emits trace s (replayed_next s i next)
next_emits trace s i None file is = tt
next_emits trace s i (Some c) file is = replayed_if trace s i c (mismatch (comparisons s c)) (block_in_text (range_of s.text) c.out_blocks) file is

called_if : (trace : Trace) (s : State) (i : Instr) (file : Bool) → trace.file ≡ file → Emits trace s (if file then replayed_next s i (slice_get trace.records s.used) else unrecorded_as s i (exit_asked s))
called_if trace s i true file = next_emits trace s i (slice_get trace.records s.used) file refl
called_if trace s i false file = unrecorded_emits trace s i (exit_asked s)

at_if : (trace : Trace) (s : State) (i : Instr) (call : Bool) → Emits trace s (if call then called trace s i else executed s i (effect_of s.reads i s.pc (range_of s.text)))
at_if trace s i true = called_if trace s i trace.file refl
at_if trace s i false = executed_emits trace s i (effect_of s.reads i s.pc (range_of s.text))

decoded_emits : (trace : Trace) (s : State) (i : Option Instr) → Emits trace s (step_decoded trace s i)
decoded_emits trace s None = tt
decoded_emits trace s (Some i) = at_if trace s i (is_call i.op)

fetched_emits : (trace : Trace) (s : State) (words : Option (ℕ × ℕ)) → Emits trace s (step_fetched trace s words)
fetched_emits trace s None = tt
fetched_emits trace s (Some words) = decoded_emits trace s (decoded words.0 words.1)

running_emits : (trace : Trace) (s : State) (ended : Option ℕ) → Emits trace s (step_running trace s ended)
running_emits trace s (Some code) = tt
running_emits trace s None = fetched_emits trace s (fetch s.text s.pc)

step_emits : (trace : Trace) (s : State) → Emits trace s (step_of trace s)
unfolding step_of
step_emits trace s = running_emits trace s s.ended

-- ---- a run

none_between : (u : ℕ) (records : List Record) → emitted_by (records_between u u records) ≡ []
none_between u records =
    let z : u - u ≡ 0 = omega arith in
    ap (λ n. emitted_by (take n (drop u records))) z

first_between : (u to : ℕ) (records : List Record) (c : Record) → slice_get records u ≡ Some c → u < to → records_between u to records ≡ c ∷ records_between (u + 1) to records
first_between u to records c is lt =
    let d : drop u records ≡ c ∷ drop (u + 1) records = rest_at records u c (slice_get_within records u c is) (sym (get_or_from_slice_get records u c c is)) in
    let z : to - u ≡ suc (to - (u + 1)) = omega arith in
    ap (λ n. take n (drop u records)) z ∙ ap (λ rs. take (suc (to - (u + 1))) rs) d

record EmitsBetween (trace : Trace) (from to : ℕ) (out : List ℕ) : Type 0 where
  rises : from ≤ to
  same : out ≡ emitted_by (records_between from to trace.records)

nothing : (trace : Trace) (u : ℕ) → EmitsBetween trace u u []
nothing trace u = record { rises = omega arith; same = sym (none_between u trace.records) }

one_more : (trace : Trace) (s t : State) (to : ℕ) (out rest : List ℕ) → ((t.used ≡ s.used) × (out ≡ [])) ⊎ ((c : Record) × Uses trace s t out c) → EmitsBetween trace t.used to rest → EmitsBetween trace s.used to (out ++ rest)
one_more trace s t to out rest (inl free) so = record {
  rises = omega (arith, so.rises, free.0);
  same = ap (λ x. x ++ rest) free.1 ∙ so.same ∙ ap (λ u. emitted_by (records_between u to trace.records)) free.0;
}
one_more trace s t to out rest (inr uses) so =
    let c : Record = uses.0 in
    let used : t.used ≡ s.used + 1 = uses.1.used in
    let lt : s.used < to = omega (arith, so.rises, used) in
    record {
      rises = omega (arith, lt);
      same = ap (λ x. x ++ rest) uses.1.same ∙ ap (λ x. record_output c ++ x) (so.same ∙ ap (λ u. emitted_by (records_between u to trace.records)) used)
          ∙ ap emitted_by (sym (first_between s.used to trace.records c uses.1.next lt));
    }

emits_if : (trace : Trace) (n : ℕ) (s : State) (o : Outcome) → Emits trace s o → ((t : State) → EmitsBetween trace t.used (after trace n t).used (outputs_of (items_of trace n t)))
    → EmitsBetween trace s.used (after_more (after trace n) s o).used (outputs_of (items_more trace (items_of trace n) o))
emits_if trace n s (Next r t) emits rest = one_more trace s t (after trace n t).used (output_of (item_of trace r)) (outputs_of (items_of trace n t)) emits (rest t)
emits_if trace n s (Halt why) emits rest = nothing trace s.used

run_emits : (trace : Trace) (n : ℕ) (s : State) → EmitsBetween trace s.used (after trace n s).used (outputs_of (items_of trace n s))
unfolding items_of after
run_emits trace zero s = nothing trace s.used
run_emits trace (suc n) s = emits_if trace n s (step_of trace s) (step_emits trace s) (λ t. run_emits trace n t)

pub emits_by_records : (trace : Trace) (n : ℕ) (s : State) → outputs_of (items_of trace n s) ≡ emitted_by (records_between s.used (after trace n s).used trace.records)
emits_by_records trace n s = (run_emits trace n s).same
