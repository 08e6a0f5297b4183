-- Recordings step by step.
use Rattle.std.specs.Prelude.{◌≡◌, ◌<◌, ◌-◌, ◌+◌, ◌++◌, ◌≤◌, ℕ, zero, suc, Bool, true, false, List, [], ◌∷◌, Option, Some, None, Result, Ok, Err, if◌then◌else◌}
use Rattle.std.proofs.Common.{refl, sym, ap, ◌∙◌, subst, arith}
use Rattle.ss_base.specs.declared.fault.OutOfMemory.{OutOfMemory}
use Rattle.pisa_step.specs.declared.cause.Cause.{Cause}
use Rattle.pisa_step.specs.declared.cause.Cause.TheVariants as cause
use Rattle.event_trace.specs.declared.trace.Record.{Record}
use Rattle.event_trace.specs.declared.trace.Trace.{Trace}
use Rattle.event_trace.specs.World.{WorldState}
use Rattle.event_trace.specs.Recorder.{RecorderState, with_more, is_within_limits, Takes}
use Rattle.sim_safe.specs.declared.record.CallNote.{CallNote}
use Rattle.sim_safe.specs.declared.record.CommitRecord.{CommitRecord}
use Rattle.sim_safe.specs.declared.record.Peek.{Peek}
use Rattle.sim_safe.specs.declared.observer.RunEnd.TheVariants as ends
use Rattle.sim_safe.specs.State.{State}
use Rattle.sim_safe.specs.Step.{Outcome, Next, Halt, step_of, peek_of, peeked_at}
use Rattle.sim_safe.specs.Run.{items_of, items_front, after, end_of}
use Rattle.sim_safe.specs.Advance.{AdvanceState}
use Rattle.sim_safe.specs.declared.observer.Advance.TheVariants as advance
use Rattle.sim_safe.specs.declared.observer.RunFault.{RunFault}
use Rattle.sim_safe.specs.declared.observer.RunFault.TheVariants as faults
use Rattle.paged_mem.specs.Memory.{Pages}
use Rattle.sim_safe.specs.Recording.{AreRecorded, wants_record, taken, ready_if, ready, recording_after, recording_at, recording, serve, is_end_of_trace, Prepares, RecordsFront, RecordState}
use Rattle.sim_safe.proofs.Steps.{Reaches, reaches_on, end_stop, after_stop, after_all}
use Rattle.sim_safe.proofs.Runs.{failed_state}
use Rattle.sim_safe.proofs.Growing.{reaches_grown, items_grown}
use Rattle.sim_safe.proofs.Replays.{ready_more, full_halts, recording_from, recording_more}

-- ---- what is ready for a step

peeked_none : (i : _) (k : Option CallNote) → is_end_of_trace (peeked_at i k) ≡ false
peeked_none i None = refl
peeked_none i (Some note) = refl

-- what the next step does tells whether it wants a record
pub peek_wants : (o : Outcome) → is_end_of_trace (peek_of o) ≡ wants_record o
peek_wants (Next r s) = peeked_none r.instr r.call
peek_wants (Halt why) = refl

ready_is : (w : WorldState) (t : Trace) (s : State) (b : Bool) → wants_record (step_of t s) ≡ b → ready serve w t s ≡ ready_if serve w t s b
unfolding ready
ready_is w t s b e = ap (ready_if serve w t s) e

-- a step that wants no record is ready
pub ready_without : (p : Peek) (old new : RecorderState) (s : State) → p ≡ peek_of (step_of old.trace s) → is_end_of_trace p ≡ false → new ≡ old → Prepares old new s (Ok true)
ready_without p old new s e f z =
    let b : wants_record (step_of old.trace s) ≡ false = sym (peek_wants (step_of old.trace s)) ∙ ap is_end_of_trace (sym e) ∙ f in
    ready_is old.world old.trace s false b ∙ ap (λ x. Some (x.world, x.trace)) (sym z)

-- what a record and a trace make where there is room
abbrev some_of : Trace → Record × WorldState → Option (WorldState × Trace)
some_of t answer = Some (answer.1, with_more t (answer.0 ∷ []))

abbrev pub pair_of : WorldState → Trace → Option (WorldState × Trace)
pair_of v u = Some (v, u)

taken_if : (b : Bool) (t : Trace) (answer : Record × WorldState) → is_within_limits (with_more t (answer.0 ∷ [])) ≡ b
    → taken t answer ≡ (if b then some_of t answer else None)
taken_if b t answer e = ap (λ x. if x then some_of t answer else None) e

-- a call that wants a record gets the one that the world serves
pub ready_with : (p : Peek) (old new : RecorderState) (s : State) (result : Result Bool OutOfMemory) → p ≡ peek_of (step_of old.trace s) → is_end_of_trace p ≡ true
    → Takes (serve old.world s) old new result → Prepares old new s result
ready_with p old new s (Ok true) e f t =
    let b : wants_record (step_of old.trace s) ≡ true = sym (peek_wants (step_of old.trace s)) ∙ ap is_end_of_trace (sym e) ∙ f in
    ready_is old.world old.trace s true b ∙ taken_if true old.trace (serve old.world s) t.1 ∙ ap (λ x. Some (x.world, x.trace)) (sym t.0)
ready_with p old new s (Ok false) e f t =
    let b : wants_record (step_of old.trace s) ≡ true = sym (peek_wants (step_of old.trace s)) ∙ ap is_end_of_trace (sym e) ∙ f in
    (ready_is old.world old.trace s true b ∙ taken_if false old.trace (serve old.world s) t.1, t.0)
ready_with p old new s (Err x) e f t = (t, sym (peek_wants (step_of old.trace s)) ∙ ap is_end_of_trace (sym e) ∙ f)

-- a trace that takes a record stays one with a file
pub takes_file : (answer : Record × WorldState) (old new : RecorderState) (result : Result Bool OutOfMemory) → old.trace.file ≡ true → Takes answer old new result → new.trace.file ≡ true
takes_file answer old new (Ok true) f t = ap (λ x. x.trace.file) t.0 ∙ f
takes_file answer old new (Ok false) f t = ap (λ x. x.trace.file) t.0 ∙ f
takes_file answer old new (Err x) f t = ap (λ x. x.trace.file) t ∙ f

-- what a recorder that is ready leaves
pub prepared_true : (old new : RecorderState) (s : State) (b : Bool) → b ≡ true → Prepares old new s (Ok b) → ready serve old.world old.trace s ≡ pair_of new.world new.trace
prepared_true old new s true e p = p
prepared_true old new s false e p = cc

pub prepared_false : (old new : RecorderState) (s : State) (b : Bool) → b ≡ false → Prepares old new s (Ok b) → (ready serve old.world old.trace s ≡ None) × (new ≡ old)
prepared_false old new s true e p = cc
prepared_false old new s false e p = p

-- steps that were done are done over the trace that is ready, and show the same
pub reaches_ready : (w : WorldState) (t : Trace) (at : State) (v : WorldState) (u : Trace) (n : ℕ) (s x : State) → u.file ≡ true → ready serve w t at ≡ pair_of v u → Reaches t n s x → Reaches u n s x
reaches_ready w t at v u n s x f e l =
    let g = ready_more serve w t at v u e in
    let k : t.file ≡ true = sym (ap (λ y. y.file) g.1) ∙ f in
    let P : Trace → Type 0 = λ y. Reaches y n s x in
    subst P (sym g.1) (reaches_grown t g.0 n s x k l)

pub items_ready : (w : WorldState) (t : Trace) (at : State) (v : WorldState) (u : Trace) (n : ℕ) (s x : State) → u.file ≡ true → ready serve w t at ≡ pair_of v u → Reaches t n s x
    → items_of t n s ≡ items_of u n s
items_ready w t at v u n s x f e l =
    let g = ready_more serve w t at v u e in
    let k : t.file ≡ true = sym (ap (λ y. y.file) g.1) ∙ f in
    items_grown t g.0 n s x k l ∙ ap (λ y. items_of y n s) (sym g.1)

-- ---- what a recording leaves

recording_step : (n : ℕ) (w : WorldState) (t : Trace) (s : State) (m : Option (WorldState × Trace)) → ready serve w t s ≡ m
    → recording serve (suc n) w t s ≡ recording_at (recording serve n) t s m
unfolding recording
recording_step n w t s m e = ap (recording_at (recording serve n) t s) e

-- one more step
pub recording_on : (k : ℕ) (w : WorldState) (t : Trace) (s : State) (v : WorldState) (u : Trace) (r : CommitRecord) (x : State) → 0 < k → ready serve w t s ≡ pair_of v u → Next r x ≡ step_of u s
    → recording serve k w t s ≡ recording serve (k - 1) v u x
recording_on zero w t s v u r x h e f = absurd (omega arith)
recording_on (suc k) w t s v u r x h e f =
    let z : suc k - 1 ≡ k = omega arith in
    recording_step k w t s (Some (v, u)) e ∙ ap (recording_after (recording serve k v) u) (sym f) ∙ ap (λ y. recording serve y v u x) (sym z)

-- a step that stops
pub recording_over : (k : ℕ) (w : WorldState) (t : Trace) (s : State) (v : WorldState) (u : Trace) (why : Cause) → 0 < k → ready serve w t s ≡ pair_of v u → Halt why ≡ step_of u s
    → recording serve k w t s ≡ (u, false)
recording_over zero w t s v u why h e f = absurd (omega arith)
recording_over (suc k) w t s v u why h e f = recording_step k w t s (Some (v, u)) e ∙ ap (recording_after (recording serve k v) u) (sym f)

-- a trace that is full
pub recording_full : (k : ℕ) (w : WorldState) (t : Trace) (s : State) → 0 < k → ready serve w t s ≡ None → recording serve k w t s ≡ (t, true)
recording_full zero w t s h e = absurd (omega arith)
recording_full (suc k) w t s h e = recording_step k w t s None e

-- no step that is left
pub recording_none : (k : ℕ) (w : WorldState) (t : Trace) (s : State) → k ≡ 0 → recording serve k w t s ≡ (t, false)
unfolding recording
recording_none zero w t s e = refl
recording_none (suc k) w t s e = absurd (omega arith)

-- ---- where the trace is full

-- the run over a full trace stops at the call that found no room
pub full_stops : (w : WorldState) (t : Trace) (done n : ℕ) (s x : State) → ready serve w t x ≡ None → Reaches t done s x → done < n
    → (used : ℕ) × (Halt (cause.TraceEnd used) ≡ step_of t x) × (end_of t n s ≡ ends.Stop (cause.TraceEnd used))
full_stops w t done n s x e l h =
    let k : (used : ℕ) × (Halt (cause.TraceEnd used) ≡ step_of t x) = full_halts serve w t x e in
    (k.0, k.1, sym (end_stop t done n s x (cause.TraceEnd k.0) l h k.1))

pub full_state : (w : WorldState) (t u : Trace) (done n : ℕ) (s x : State) → ready serve w t x ≡ None → u ≡ t → Reaches t done s x → done < n
    → (x ≡ after u n s) × (used : ℕ) × (end_of u n s ≡ ends.Stop (cause.TraceEnd used))
full_state w t u done n s x e z l h =
    let k = full_stops w t done n s x e l h in
    let P : Trace → Type 0 = λ y. (x ≡ after y n s) × (used : ℕ) × (end_of y n s ≡ ends.Stop (cause.TraceEnd used)) in
    subst P (sym z) (after_stop t done n s x (cause.TraceEnd k.0) l (omega (arith, h)) k.1, k.0, k.2)

-- a recording that is given up at a step
pub recorded_failed : {F : Type 0} (trace : Trace) (n done : ℕ) (s t u : State) (f : RunFault F)
    → Reaches trace done s t → t.icnt ≡ s.icnt + done → done < n → AdvanceState trace t u (advance.Failed f)
    → RecordState trace n s u (Err f)
recorded_failed {F = F} trace n done s t u (faults.Watch f) l i d st = failed_state {F = F} trace n done s t u (faults.Watch f) l i d st
recorded_failed {F = F} trace n done s t u faults.OutOfMemory l i d st = failed_state {F = F} trace n done s t u faults.OutOfMemory l i d st

-- ---- where a recording is given up

-- steps that were done are a front of the run over a trace with more records
front_grown : (whole part : Trace) (n done : ℕ) (s t : State) → (more : List Record) × (whole ≡ with_more part more) → part.file ≡ true → done ≤ n → Reaches part done s t
    → RecordsFront whole part n done s t
front_grown whole part n done s t g f h l =
    let run : Trace = with_more part g.0 in
    let front = items_front run done n s h in
    let P : Trace → Type 0 = λ x. RecordsFront x part n done s t in
    subst P (sym g.1) (record {
      records = (g.0, refl);
      more = front.0;
      items = front.1 ∙ ap (λ x. x ++ front.0) (sym (items_grown part g.0 done s t f l));
      state = after_all run done s t (reaches_grown part g.0 done s t f l);
    })

failed_front : {F : Type 0} (whole part : Trace) (n done : ℕ) (s t u : State) (f : RunFault F) → (more : List Record) × (whole ≡ with_more part more) → part.file ≡ true
    → done < n → Reaches part done s t → t.icnt ≡ s.icnt + done → AdvanceState part t u (advance.Failed f)
    → RecordsFront whole part n (u.icnt - s.icnt) s u
failed_front whole part n done s t u (faults.Watch f) g file d l i st =
    let z : u.icnt - s.icnt ≡ done + 1 = omega arith in
    let P : ℕ → Type 0 = λ k. RecordsFront whole part n k s u in
    subst P (sym z) (front_grown whole part n (done + 1) s u g file (omega arith) (reaches_on part done s t u st.0 l st.1))
failed_front whole part n done s t u faults.OutOfMemory g file d l i st =
    let e : u.icnt ≡ t.icnt = ap (λ x. x.icnt) st in
    let z : u.icnt - s.icnt ≡ done = omega arith in
    let P : ℕ → Type 0 = λ k. RecordsFront whole part n k s u in
    let Q : State → Type 0 = λ x. RecordsFront whole part n done s x in
    subst P (sym z) (subst Q (sym st) (front_grown whole part n done s t g file (omega arith) l))

-- at the next step, over a trace that is ready
pub front_failed : {F : Type 0} (k : ℕ) (whole : Trace × Bool) (w : WorldState) (t : Trace) (v : WorldState) (u : Trace) (n done : ℕ) (s x y : State) (f : RunFault F)
    → recording serve k w t x ≡ whole → ready serve w t x ≡ pair_of v u → u.file ≡ true → 0 < k → done < n → Reaches u done s x → x.icnt ≡ s.icnt + done → AdvanceState u x y (advance.Failed f)
    → RecordsFront whole.0 u n (y.icnt - s.icnt) s y
front_failed k whole w t v u n done s x y f calls r file h d l i st =
    let g = recording_from serve k w t x v u h r in
    failed_front whole.0 u n done s x y f (g.0, sym (ap (λ p. p.0) calls) ∙ g.1) file d l i st

-- and before it, since there was no memory for its record
pub front_unready : (k : ℕ) (whole : Trace × Bool) (w : WorldState) (t u : Trace) (n done : ℕ) (s x : State)
    → recording serve k w t x ≡ whole → u ≡ t → u.file ≡ true → done < n → Reaches t done s x → x.icnt ≡ s.icnt + done
    → RecordsFront whole.0 u n (x.icnt - s.icnt) s x
front_unready k whole w t u n done s x calls e file d l i =
    let z : x.icnt - s.icnt ≡ done = omega arith in
    let P : ℕ → Type 0 = λ m. RecordsFront whole.0 u n m s x in
    let R : Trace → Type 0 = λ y. Reaches y done s x in
    let g = recording_more serve k w t x in
    let grown : whole.0 ≡ with_more u g.0 = sym (ap (λ p. p.0) calls) ∙ g.1 ∙ ap (λ y. with_more y g.0) (sym e) in
    subst P (sym z) (front_grown whole.0 u n done s x (g.0, grown) file (omega arith) (subst R (sym e) l))

-- where each call of the run has its record, none wants one at a step on the way
pub unready_memory : (t u : Trace) (pages : Pages) (n done : ℕ) (s x : State) → u ≡ t → wants_record (step_of t x) ≡ true → done < n → Reaches t done s x → AreRecorded u pages n s → ⊥
unready_memory t u pages n done s x e wants d l recorded =
    let R : Trace → Type 0 = λ y. AreRecorded y pages n s in
    let here : wants_record (step_of t (after t done s)) ≡ false = (subst R e recorded done d).1 in
    let b : wants_record (step_of t x) ≡ false = ap (λ y. wants_record (step_of t y)) (after_all t done s x l) ∙ here in
    cc
