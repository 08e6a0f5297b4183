-- What recordings leave, in any world that serves calls: the trace that was there with further records,
-- within the limits; and over a trace that was full, a run that stops at the call that found no room.
use Rattle.std.specs.Prelude.{◌≡◌, ◌<◌, ◌++◌, ℕ, zero, suc, Bool, true, false, List, [], ◌∷◌, Option, Some, None, if◌then◌else◌}
use Rattle.std.proofs.Common.{refl, sym, ap, ◌∙◌, subst, arith, append-nil, append_assoc}
use Rattle.pisa_step.specs.declared.cause.Cause.{Cause}
use Rattle.pisa_step.specs.declared.cause.Cause.TheVariants as cause
use Rattle.event_trace.specs.declared.trace.Record.{Record}
use Rattle.event_trace.specs.declared.trace.Trace.{Trace}
use Rattle.event_trace.specs.Recorder.{with_more, is_within_limits}
use Rattle.sim_safe.specs.declared.observer.RunEnd.TheVariants as ends
use Rattle.sim_safe.specs.declared.record.CommitRecord.{CommitRecord}
use Rattle.sim_safe.specs.State.{State}
use Rattle.sim_safe.specs.Step.{Outcome, Next, Halt, step_of}
use Rattle.sim_safe.specs.Laws.{IsGrown}
use Rattle.sim_safe.specs.Run.{end_from, end_more, end_of}
use Rattle.sim_safe.specs.Recording.{is_trace_end, wants_record, ready_if, ready, recording_after, recording_at, recording}
use Rattle.sim_safe.proofs.Growing.{step_grown}

-- ---- what each record that is added keeps, the whole recording keeps

-- a fact of traces that stays where a record is added within the limits
abbrev pub IsKept : (Trace → Type 0) → Type 0
IsKept P = (t : Trace) (r : Record) → P t → is_within_limits (with_more t (r ∷ [])) ≡ true → P (with_more t (r ∷ []))

abbrev trace_or : {W : Type 0} → Trace → Option (W × Trace) → Trace
trace_or otherwise None = otherwise
trace_or otherwise (Some m) = m.1

taken_keeps : {W : Type 0} (P : Trace → Type 0) (b : Bool) (t : Trace) (answer : Record × W) (m : W × Trace) → IsKept P → P t → is_within_limits (with_more t (answer.0 ∷ [])) ≡ b
    → (if b then Some (answer.1, with_more t (answer.0 ∷ [])) else None) ≡ Some m → P m.1
taken_keeps P true t answer m k p l e =
    let z : with_more t (answer.0 ∷ []) ≡ m.1 = ap (trace_or t) e in
    subst P z (k t answer.0 p l)
taken_keeps P false t answer m k p l e = cc

ready_if_keeps : {W : Type 0} (serve : W → State → Record × W) (P : Trace → Type 0) (b : Bool) (w : W) (t : Trace) (s : State) (m : W × Trace) → IsKept P → P t
    → ready_if serve w t s b ≡ Some m → P m.1
ready_if_keeps serve P true w t s m k p e = taken_keeps P (is_within_limits (with_more t ((serve w s).0 ∷ []))) t (serve w s) m k p refl e
ready_if_keeps serve P false w t s m k p e =
    let z : t ≡ m.1 = ap (trace_or t) e in
    subst P z p

-- the trace that is ready for a step
pub ready_keeps : {W : Type 0} (serve : W → State → Record × W) (P : Trace → Type 0) (w : W) (t : Trace) (s : State) (m : W × Trace) → IsKept P → P t
    → ready serve w t s ≡ Some m → P m.1
unfolding ready
ready_keeps serve P w t s m k p e = ready_if_keeps serve P (wants_record (step_of t s)) w t s m k p e

after_keeps : (P : Trace → Type 0) (rest : Trace → State → Trace × Bool) (t : Trace) (o : Outcome) → P t → ((x : State) → P (rest t x).0) → P (recording_after rest t o).0
after_keeps P rest t (Next r x) p f = f x
after_keeps P rest t (Halt why) p f = p

at_keeps : {W : Type 0} (P : Trace → Type 0) (rest : W → Trace → State → Trace × Bool) (t : Trace) (s : State) (o : Option (W × Trace)) → P t
    → ((m : W × Trace) → o ≡ Some m → P m.1) → ((w : W) (u : Trace) (x : State) → P u → P (rest w u x).0) → P (recording_at rest t s o).0
at_keeps P rest t s None p q f = p
at_keeps P rest t s (Some m) p q f = after_keeps P (rest m.0) m.1 (step_of m.1 s) (q m refl) (λ x. f m.0 m.1 x (q m refl))

-- the trace that a recording leaves
pub recording_keeps : {W : Type 0} (serve : W → State → Record × W) (P : Trace → Type 0) (n : ℕ) (w : W) (t : Trace) (s : State) → IsKept P → P t → P (recording serve n w t s).0
unfolding recording
recording_keeps serve P zero w t s k p = p
recording_keeps serve P (suc n) w t s k p =
    at_keeps P (recording serve n) t s (ready serve w t s) p (λ m e. ready_keeps serve P w t s m k p e) (λ v u x q. recording_keeps serve P n v u x k q)

-- ---- records are only added, and within the limits

with_none : (t : Trace) → t ≡ with_more t []
with_none t = ap (λ x. record t { records = x }) (sym (append-nil t.records))

with_both : (t : Trace) (xs ys : List Record) → with_more (with_more t xs) ys ≡ with_more t (xs ++ ys)
with_both t xs ys = ap (λ x. record t { records = x }) (append_assoc t.records xs ys)

grown_kept : (t : Trace) → IsKept (IsGrown t)
grown_kept t = λ u r g l. (g.0 ++ r ∷ [], ap (λ x. with_more x (r ∷ [])) g.1 ∙ with_both t g.0 (r ∷ []))

-- a trace that is ready has the records that were there, and perhaps one more
pub ready_more : {W : Type 0} (serve : W → State → Record × W) (w : W) (t : Trace) (s : State) (v : W) (u : Trace) → ready serve w t s ≡ Some (v, u) → (more : List Record) × (u ≡ with_more t more)
ready_more serve w t s v u e = ready_keeps serve (IsGrown t) w t s (v, u) (grown_kept t) ([], with_none t) e

-- a recording only adds records to a trace
pub recording_more : {W : Type 0} (serve : W → State → Record × W) (n : ℕ) (w : W) (t : Trace) (s : State) → (more : List Record) × ((recording serve n w t s).0 ≡ with_more t more)
recording_more serve n w t s = recording_keeps serve (IsGrown t) n w t s (grown_kept t) ([], with_none t)

-- and keeps it within the limits
pub recording_within : {W : Type 0} (serve : W → State → Record × W) (n : ℕ) (w : W) (t : Trace) (s : State) → is_within_limits t ≡ true → is_within_limits (recording serve n w t s).0 ≡ true
recording_within serve n w t s p = recording_keeps serve (λ u. is_within_limits u ≡ true) n w t s (λ u r q l. l) p

from_more : {W : Type 0} (serve : W → State → Record × W) (n : ℕ) (v : W) (u : Trace) (o : Outcome) → (more : List Record) × ((recording_after (recording serve n v) u o).0 ≡ with_more u more)
from_more serve n v u o = after_keeps (IsGrown u) (recording serve n v) u o ([], with_none u) (λ x. recording_more serve n v u x)

-- where a trace is ready for a step, the recording adds to it
pub recording_from : {W : Type 0} (serve : W → State → Record × W) (n : ℕ) (w : W) (t : Trace) (s : State) (v : W) (u : Trace) → 0 < n → ready serve w t s ≡ Some (v, u)
    → (more : List Record) × ((recording serve n w t s).0 ≡ with_more u more)
unfolding recording
recording_from serve zero w t s v u h e = absurd (omega arith)
recording_from serve (suc n) w t s v u h e =
    let f = from_more serve n v u (step_of u s) in
    (f.0, ap (λ x. (recording_at (recording serve n) t s x).0) e ∙ f.1)

-- ---- where the trace is full

stops_if : {W : Type 0} (serve : W → State → Record × W) (b : Bool) (w : W) (t : Trace) (s : State) → ready_if serve w t s b ≡ None → b ≡ true
stops_if serve true w t s e = refl
stops_if serve false w t s e = cc

cause_is : (why : Cause) → is_trace_end why ≡ true → (used : ℕ) × (why ≡ cause.TraceEnd used)
cause_is (cause.Exited code) e = cc
cause_is cause.BadFetch e = cc
cause_is cause.Illegal e = cc
cause_is (cause.FloatingPoint opcode) e = cc
cause_is (cause.Misaligned addr) e = cc
cause_is cause.Overflow e = cc
cause_is cause.DivideByZero e = cc
cause_is (cause.TextWrite addr) e = cc
cause_is cause.Break e = cc
cause_is (cause.TraceEnd used) e = (used, refl)
cause_is (cause.TraceMismatch f kept found) e = cc

halt_is : (o : Outcome) → wants_record o ≡ true → (used : ℕ) × (Halt (cause.TraceEnd used) ≡ o)
halt_is (Next r s) e = cc
halt_is (Halt why) e = let c : (used : ℕ) × (why ≡ cause.TraceEnd used) = cause_is why e in (c.0, ap Halt (sym c.1))

-- the step stops since no record is left for its call
pub full_halts : {W : Type 0} (serve : W → State → Record × W) (w : W) (t : Trace) (s : State) → ready serve w t s ≡ None → (used : ℕ) × (Halt (cause.TraceEnd used) ≡ step_of t s)
unfolding ready
full_halts serve w t s e = halt_is (step_of t s) (stops_if serve (wants_record (step_of t s)) w t s e)

after_full : (rest : Trace → State → Trace × Bool) (t u : Trace) (o : Outcome) → recording_after rest t o ≡ (u, true)
    → (r : CommitRecord) × (x : State) × (o ≡ Next r x) × (rest t x ≡ (u, true))
after_full rest t u (Next r x) e = (r, x, refl, e)
after_full rest t u (Halt why) e = let k : false ≡ true = ap (λ p. p.1) e in cc

full_at : {W : Type 0} (serve : W → State → Record × W) (n : ℕ) (w : W) (t u : Trace) (s : State) (o : Option (W × Trace)) → ready serve w t s ≡ o → t.file ≡ true
    → recording_at (recording serve n) t s o ≡ (u, true)
    → ((v : W) (a : Trace) (x : State) → a.file ≡ true → recording serve n v a x ≡ (u, true) → (used : ℕ) × (end_from u n x ≡ ends.Stop (cause.TraceEnd used)))
    → (used : ℕ) × (end_more (end_from u n) (step_of u s) ≡ ends.Stop (cause.TraceEnd used))
full_at serve n w t u s None r f e ih =
    let z : t ≡ u = ap (λ p. p.0) e in
    let k : (used : ℕ) × (Halt (cause.TraceEnd used) ≡ step_of t s) = full_halts serve w t s r in
    (k.0, sym (ap (end_more (end_from u n)) (k.1 ∙ ap (λ y. step_of y s) z)))
full_at serve n w t u s (Some m) r f e ih =
    let a = after_full (recording serve n m.0) m.1 u (step_of m.1 s) e in
    let file : m.1.file ≡ true = ready_keeps serve (λ y. y.file ≡ true) w t s m (λ y c p l. p) f r in
    let more = recording_more serve n m.0 m.1 a.1 in
    let grown : u ≡ with_more m.1 more.0 = sym (ap (λ p. p.0) a.3) ∙ more.1 in
    let rest = ih m.0 m.1 a.1 file a.3 in
    (rest.0, ap (end_more (end_from u n)) (ap (λ y. step_of y s) grown ∙ step_grown m.1 more.0 s a.0 a.1 file a.2) ∙ rest.1)

full_from : {W : Type 0} (serve : W → State → Record × W) (n : ℕ) (w : W) (t u : Trace) (s : State) → t.file ≡ true → recording serve n w t s ≡ (u, true)
    → (used : ℕ) × (end_from u n s ≡ ends.Stop (cause.TraceEnd used))
unfolding recording end_from
full_from serve zero w t u s f e = let k : false ≡ true = ap (λ p. p.1) e in cc
full_from serve (suc n) w t u s f e = full_at serve n w t u s (ready serve w t s) refl f e (λ v a x g h. full_from serve n v a u x g h)

-- where a recording ended since its trace was full, the run over that trace stops since no record is left
pub full_recording_stops : {W : Type 0} (serve : W → State → Record × W) (n : ℕ) (w : W) (t u : Trace) (s : State) → t.file ≡ true → recording serve n w t s ≡ (u, true)
    → (used : ℕ) × (end_of u n s ≡ ends.Stop (cause.TraceEnd used))
unfolding recording
full_recording_stops serve zero w t u s f e = let k : false ≡ true = ap (λ p. p.1) e in cc
full_recording_stops serve (suc n) w t u s f e = full_from serve (suc n) w t u s f e
