-- Recorders step by step: what the steps that were done had served, and what those that are left will.
use Rattle.std.specs.Prelude.{◌≡◌, ◌<◌, ◌≤◌, ◌-◌, ◌+◌, ℕ, zero, suc, Bool, true, false, Option, Some, None, Ok}
use Rattle.std.proofs.Common.{refl, sym, ap, ◌∙◌, subst, arith, inl, inr}
use Rattle.pisa_step.specs.declared.cause.Cause.{Cause}
use Rattle.event_trace.specs.declared.trace.Trace.{Trace}
use Rattle.event_trace.specs.World.{WorldState}
use Rattle.event_trace.specs.Recorder.{RecorderState}
use Rattle.sim_safe.specs.declared.record.CommitRecord.{CommitRecord}
use Rattle.sim_safe.specs.declared.observer.Advance.TheVariants as advance
use Rattle.sim_safe.specs.declared.observer.RunFault.{RunFault}
use Rattle.sim_safe.specs.declared.observer.RunFault.TheVariants as faults
use Rattle.sim_safe.specs.State.{State}
use Rattle.sim_safe.specs.Step.{Next, Halt, step_of}
use Rattle.sim_safe.specs.Advance.{AdvanceState}
use Rattle.sim_safe.specs.Recording.{ready, recording, world_more, world_at, world_after, serve, Prepares, HasServed, HasServedOrNext, RecorderLeft}
use Rattle.sim_safe.proofs.Recorded.{pair_of, recording_on, recording_over, recording_full, recording_none}

-- ---- the world that a recording leaves

world_step : (n : ℕ) (w : WorldState) (t : Trace) (s : State) (m : Option (WorldState × Trace)) → ready serve w t s ≡ m
    → world_after serve (suc n) w t s ≡ world_at (world_after serve n) w s m
unfolding world_after
world_step n w t s m e = ap (world_at (world_after serve n) w s) e

-- one more step
world_on : (k : ℕ) (w : WorldState) (t : Trace) (s : State) (v : WorldState) (u : Trace) (r : CommitRecord) (x : State) → ready serve w t s ≡ pair_of v u → Next r x ≡ step_of u s
    → world_after serve (suc k) w t s ≡ world_after serve k v u x
world_on k w t s v u r x e f = world_step k w t s (Some (v, u)) e ∙ ap (world_more (world_after serve k v u) v) (sym f)

-- a step that stops
world_over : (k : ℕ) (w : WorldState) (t : Trace) (s : State) (v : WorldState) (u : Trace) (why : Cause) → 0 < k → ready serve w t s ≡ pair_of v u → Halt why ≡ step_of u s
    → world_after serve k w t s ≡ v
world_over zero w t s v u why h e f = absurd (omega arith)
world_over (suc k) w t s v u why h e f = world_step k w t s (Some (v, u)) e ∙ ap (world_more (world_after serve k v u) v) (sym f)

-- a trace that is full
world_full : (k : ℕ) (w : WorldState) (t : Trace) (s : State) → 0 < k → ready serve w t s ≡ None → world_after serve k w t s ≡ w
world_full zero w t s h e = absurd (omega arith)
world_full (suc k) w t s h e = world_step k w t s None e

-- no step that is left
world_none : (k : ℕ) (w : WorldState) (t : Trace) (s : State) → k ≡ 0 → world_after serve k w t s ≡ w
unfolding world_after
world_none zero w t s e = refl
world_none (suc k) w t s e = absurd (omega arith)

-- ---- recorders on the way

-- a recorder goes on in a state as another one does that has yet to do a number of steps before
pub record GoesOn (old : RecorderState) (done : ℕ) (s : State) (now : RecorderState) (t : State) : Type 0 where
  pub trace : (k : ℕ) → recording serve k now.world now.trace t ≡ recording serve (done + k) old.world old.trace s
  pub world : (k : ℕ) → world_after serve k now.world now.trace t ≡ world_after serve (done + k) old.world old.trace s

-- at the start
pub goes_on_none : (old : RecorderState) (s : State) → GoesOn old 0 s old s
goes_on_none old s = record {
  trace = λ k. let z : k ≡ 0 + k = omega arith in ap (λ x. recording serve x old.world old.trace s) z;
  world = λ k. let z : k ≡ 0 + k = omega arith in ap (λ x. world_after serve x old.world old.trace s) z;
}

-- after one more step
pub goes_on_next : (old now new : RecorderState) (done : ℕ) (s t u : State) (r : CommitRecord) → GoesOn old done s now t → ready serve now.world now.trace t ≡ pair_of new.world new.trace → Next r u ≡ step_of new.trace t
    → GoesOn old (done + 1) s new u
goes_on_next old now new done s t u r g e f = record {
  trace = λ k.
      let p : 0 < suc k = omega arith in
      let y : k ≡ suc k - 1 = omega arith in
      let z : done + suc k ≡ done + 1 + k = omega arith in
      ap (λ x. recording serve x new.world new.trace u) y ∙ sym (recording_on (suc k) now.world now.trace t new.world new.trace r u p e f)
      ∙ g.trace (suc k) ∙ ap (λ x. recording serve x old.world old.trace s) z;
  world = λ k.
      let z : done + suc k ≡ done + 1 + k = omega arith in
      sym (world_on k now.world now.trace t new.world new.trace r u e f) ∙ g.world (suc k) ∙ ap (λ x. world_after serve x old.world old.trace s) z;
}

-- the steps that are left make what all make
pub trace_left : (old now : RecorderState) (n done : ℕ) (s t : State) → done ≤ n → GoesOn old done s now t → recording serve (n - done) now.world now.trace t ≡ recording serve n old.world old.trace s
trace_left old now n done s t h g =
    let z : done + (n - done) ≡ n = omega (arith, h) in
    g.trace (n - done) ∙ ap (λ x. recording serve x old.world old.trace s) z

world_left : (old now : RecorderState) (n done : ℕ) (s t : State) → done ≤ n → GoesOn old done s now t → world_after serve (n - done) now.world now.trace t ≡ world_after serve n old.world old.trace s
world_left old now n done s t h g =
    let z : done + (n - done) ≡ n = omega (arith, h) in
    g.world (n - done) ∙ ap (λ x. world_after serve x old.world old.trace s) z

-- ---- recorders that served

-- the trace and the world are those of the steps
served_by : (n : ℕ) (old new : RecorderState) (s : State) (full : Bool) → recording serve n old.world old.trace s ≡ (new.trace, full) → world_after serve n old.world old.trace s ≡ new.world → HasServed n old s new
served_by n old new s full e f =
    let P : Trace → RecorderState = λ x. record { world = new.world; trace = x } in
    let Q : WorldState → RecorderState = λ x. record { world = x; trace = (recording serve n old.world old.trace s).0 } in
    ap P (sym (ap (λ p. p.0) e)) ∙ ap Q (sym f)

-- what a whole recording made, and that its recorder served it
abbrev pub Made : ℕ → RecorderState → State → RecorderState → Bool → Type 0
Made n old s new full = (recording serve n old.world old.trace s ≡ (new.trace, full)) × HasServed n old s new

made_by : (n : ℕ) (old new : RecorderState) (s : State) (full : Bool) → recording serve n old.world old.trace s ≡ (new.trace, full) → world_after serve n old.world old.trace s ≡ new.world → Made n old s new full
made_by n old new s full e f = (e, served_by n old new s full e f)

-- no step at all
pub made_none : (n : ℕ) (old : RecorderState) (s : State) → n ≡ 0 → Made n old s old false
made_none n old s z = made_by n old old s false (recording_none n old.world old.trace s z) (world_none n old.world old.trace s z)

-- all steps were done
pub made_all : (old now : RecorderState) (n done : ℕ) (s t : State) → n ≡ done → GoesOn old done s now t → Made n old s now false
made_all old now n done s t z g =
    let h : done ≤ n = omega arith in
    let k : n - done ≡ 0 = omega arith in
    made_by n old now s false
    (sym (trace_left old now n done s t h g) ∙ recording_none (n - done) now.world now.trace t k)
    (sym (world_left old now n done s t h g) ∙ world_none (n - done) now.world now.trace t k)

-- the next step stops
pub made_over : (old now new : RecorderState) (n done : ℕ) (s t : State) (why : Cause) → done < n → GoesOn old done s now t → ready serve now.world now.trace t ≡ pair_of new.world new.trace → Halt why ≡ step_of new.trace t
    → Made n old s new false
made_over old now new n done s t why h g e f =
    let l : done ≤ n = omega (arith, h) in
    let k : 0 < n - done = omega (arith, h) in
    made_by n old new s false
    (sym (trace_left old now n done s t l g) ∙ recording_over (n - done) now.world now.trace t new.world new.trace why k e f)
    (sym (world_left old now n done s t l g) ∙ world_over (n - done) now.world now.trace t new.world new.trace why k e f)

-- there is no room for its call
pub made_full : (old now new : RecorderState) (n done : ℕ) (s t : State) → done < n → GoesOn old done s now t → ready serve now.world now.trace t ≡ None → new ≡ now → Made n old s new true
made_full old now new n done s t h g e z =
    let l : done ≤ n = omega (arith, h) in
    let k : 0 < n - done = omega (arith, h) in
    let P : RecorderState → Type 0 = λ x. Made n old s x true in
    subst P (sym z) (made_by n old now s true
    (sym (trace_left old now n done s t l g) ∙ recording_full (n - done) now.world now.trace t k e)
    (sym (world_left old now n done s t l g) ∙ world_full (n - done) now.world now.trace t k e))

-- ---- recorders of runs that were given up

-- the steps that were done have been served
goes_on_served : (old now : RecorderState) (done : ℕ) (s t : State) → GoesOn old done s now t → HasServed done old s now
goes_on_served old now done s t g = (made_all old now done done s t refl g).1

-- there was no memory for the record of the next step's call
pub left_unready : (old now new : RecorderState) (done : ℕ) (s t : State) → t.icnt ≡ s.icnt + done → GoesOn old done s now t → new ≡ now → HasServedOrNext (t.icnt - s.icnt) old s new t
left_unready old now new done s t i g z =
    let k : t.icnt - s.icnt ≡ done = omega arith in
    let P : ℕ → Type 0 = λ x. HasServedOrNext x old s new t in
    subst P (sym k) (inl (z ∙ goes_on_served old now done s t g))

-- the next step was given up
pub left_failed : {F : Type 0} (old now new : RecorderState) (done : ℕ) (s t u : State) (f : RunFault F) → t.icnt ≡ s.icnt + done → GoesOn old done s now t → ready serve now.world now.trace t ≡ pair_of new.world new.trace
    → AdvanceState new.trace t u (advance.Failed f) → RecorderLeft (u.icnt - s.icnt) old s new u f
left_failed old now new done s t u (faults.Watch f) i g e st =
    let k : u.icnt - s.icnt ≡ done + 1 = omega arith in
    let P : ℕ → Type 0 = λ x. HasServed x old s new in
    subst P (sym k) (goes_on_served old new (done + 1) s u (goes_on_next old now new done s t u st.0 g e st.1))
left_failed old now new done s t u faults.OutOfMemory i g e st =
    let j : u.icnt ≡ t.icnt = ap (λ x. x.icnt) st in
    let k : u.icnt - s.icnt ≡ done = omega arith in
    let P : ℕ → Type 0 = λ x. HasServedOrNext x old s new u in
    let Q : RecorderState → Type 0 = λ x. Prepares x new u (Ok true) in
    let R : State → Type 0 = λ x. ready serve now.world now.trace x ≡ pair_of new.world new.trace in
    subst P (sym k) (inr (subst Q (goes_on_served old now done s t g) (subst R (sym st) e)))
