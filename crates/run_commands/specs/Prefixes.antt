-- A recording with a smaller limit shows the first steps of the one with a greater.
use Rattle.std.proofs.Common.{◌≡◌, ℕ, zero, suc, ◌≤◌, true, ◌∷◌, Option, Some, None, refl, sym, ap, ◌∙◌, subst, arith}
use Rattle.event_trace.specs.declared.trace.Record.{Record}
use Rattle.event_trace.specs.declared.trace.Trace.{Trace}
use Rattle.event_trace.specs.Recorder.{with_more}
use Rattle.sim_safe.specs.declared.record.CommitRecord.{CommitRecord}
use Rattle.sim_safe.specs.State.{State}
use Rattle.sim_safe.specs.Record.{item_of}
use Rattle.sim_safe.specs.Step.{Outcome, Next, Halt, step_of}
use Rattle.sim_safe.specs.Laws.{IsGrown}
use Rattle.sim_safe.specs.Run.{items_of, items_more}
use Rattle.sim_safe.specs.Recording.{ready, recording_after, recording_at, recording}
use Rattle.sim_safe.proofs.Growing.{step_grown, item_grown}
use Rattle.sim_safe.proofs.Replays.{ready_keeps, recording_more}

-- a step that goes on shows the same over a trace with more records
shows_first : (part whole : Trace) (k : ℕ) (s : State) (r : CommitRecord) (x : State) → part.file ≡ true → IsGrown part whole → step_of part s ≡ Next r x
    → items_more whole (items_of whole k) (step_of whole s) ≡ item_of part r ∷ items_of whole k x
shows_first part whole k s r x f g e =
    let grown : Trace = with_more part g.0 in
    let P : Trace → Type 0 = λ y. items_more y (items_of y k) (step_of y s) ≡ item_of part r ∷ items_of y k x in
    subst P (sym g.1) (ap (items_more grown (items_of grown k)) (step_grown part g.0 s r x f e) ∙ ap (λ i. i ∷ items_of grown k x) (item_grown part g.0 s r x f e))

-- the step before which a trace is ready
first_after : {W : Type 0} (serve : W → State → Record × W) (k n : ℕ) (w : W) (t : Trace) (s : State) (o : Outcome) → step_of t s ≡ o → t.file ≡ true
    → ((x : State) → items_of (recording serve k w t x).0 k x ≡ items_of (recording serve n w t x).0 k x)
    → items_more (recording_after (recording serve k w) t o).0 (items_of (recording_after (recording serve k w) t o).0 k) (step_of (recording_after (recording serve k w) t o).0 s)
    ≡ items_more (recording_after (recording serve n w) t o).0 (items_of (recording_after (recording serve n w) t o).0 k) (step_of (recording_after (recording serve n w) t o).0 s)
first_after serve k n w t s (Halt why) e f ih = ap (λ o. items_more t (items_of t k) o) refl
first_after serve k n w t s (Next r x) e f ih =
    let part : Trace = (recording serve k w t x).0 in
    let whole : Trace = (recording serve n w t x).0 in
    shows_first t part k s r x f (recording_more serve k w t x) e ∙ ap (λ is. item_of t r ∷ is) (ih x) ∙ sym (shows_first t whole k s r x f (recording_more serve n w t x) e)

first_at : {W : Type 0} (serve : W → State → Record × W) (k n : ℕ) (w : W) (t : Trace) (s : State) (o : Option (W × Trace)) → ready serve w t s ≡ o → t.file ≡ true
    → ((v : W) (u : Trace) (x : State) → u.file ≡ true → items_of (recording serve k v u x).0 k x ≡ items_of (recording serve n v u x).0 k x)
    → items_more (recording_at (recording serve k) t s o).0 (items_of (recording_at (recording serve k) t s o).0 k) (step_of (recording_at (recording serve k) t s o).0 s)
    ≡ items_more (recording_at (recording serve n) t s o).0 (items_of (recording_at (recording serve n) t s o).0 k) (step_of (recording_at (recording serve n) t s o).0 s)
first_at serve k n w t s None e f ih = refl
first_at serve k n w t s (Some m) e f ih =
    let file : m.1.file ≡ true = ready_keeps serve (λ y. y.file ≡ true) w t s m (λ y c p l. p) f e in
    first_after serve k n m.0 m.1 s (step_of m.1 s) refl file (λ x. ih m.0 m.1 x file)

pub recording_first : {W : Type 0} (serve : W → State → Record × W) (k n : ℕ) (w : W) (t : Trace) (s : State) → t.file ≡ true → k ≤ n
    → items_of (recording serve k w t s).0 k s ≡ items_of (recording serve n w t s).0 k s
unfolding recording items_of
recording_first serve zero n w t s f h = refl
recording_first serve (suc k) zero w t s f h = absurd (omega (arith, h))
recording_first serve (suc k) (suc n) w t s f h =
    first_at serve k n w t s (ready serve w t s) refl f (λ v u x g. recording_first serve k n v u x g (omega (arith, h)))
