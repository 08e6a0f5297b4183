-- The steps of a run that were done.
use Rattle.std.specs.Prelude.{◌≡◌, ◌+◌, ◌-◌, ℕ, zero, suc, List, [], ◌∷◌, length}
use Rattle.std.proofs.Common.{refl, ap, ◌∙◌, arith}
use Rattle.event_trace.specs.declared.trace.Trace.{Trace}
use Rattle.sim_safe.specs.State.{State}
use Rattle.sim_safe.specs.Step.{Outcome, Next, Halt, step_of}
use Rattle.sim_safe.specs.Laws.{StepKeeps}
use Rattle.sim_safe.specs.Record.{Item, item_of}
use Rattle.sim_safe.specs.Run.{items_more, items_of, after_more, after}

-- the law that each step that is done counts one instruction
abbrev pub StepsKeep : Type 0
StepsKeep = (trace : Trace) (s : State) → StepKeeps s (step_of trace s)

-- ---- runs

count_more : (trace : Trace) (n : ℕ) (s : State) (o : Outcome) → StepKeeps s o → ((t : State) → (after trace n t).icnt ≡ t.icnt + length (items_of trace n t))
    → (after_more (after trace n) s o).icnt ≡ s.icnt + length (items_more trace (items_of trace n) o)
count_more trace n s (Next r t) c f = let k : (after trace n t).icnt ≡ t.icnt + length (items_of trace n t) = f t in omega (arith, c.icnt)
count_more trace n s (Halt why) c f = omega arith

-- as many instructions are counted as there are items
after_count : StepsKeep → (trace : Trace) (n : ℕ) (s : State) → (after trace n s).icnt ≡ s.icnt + length (items_of trace n s)
unfolding items_of after
after_count law trace zero s = omega arith
after_count law trace (suc n) s = count_more trace n s (step_of trace s) (law trace s) (λ t. after_count law trace n t)

-- steps that lead to a state are as many as it has counted
pub steps_counted : StepsKeep → (trace : Trace) (done : ℕ) (s t : State) → t ≡ after trace done s → done ≡ t.icnt - s.icnt → t.icnt ≡ s.icnt + done
steps_counted law trace done s t e d = let k : t.icnt ≡ (after trace done s).icnt = ap (λ x. x.icnt) e in omega (arith, after_count law trace done s, k, d)

pub items_counted : StepsKeep → (trace : Trace) (n : ℕ) (s t : State) → t ≡ after trace n s → t.icnt ≡ s.icnt + length (items_of trace n s)
items_counted law trace n s t e = ap (λ x. x.icnt) e ∙ after_count law trace n s

-- ---- a run that stops does no more steps than it has items

items_upto : Trace → ℕ → Outcome → List Item
items_upto trace zero o = []
items_upto trace (suc d) o = items_more trace (items_of trace d) o

state_upto : Trace → ℕ → State → Outcome → State
state_upto trace zero s o = s
state_upto trace (suc d) s o = after_more (after trace d) s o

stops_more : (trace : Trace) (n d : ℕ) (s : State) (o : Outcome) → d ≡ length (items_more trace (items_of trace n) o)
    → ((k : ℕ) (t : State) → k ≡ length (items_of trace n t) → (items_of trace k t ≡ items_of trace n t) × (after trace k t ≡ after trace n t))
    → (items_upto trace d o ≡ items_more trace (items_of trace n) o) × (state_upto trace d s o ≡ after_more (after trace n) s o)
unfolding items_upto state_upto
stops_more trace n zero s (Next r t) e f = absurd (omega (arith, e))
stops_more trace n (suc d) s (Next r t) e f =
    let k = f d t (omega (arith, e)) in
    (ap (λ x. item_of trace r ∷ x) k.0, k.1)
stops_more trace n zero s (Halt why) e f = (refl, refl)
stops_more trace n (suc d) s (Halt why) e f = absurd (omega (arith, e))

pub stops_at : (trace : Trace) (n d : ℕ) (s : State) → d ≡ length (items_of trace n s) → (items_of trace d s ≡ items_of trace n s) × (after trace d s ≡ after trace n s)
unfolding items_of after items_upto state_upto
stops_at trace zero zero s e = (refl, refl)
stops_at trace zero (suc d) s e = absurd (omega (arith, e))
stops_at trace (suc n) zero s e = stops_more trace n zero s (step_of trace s) e (λ k t h. stops_at trace n k t h)
stops_at trace (suc n) (suc d) s e = stops_more trace n (suc d) s (step_of trace s) e (λ k t h. stops_at trace n k t h)
