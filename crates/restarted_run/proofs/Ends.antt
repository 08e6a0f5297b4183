-- Runs that ended by themselves do nothing more with a greater budget.
use Rattle.std.proofs.Common.{◌≡◌, ◌≢◌, ◌+◌, ℕ, zero, suc, ◌∷◌, Option, Some, None, refl, ap, subst, arith}
use Rattle.event_trace.specs.declared.trace.Trace.{Trace}
use Rattle.sim_safe.specs.declared.observer.RunEnd.TheVariants as ends
use Rattle.sim_safe.specs.State.{State}
use Rattle.sim_safe.specs.Record.{item_of}
use Rattle.sim_safe.specs.Step.{Outcome, Next, Halt, step_of}
use Rattle.sim_safe.specs.Run.{items_of, after, end_from, end_more, end_at_budget}

-- with a greater budget a run that ended by itself does the same, and ends so
pub record IsSame (trace : Trace) (n m : ℕ) (s : State) : Type 0 where
  pub items : items_of trace m s ≡ items_of trace n s
  pub state : after trace m s ≡ after trace n s
  pub end : end_from trace m s ≡ end_from trace n s

-- ---- a program that has exited

exited_more : (trace : Trace) (m : ℕ) (s : State) (code : ℕ) → s.ended ≡ Some code → IsSame trace zero (suc m) s
unfolding items_of after end_from step_of
exited_more trace m s code is = record { items = rw is refl; state = rw is refl; end = rw is refl }

exited_if : (trace : Trace) (m : ℕ) (s : State) (ended : Option ℕ) → s.ended ≡ ended → end_at_budget ended ≢ ends.Limit → IsSame trace zero m s
exited_if trace m s None is h = absurd (h refl)
exited_if trace zero s (Some code) is h = record { items = refl; state = refl; end = refl }
exited_if trace (suc m) s (Some code) is h = exited_more trace m s code is

-- ---- step by step

same_more : (trace : Trace) (n m : ℕ) (s : State) (o : Outcome) → step_of trace s ≡ o → end_more (end_from trace n) o ≢ ends.Limit → ((t : State) → end_from trace n t ≢ ends.Limit → IsSame trace n m t) → IsSame trace (suc n) (suc m) s
unfolding items_of after end_from
same_more trace n m s (Next r t) is h f =
    let rest = f t h in
    record {
      items = rw is (ap (λ xs. item_of trace r ∷ xs) rest.items);
      state = rw is rest.state;
      end = rw is rest.end;
    }
same_more trace n m s (Halt why) is h f = record { items = rw is refl; state = rw is refl; end = rw is refl }

pub same_with : (trace : Trace) (n j : ℕ) (s : State) → end_from trace n s ≢ ends.Limit → IsSame trace n (n + j) s
unfolding end_from
same_with trace zero j s h = exited_if trace (zero + j) s s.ended refl h
same_with trace (suc n) j s h =
    subst (λ (m : ℕ). IsSame trace (suc n) m s) (let e : suc (n + j) ≡ suc n + j = omega arith in e)
    (same_more trace n (n + j) s (step_of trace s) refl h (λ t g. same_with trace n j t g))
