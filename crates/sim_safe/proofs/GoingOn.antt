-- Runs that are cut into two.
use Rattle.std.proofs.Common.{◌≡◌, ◌<◌, ◌+◌, ◌++◌, ◌∷◌, ℕ, zero, suc, refl, sym, ap, ◌∙◌, arith}
use Rattle.event_trace.specs.declared.trace.Trace.{Trace}
use Rattle.sim_safe.specs.State.{State}
use Rattle.sim_safe.specs.Step.{Outcome, Next, Halt, step_of}
use Rattle.sim_safe.specs.Record.{item_of}
use Rattle.sim_safe.specs.Run.{items_more, items_of, after_more, after, end_more, end_from, end_of}
use Rattle.sim_safe.specs.Laws.{GoesOn}
use Rattle.sim_safe.proofs.Steps.{items_halt, after_halt, end_halt, end_of_from}

items_if : (trace : Trace) (k n : ℕ) (s : State) (o : Outcome) → step_of trace s ≡ o → ((t : State) → items_of trace (k + n) t ≡ items_of trace k t ++ items_of trace n (after trace k t))
    → items_more trace (items_of trace (k + n)) o ≡ items_more trace (items_of trace k) o ++ items_of trace n (after_more (after trace k) s o)
items_if trace k n s (Next r t) e rest = ap (λ x. item_of trace r ∷ x) (rest t)
items_if trace k n s (Halt why) e rest = sym (items_halt trace n s why e)

items_split : (trace : Trace) (k n : ℕ) (s : State) → items_of trace (k + n) s ≡ items_of trace k s ++ items_of trace n (after trace k s)
unfolding items_of after
items_split trace zero n s = let z : 0 + n ≡ n = omega arith in rw z refl
items_split trace (suc k) n s =
    let z : suc k + n ≡ suc (k + n) = omega arith in
    rw z (items_if trace k n s (step_of trace s) refl (λ t. items_split trace k n t))

after_if : (trace : Trace) (k n : ℕ) (s : State) (o : Outcome) → step_of trace s ≡ o → ((t : State) → after trace (k + n) t ≡ after trace n (after trace k t))
    → after_more (after trace (k + n)) s o ≡ after trace n (after_more (after trace k) s o)
after_if trace k n s (Next r t) e rest = rest t
after_if trace k n s (Halt why) e rest = sym (after_halt trace n s why e)

after_split : (trace : Trace) (k n : ℕ) (s : State) → after trace (k + n) s ≡ after trace n (after trace k s)
unfolding after
after_split trace zero n s = let z : 0 + n ≡ n = omega arith in rw z refl
after_split trace (suc k) n s =
    let z : suc k + n ≡ suc (k + n) = omega arith in
    rw z (after_if trace k n s (step_of trace s) refl (λ t. after_split trace k n t))

end_if : (trace : Trace) (k n : ℕ) (s : State) (o : Outcome) → 0 < n → step_of trace s ≡ o → ((t : State) → end_from trace (k + n) t ≡ end_from trace n (after trace k t))
    → end_more (end_from trace (k + n)) o ≡ end_from trace n (after_more (after trace k) s o)
end_if trace k n s (Next r t) p e rest = rest t
end_if trace k n s (Halt why) p e rest = sym (end_halt trace n s why p e)

end_split : (trace : Trace) (k n : ℕ) (s : State) → 0 < n → end_from trace (k + n) s ≡ end_from trace n (after trace k s)
unfolding end_from after
end_split trace zero n s p = let z : 0 + n ≡ n = omega arith in rw z refl
end_split trace (suc k) n s p =
    let z : suc k + n ≡ suc (k + n) = omega arith in
    rw z (end_if trace k n s (step_of trace s) p refl (λ t. end_split trace k n t p))

pub goes_on : (trace : Trace) (k n : ℕ) (s : State) → GoesOn trace k n s
goes_on trace k n s = record {
  items = items_split trace k n s;
  state = after_split trace k n s;
  end = λ p. end_of_from trace (k + n) s (omega (arith, p)) ∙ end_split trace k n s p ∙ sym (end_of_from trace n (after trace k s) p);
}
