-- Whole runs: what the first n steps from a state do, and how they end.
use Rattle.std.specs.Prelude.{◌≡◌, ◌++◌, ◌<◌, ◌≤◌, ℕ, zero, suc, List, [], ◌∷◌, length, Option, Some, None}
use Rattle.std.proofs.Common.{refl, ap, arith}
use Rattle.pisa_step.specs.declared.cause.Cause.TheVariants as cause
use Rattle.sim_safe.specs.declared.observer.RunEnd.{RunEnd}
use Rattle.sim_safe.specs.declared.observer.RunEnd.TheVariants as ends
use Rattle.event_trace.specs.declared.trace.Trace.{Trace}
use Rattle.paged_mem.specs.Memory.{Pages}
use Rattle.sim_safe.specs.State.{State}
use Rattle.sim_safe.specs.Step.{Outcome, Next, Halt, step_of, TakesNoMemory}
use Rattle.sim_safe.specs.Record.{Item, item_of}

abbrev pub items_more : Trace → (State → List Item) → Outcome → List Item
items_more trace rest (Next r s) = item_of trace r ∷ rest s
items_more trace rest (Halt why) = []

-- the items of up to n steps
unfoldable pub items_of : Trace → ℕ → State → List Item
items_of trace zero s = []
items_of trace (suc n) s = items_more trace (items_of trace n) (step_of trace s)

abbrev pub after_more : (State → State) → State → Outcome → State
after_more rest old (Next r s) = rest s
after_more rest old (Halt why) = old

-- the state after up to n steps
unfoldable pub after : Trace → ℕ → State → State
after trace zero s = s
after trace (suc n) s = after_more (after trace n) s (step_of trace s)

-- whatever the first n steps write lies in pages that are reserved
abbrev pub WriteReserved : Trace → Pages → ℕ → State → Type 0
WriteReserved trace pages n s = (k : ℕ) → k < n → TakesNoMemory trace pages (step_of trace (after trace k s))

abbrev pub end_more : (State → RunEnd) → Outcome → RunEnd
end_more rest (Next r s) = rest s
end_more rest (Halt why) = ends.Stop why

-- how a run ends whose budget is used up
abbrev pub end_at_budget : Option ℕ → RunEnd
end_at_budget None = ends.Limit
end_at_budget (Some code) = ends.Stop (cause.Exited code)

-- how up to n further steps end
unfoldable pub end_from : Trace → ℕ → State → RunEnd
end_from trace zero s = end_at_budget s.ended
end_from trace (suc n) s = end_more (end_from trace n) (step_of trace s)

-- how up to n steps end
abbrev pub end_of : Trace → ℕ → State → RunEnd
end_of trace zero s = ends.Limit
end_of trace (suc n) s = end_from trace (suc n) s

front_more : (trace : Trace) (j n : ℕ) (o : Outcome) → ((t : State) → (more : List Item) × (items_of trace n t ≡ items_of trace j t ++ more)) → (more : List Item) × (items_more trace (items_of trace n) o ≡ items_more trace (items_of trace j) o ++ more)
front_more trace j n (Next r t) f = ((f t).0, ap (λ x. item_of trace r ∷ x) (f t).1)
front_more trace j n (Halt why) f = ([], refl)

-- the items of fewer steps are the first of those of more
pub items_front : (trace : Trace) (j n : ℕ) (s : State) → j ≤ n → (more : List Item) × (items_of trace n s ≡ items_of trace j s ++ more)
unfolding items_of
items_front trace zero n s h = (items_of trace n s, refl)
items_front trace (suc j) zero s h = absurd (omega arith)
items_front trace (suc j) (suc n) s h = front_more trace j n (step_of trace s) (λ t. items_front trace j n t (omega arith))

count_more : (trace : Trace) (n : ℕ) (o : Outcome) → ((t : State) → length (items_of trace n t) ≤ n) → length (items_more trace (items_of trace n) o) ≤ suc n
count_more trace n (Next r t) f = let k : length (items_of trace n t) ≤ n = f t in omega arith
count_more trace n (Halt why) f = omega arith

-- there are no more items than steps
pub items_count : (trace : Trace) (n : ℕ) (s : State) → length (items_of trace n s) ≤ n
unfolding items_of
items_count trace zero s = omega arith
items_count trace (suc n) s = count_more trace n (step_of trace s) (λ t. items_count trace n t)
