-- Steps that lead from one state to another, and the runs that begin with them.
use Rattle.std.specs.Prelude.{◌≡◌, ◌<◌, ◌-◌, ◌+◌, ◌++◌, ◌≤◌, ℕ, zero, suc, List, [], ◌∷◌}
use Rattle.std.proofs.Common.{refl, sym, ap, ◌∙◌, arith, append-nil}
use Rattle.pisa_step.specs.declared.cause.Cause.{Cause}
use Rattle.sim_safe.specs.declared.observer.RunEnd.TheVariants as ends
use Rattle.event_trace.specs.declared.trace.Trace.{Trace}
use Rattle.sim_safe.specs.declared.record.CommitRecord.{CommitRecord}
use Rattle.sim_safe.specs.State.{State}
use Rattle.sim_safe.specs.Step.{Next, Halt, step_of}
use Rattle.sim_safe.specs.Record.{Item, item_of}
use Rattle.sim_safe.specs.Commit.{onto}
use Rattle.sim_safe.specs.Run.{items_of, after, end_from, end_of, end_at_budget}

-- n steps lead from a state to another
unfoldable pub Leads : Trace → ℕ → State → State → Type 0
Leads trace zero s t = t ≡ s
Leads trace (suc n) s t = (r : CommitRecord) × (m : State) × (step_of trace s ≡ Next r m) × Leads trace n m t

-- the same, as a record
pub record Reaches (trace : Trace) (n : ℕ) (s t : State) : Type 0 where
  pub leads : Leads trace n s t

leads_on : (trace : Trace) (n : ℕ) (s t u : State) (r : CommitRecord) → Leads trace n s t → step_of trace t ≡ Next r u → Leads trace (suc n) s u
unfolding Leads
leads_on trace zero s t u r e h = (r, u, rw e at h, refl)
leads_on trace (suc n) s t u r l h = (l.0, l.1, l.2, leads_on trace n l.1 t u r l.3 h)

leads_items : (trace : Trace) (n k : ℕ) (s t : State) → Leads trace n s t → items_of trace (n + k) s ≡ items_of trace n s ++ items_of trace k t
unfolding Leads items_of
leads_items trace zero k s t e = let z : 0 + k ≡ k = omega arith in rw (z, e) refl
leads_items trace (suc n) k s t l =
    let z : suc n + k ≡ suc (n + k) = omega arith in
    rw (z, l.2) (ap (λ x. item_of trace l.0 ∷ x) (leads_items trace n k l.1 t l.3))

leads_after : (trace : Trace) (n k : ℕ) (s t : State) → Leads trace n s t → after trace (n + k) s ≡ after trace k t
unfolding Leads after
leads_after trace zero k s t e = let z : 0 + k ≡ k = omega arith in rw (z, e) refl
leads_after trace (suc n) k s t l =
    let z : suc n + k ≡ suc (n + k) = omega arith in
    rw (z, l.2) (leads_after trace n k l.1 t l.3)

leads_end : (trace : Trace) (n k : ℕ) (s t : State) → Leads trace n s t → end_from trace (n + k) s ≡ end_from trace k t
unfolding Leads end_from
leads_end trace zero k s t e = let z : 0 + k ≡ k = omega arith in rw (z, e) refl
leads_end trace (suc n) k s t l =
    let z : suc n + k ≡ suc (n + k) = omega arith in
    rw (z, l.2) (leads_end trace n k l.1 t l.3)

onto_append : (xs ys h : List Item) → onto (xs ++ ys) h ≡ onto ys (onto xs h)
onto_append [] ys h = refl
onto_append (x ∷ xs) ys h = onto_append xs ys (x ∷ h)

-- no step leads from a state to itself
pub reaches_none : (trace : Trace) (s : State) → Reaches trace 0 s s
unfolding Leads
reaches_none trace s = record { leads = refl }

-- one more step
pub reaches_on : (trace : Trace) (n : ℕ) (s t u : State) (r : CommitRecord) → Reaches trace n s t → Next r u ≡ step_of trace t → Reaches trace (n + 1) s u
reaches_on trace n s t u r l h =
    let z : n + 1 ≡ suc n = omega arith in
    let k : Leads trace (suc n) s u = leads_on trace n s t u r l.leads (sym h) in
    rw z (record { leads = k })

pub items_none : (trace : Trace) (s : State) → items_of trace 0 s ≡ []
unfolding items_of
items_none trace s = refl

items_one : (trace : Trace) (t u : State) (r : CommitRecord) → step_of trace t ≡ Next r u → items_of trace 1 t ≡ item_of trace r ∷ []
unfolding items_of
items_one trace t u r e = rw e refl

pub items_halt : (trace : Trace) (k : ℕ) (t : State) (why : Cause) → step_of trace t ≡ Halt why → items_of trace k t ≡ []
unfolding items_of
items_halt trace zero t why e = refl
items_halt trace (suc k) t why e = rw e refl

pub after_halt : (trace : Trace) (k : ℕ) (t : State) (why : Cause) → step_of trace t ≡ Halt why → after trace k t ≡ t
unfolding after
after_halt trace zero t why e = refl
after_halt trace (suc k) t why e = rw e refl

pub end_halt : (trace : Trace) (k : ℕ) (t : State) (why : Cause) → 0 < k → step_of trace t ≡ Halt why → end_from trace k t ≡ ends.Stop why
unfolding end_from
end_halt trace zero t why h e = absurd (omega arith)
end_halt trace (suc k) t why h e = rw e refl

-- the items of one more step
pub onto_on : (trace : Trace) (n : ℕ) (s t u : State) (r : CommitRecord) (h : List Item) → Reaches trace n s t → Next r u ≡ step_of trace t → onto (items_of trace (n + 1) s) h ≡ item_of trace r ∷ onto (items_of trace n s) h
onto_on trace n s t u r h l e =
    rw (leads_items trace n 1 s t l.leads, items_one trace t u r (sym e)) (onto_append (items_of trace n s) (item_of trace r ∷ []) h)

-- a run that stops after n steps
pub items_stop : (trace : Trace) (n m : ℕ) (s t : State) (why : Cause) → Reaches trace n s t → n ≤ m → Halt why ≡ step_of trace t → items_of trace m s ≡ items_of trace n s
items_stop trace n m s t why l h e =
    let z : m ≡ n + (m - n) = omega arith in
    ap (λ x. items_of trace x s) z ∙ leads_items trace n (m - n) s t l.leads ∙ ap (λ x. items_of trace n s ++ x) (items_halt trace (m - n) t why (sym e)) ∙ append-nil (items_of trace n s)

pub after_stop : (trace : Trace) (n m : ℕ) (s t : State) (why : Cause) → Reaches trace n s t → n ≤ m → Halt why ≡ step_of trace t → t ≡ after trace m s
after_stop trace n m s t why l h e =
    let z : m ≡ n + (m - n) = omega arith in
    sym (ap (λ x. after trace x s) z ∙ leads_after trace n (m - n) s t l.leads ∙ after_halt trace (m - n) t why (sym e))

pub end_of_from : (trace : Trace) (n : ℕ) (s : State) → 0 < n → end_of trace n s ≡ end_from trace n s
end_of_from trace zero s h = absurd (omega arith)
end_of_from trace (suc n) s h = refl

pub end_stop : (trace : Trace) (n m : ℕ) (s t : State) (why : Cause) → Reaches trace n s t → n < m → Halt why ≡ step_of trace t → ends.Stop why ≡ end_of trace m s
end_stop trace n m s t why l h e =
    let z : m ≡ n + (m - n) = omega arith in
    let p : 0 < m = omega arith in
    let q : 0 < m - n = omega arith in
    sym (end_of_from trace m s p ∙ ap (λ x. end_from trace x s) z ∙ leads_end trace n (m - n) s t l.leads ∙ end_halt trace (m - n) t why q (sym e))

end_from_none : (trace : Trace) (t : State) → end_from trace 0 t ≡ end_at_budget t.ended
unfolding end_from
end_from_none trace t = refl

after_none : (trace : Trace) (t : State) → after trace 0 t ≡ t
unfolding after
after_none trace t = refl

-- a run whose steps were all done
pub after_all : (trace : Trace) (n : ℕ) (s t : State) → Reaches trace n s t → t ≡ after trace n s
after_all trace n s t l =
    let z : n ≡ n + 0 = omega arith in
    sym (ap (λ x. after trace x s) z ∙ leads_after trace n 0 s t l.leads ∙ after_none trace t)

pub end_all : (trace : Trace) (n : ℕ) (s t : State) → Reaches trace n s t → 0 < n → end_at_budget t.ended ≡ end_of trace n s
end_all trace n s t l h =
    let z : n ≡ n + 0 = omega arith in
    sym (end_of_from trace n s h ∙ ap (λ x. end_from trace x s) z ∙ leads_end trace n 0 s t l.leads ∙ end_from_none trace t)
