-- Steps of which no records are made, one after the other.
use Rattle.std.proofs.Common.{◌≡◌, ◌<◌, ◌≤◌, ◌-◌, ◌+◌, ℕ, zero, suc, length, refl, sym, ap, subst, ◌∙◌, arith}
use Rattle.std.specs.Prelude.{Result, Ok, Err}
use Rattle.ss_base.specs.declared.fault.OutOfMemory.{OutOfMemory}
use Rattle.event_trace.specs.declared.trace.Trace.{Trace}
use Rattle.pisa_step.specs.declared.cause.Cause.{Cause}
use Rattle.pisa_isa.specs.declared.instr.Instr.{Instr}
use Rattle.pisa_step.specs.declared.changes.Changes.{Changes}
use Rattle.sim_safe.specs.declared.record.CommitRecord.{CommitRecord}
use Rattle.sim_safe.specs.State.{State, Storage, state_of}
use Rattle.sim_safe.specs.Step.{Next, Halt, moved, recorded, executed, step_of}
use Rattle.sim_safe.specs.Run.{items_of, after}
use Rattle.sim_safe.specs.Skip.{SkipState, SkipEnds}
use Rattle.sim_safe.proofs.Steps.{Leads, Reaches, reaches_on, items_stop, after_stop, end_stop, after_all, end_all}

leads_count : (trace : Trace) (n : ℕ) (s t : State) → Leads trace n s t → length (items_of trace n s) ≡ n
unfolding Leads items_of
leads_count trace zero s t l = refl
leads_count trace (suc n) s t l = rw l.2 (ap suc (leads_count trace n l.1 t l.3))

-- an instruction that is no call, whose changes were made
pub done_leaves : (old now new : Storage) (i : Instr) (e : Changes) (outcome : Result Changes Cause) → outcome ≡ Ok e → state_of now ≡ state_of old → state_of new ≡ moved (state_of now) e
    → (r : CommitRecord) × (Next r (state_of new) ≡ executed (state_of old) i outcome) × (new.icnt ≡ old.icnt + 1)
done_leaves old now new i e outcome is same made =
    let r : CommitRecord = recorded (state_of old) i e in
    let left : state_of new ≡ moved (state_of old) e = made ∙ ap (λ (s : State). moved s e) same in
    (r, ap (Next r) left ∙ sym (ap (executed (state_of old) i) is), ap (λ (s : State). s.icnt) left)

-- one step more of a run
pub passed_reaches : (trace : Trace) (k : ℕ) (s t u : State) → Reaches trace k s t → (r : CommitRecord) × (Next r u ≡ step_of trace t) → Reaches trace (k + 1) s u
passed_reaches trace k s t u l h = reaches_on trace k s t u h.0 l h.1

-- steps that were all done
pub all_state : (trace : Trace) (n : ℕ) (s t : State) → Reaches trace n s t → t.icnt ≡ s.icnt + n → SkipState trace n s t (Ok n)
all_state trace n s t l i = (after_all trace n s t l, sym (leads_count trace n s t l.leads), i)

pub all_ends : (trace : Trace) (n : ℕ) (s t : State) → Reaches trace n s t → SkipEnds trace n s t n
all_ends trace n s t l = record {
  within = omega arith;
  early = λ lt. absurd (omega (arith, lt));
  whole = λ e p. sym (end_all trace n s t l p);
}

-- steps of which the last stops
pub stop_state : (trace : Trace) (n done : ℕ) (s t u : State) (why : Cause) → Reaches trace done s t → t.icnt ≡ s.icnt + done → done < n → Halt why ≡ step_of trace t → u ≡ t → SkipState trace n s u (Ok done)
stop_state trace n done s t u why l i d h e =
    let le : done ≤ n = omega arith in
    (e ∙ after_stop trace done n s t why l le h, sym (ap length (items_stop trace done n s t why l le h) ∙ leads_count trace done s t l.leads), ap (λ x. x.icnt) e ∙ i)

pub stop_ends : (trace : Trace) (n done : ℕ) (s t u : State) (why : Cause) → Reaches trace done s t → done < n → Halt why ≡ step_of trace t → u ≡ t → SkipEnds trace n s u done
stop_ends trace n done s t u why l d h e = record {
  within = omega arith;
  early = λ lt. (why, ap (step_of trace) e ∙ sym h, sym (end_stop trace done n s t why l d h));
  whole = λ same. absurd (omega (arith, same, d));
}

-- steps that were given up
pub given_up : (trace : Trace) (n done : ℕ) (s t u : State) (f : OutOfMemory) → Reaches trace done s t → t.icnt ≡ s.icnt + done → done < n → u ≡ t → SkipState trace n s u (Err f)
given_up trace n done s t u f l i d e =
    let j : u.icnt ≡ t.icnt = ap (λ x. x.icnt) e in
    let z : u.icnt - s.icnt ≡ done = omega arith in
    let P : ℕ → Type 0 = λ k. u ≡ after trace k s in
    (subst P (sym z) (e ∙ after_all trace done s t l), omega arith)
