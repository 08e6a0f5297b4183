-- Steps of an observed run one after the other.
use Rattle.std.specs.Prelude.{◌≡◌, ◌<◌, ◌-◌, ◌+◌, ◌≤◌, ℕ, zero, suc, List, Err}
use Rattle.std.proofs.Common.{refl, sym, ap, ◌∙◌, subst, arith}
use Rattle.event_trace.specs.declared.trace.Trace.{Trace}
use Rattle.pisa_step.specs.declared.cause.Cause.{Cause}
use Rattle.sim_safe.specs.declared.observer.RunEnd.TheVariants as ends
use Rattle.sim_safe.specs.declared.observer.RunFault.{RunFault}
use Rattle.sim_safe.specs.declared.observer.RunFault.TheVariants as faults
use Rattle.sim_safe.specs.declared.observer.Advance.TheVariants as advance
use Rattle.sim_safe.specs.declared.observer.Meaning.{Meaning}
use Rattle.paged_mem.specs.Memory.{Pages, IsReserved}
use Rattle.sim_safe.specs.Step.{Halt, step_of, TakesNoMemory}
use Rattle.sim_safe.specs.State.{State}
use Rattle.sim_safe.specs.Record.{Item}
use Rattle.sim_safe.specs.Commit.{onto}
use Rattle.sim_safe.specs.Run.{items_of, after, end_of, WriteReserved}
use Rattle.sim_safe.proofs.NoMemory.{takes_kept}
use Rattle.sim_safe.proofs.Steps.{Reaches, reaches_none, reaches_on, onto_on, items_stop, after_stop, end_stop, after_all}
use Rattle.sim_safe.specs.Observed.{RunMemory, RunTook, RunState}
use Rattle.sim_safe.specs.Advance.{AdvanceMemory, AdvanceState, AdvanceTook}

-- a run that is given up at a step
pub failed_took : {S F : Type 0} (T : Type 0) (took cut : S → List Item → S → Type 0) (trace : Trace) (n done : ℕ) (s t u : State) (start : S) (h : List Item) (now : S) (f : RunFault F)
    → Reaches trace done s t → t.icnt ≡ s.icnt + done → AdvanceState trace t u (advance.Failed f) → AdvanceTook took cut trace t u start (onto (items_of trace done s) h) now (advance.Failed f)
    → RunTook {T = T} took cut trace n s u start h now (Err f)
failed_took T took cut trace n done s t u start h now (faults.Watch f) l i st tk =
    let z : u.icnt - s.icnt ≡ done + 1 = omega arith in
    let P : ℕ → Type 0 = λ k. cut start (onto (items_of trace k s) h) now in
    let Q : List Item → Type 0 = λ x. cut start x now in
    subst P (sym z) (subst Q (sym (onto_on trace done s t u st.0 h l st.1)) (tk st.0 st.1))
failed_took T took cut trace n done s t u start h now faults.OutOfMemory l i st tk =
    let e : u.icnt ≡ t.icnt = ap (λ x. x.icnt) st in
    let z : u.icnt - s.icnt ≡ done = omega arith in
    let P : ℕ → Type 0 = λ k. took start (onto (items_of trace k s) h) now in
    subst P (sym z) tk

pub failed_state : {F : Type 0} (trace : Trace) (n done : ℕ) (s t u : State) (f : RunFault F)
    → Reaches trace done s t → t.icnt ≡ s.icnt + done → done < n → AdvanceState trace t u (advance.Failed f)
    → RunState trace n s u (Err f)
failed_state trace n done s t u (faults.Watch f) l i d st =
    let z : u.icnt - s.icnt ≡ done + 1 = omega arith in
    let P : ℕ → Type 0 = λ k. u ≡ after trace k s in
    (subst P (sym z) (after_all trace (done + 1) s u (reaches_on trace done s t u st.0 l st.1)), omega arith, omega arith)
failed_state trace n done s t u faults.OutOfMemory l i d st =
    let e : u.icnt ≡ t.icnt = ap (λ x. x.icnt) st in
    let z : u.icnt - s.icnt ≡ done = omega arith in
    let P : ℕ → Type 0 = λ k. u ≡ after trace k s in
    (subst P (sym z) (st ∙ after_all trace done s t l), omega arith)

-- a run that stops
pub stopped_took : {S : Type 0} (took : S → List Item → S → Type 0) (trace : Trace) (n done : ℕ) (s t : State) (why : Cause) (start : S) (h : List Item) (now : S)
    → Reaches trace done s t → done ≤ n → Halt why ≡ step_of trace t → took start (onto (items_of trace done s) h) now
    → took start (onto (items_of trace n s) h) now
stopped_took took trace n done s t why start h now l d e tk =
    let Q : List Item → Type 0 = λ x. took start (onto x h) now in
    subst Q (sym (items_stop trace done n s t why l d e)) tk

pub stopped_state : (trace : Trace) (n done : ℕ) (s t u : State) (why : Cause)
    → Reaches trace done s t → done < n → (Halt why ≡ step_of trace t) × (u ≡ t)
    → (u ≡ after trace n s) × (ends.Stop why ≡ end_of trace n s)
stopped_state trace n done s t u why l d e = (e.1 ∙ after_stop trace done n s t why l (omega arith) e.0, end_stop trace done n s t why l d e.0)

-- a run of no steps
pub none_state : (trace : Trace) (n : ℕ) (s : State) → n ≡ 0 → (s ≡ after trace n s) × (ends.Limit ≡ end_of trace n s)
none_state trace zero s e = (after_all trace 0 s s (reaches_none trace s), refl)
none_state trace (suc n) s e = absurd (omega arith)

-- the step at which a run is given up takes no memory where all steps of the run take none
pub step_takes : (trace : Trace) (n done : ℕ) (s t : State) (was now : Pages) → Reaches trace done s t → done < n → ((k : ℕ) → IsReserved was k → IsReserved now k)
    → WriteReserved trace was n s → TakesNoMemory trace now (step_of trace t)
step_takes trace n done s t was now l d kept held =
    let P : State → Type 0 = λ x. TakesNoMemory trace was (step_of trace x) in
    takes_kept trace was now (step_of trace t) kept (subst P (sym (after_all trace done s t l)) (held done d))

-- what memory a run wanted that is given up at a step
pub failed_memory : {S F : Type 0} (T held : Type 0) (takes_none : S → Type 0) (means : F → Meaning) (trace : Trace) (t : State) (now : Pages) (start before after_it : S) (f : RunFault F)
    → (held → TakesNoMemory trace now (step_of trace t)) → (takes_none start → takes_none before) → AdvanceMemory takes_none means (TakesNoMemory trace now (step_of trace t)) before after_it (advance.Failed f)
    → RunMemory {T = T} takes_none means held start after_it (Err f)
failed_memory T held takes_none means trace t now start before after_it (faults.Watch f) takes none m = λ k. m (none k)
failed_memory T held takes_none means trace t now start before after_it faults.OutOfMemory takes none m = ((λ k. m.0 (none k)), (λ k. m.1 (takes k)))
