-- Steps of right rows on the state, and of wrong rows on copies.
use Rattle.std.proofs.Common.{◌≡◌, ℕ, ◌+◌, ◌<◌, Bool, true, false, cond, Option, Some, None, Result, Ok, Err, refl, sym, ap, ◌∙◌, subst, arith, ◌≤◌, length}
use Rattle.std.specs.Prelude.{not, is_some, slice_get, slice_index}
use Rattle.std.specs.Option.{ForSome}
use Rattle.std.proofs.lemmas.Bool.{cond_both, cond-true, cond-false}
use Rattle.pisa_isa.specs.declared.instr.Instr.{Instr}
use Rattle.pisa_isa.specs.Coding.{IsWellFormed, decoded}
use Rattle.pisa_isa.specs.CodingLaws.{decoded_well_formed}
use Rattle.pisa_step.specs.declared.cause.Cause.{Cause}
use Rattle.pisa_step.specs.declared.changes.Changes.{Changes}
use Rattle.pisa_step.specs.Effect.{effect_of}
use Rattle.ecoff_load.specs.Fetch.{fetch}
use Rattle.event_trace.specs.declared.trace.Record.{Record}
use Rattle.event_trace.specs.declared.trace.Trace.{Trace}
use Rattle.sim_safe.specs.declared.record.Stepped.{Stepped}
use Rattle.sim_safe.specs.declared.record.Stepped.TheVariants as stepped
use Rattle.sim_safe.specs.State.{State, Storage, state_of, reader_of, range_of}
use Rattle.sim_safe.specs.Call.{comparisons, mismatch, block_in_text}
use Rattle.sim_safe.specs.Step.{Outcome, Next, Halt, Steps, StepStays, outcome_of, step_of, step_running, step_fetched, step_decoded, step_at, is_call, executed, called, replayed_next, unrecorded, unrecorded_as, exit_asked, unless}
use Rattle.sim_safe.specs.Laws.{StepKeeps, KeepsOn}
use Rattle.sim_safe.proofs.Keeping.{steps_keep}
use Rattle.ooo_table.specs.Row as table
use Rattle.ooo_table.specs.Execution.{Execution, wrong_execution}
use Rattle.ooo_table.specs.Path.{execution_of}
use Rattle.ooo_table.specs.Machine.{Given, setting_of, instruction_at, done_as, executed_as, executed_at}
use Rattle.ooo_plain.specs.declared.row.Row.{Row}
use Rattle.ooo_plain.specs.Kept.{kept}
use Rattle.plain_machine.specs.declared.row.Fetched.{Fetched}
use Rattle.plain_machine.specs.Copied.{acting}
use Rattle.plain_machine.specs.Fits.{HoldsItsText, IsCopyOf, StateKeeps}
use Rattle.plain_machine.specs.Performed.{row_by, fetched_as, has_effect, IsFormed, Performs}

-- ---- the instruction of a step

abbrev IsOf : Instr → Outcome → Type 0
IsOf i (Next did t) = did.instr ≡ i
IsOf i (Halt why) = Unit {0}

abbrev FormedIn : Outcome → Type 0
FormedIn (Next did t) = IsWellFormed did.instr
FormedIn (Halt why) = Unit {0}

of_executed : (s : State) (i : Instr) (r : Result Changes Cause) → IsOf i (executed s i r)
of_executed s i (Ok e) = refl
of_executed s i (Err why) = tt

of_unless : (i : Instr) (m : Option Cause) (o : Outcome) → IsOf i o → IsOf i (unless m o)
of_unless i None o h = h
of_unless i (Some why) o h = tt

of_replayed : (s : State) (i : Instr) (m : Option Record) → IsOf i (replayed_next s i m)
of_replayed s i None = tt
of_replayed s i (Some r) = of_unless i (mismatch (comparisons s r)) _ (of_unless i (block_in_text (range_of s.text) r.out_blocks) _ refl)

of_unrecorded : (s : State) (i : Instr) (m : Option ℕ) → IsOf i (unrecorded_as s i m)
of_unrecorded s i None = tt
of_unrecorded s i (Some code) = refl

of_at : (trace : Trace) (s : State) (i : Instr) → IsOf i (step_at trace s i)
of_at trace s i =
    cond_both (is_call i.op) (called trace s i) (executed s i (effect_of s.reads i s.pc (range_of s.text))) (IsOf i)
    (λ _. cond_both trace.file (replayed_next s i (slice_get trace.records s.used)) (unrecorded s i) (IsOf i)
    (λ _. of_replayed s i (slice_get trace.records s.used)) (λ _. of_unrecorded s i (exit_asked s)))
    (λ _. of_executed s i (effect_of s.reads i s.pc (range_of s.text)))

formed_of : (i : Instr) (o : Outcome) → IsWellFormed i → IsOf i o → FormedIn o
formed_of i (Next did t) w h = subst IsWellFormed (sym h) w
formed_of i (Halt why) w h = tt

formed_decoded : (trace : Trace) (s : State) (a b : ℕ) (m : Option Instr) → decoded a b ≡ m → FormedIn (step_decoded trace s m)
formed_decoded trace s a b None e = tt
formed_decoded trace s a b (Some i) e = formed_of i (step_at trace s i) (decoded_well_formed a b i e) (of_at trace s i)

formed_fetched : (trace : Trace) (s : State) (m : Option (ℕ × ℕ)) → FormedIn (step_fetched trace s m)
formed_fetched trace s None = tt
formed_fetched trace s (Some words) = formed_decoded trace s words.0 words.1 (decoded words.0 words.1) refl

formed_running : (trace : Trace) (s : State) (m : Option ℕ) → FormedIn (step_running trace s m)
formed_running trace s None = formed_fetched trace s (fetch s.text s.pc)
formed_running trace s (Some code) = tt

formed_step : (trace : Trace) (s : State) → FormedIn (step_of trace s)
unfolding step_of
formed_step trace s = formed_running trace s s.ended

pub formed : (trace : Trace) (old new : Storage) (r : Stepped) → Steps trace old new (Ok r) → IsFormed r
formed trace old new (stepped.Did did) h = subst FormedIn (sym h.0) (formed_step trace (state_of old))
formed trace old new (stepped.Stop why) h = tt

-- ---- what a step keeps

keeps_by : (old new : Storage) (o : Outcome) → HoldsItsText old → StepKeeps (state_of old) o → (r : Stepped) → outcome_of r (state_of new) ≡ o → StepStays r old new → StateKeeps old new
keeps_by old new o h k (stepped.Did did) e stays =
    let on : KeepsOn (state_of old) (state_of new) = subst (StepKeeps (state_of old)) (sym e) k in
    record {
      text = on.text;
      holds = held on.text on.in_text;
      count = omega (arith, stays);
    }
  where
    held : new.text ≡ old.text
        → ((a : ℕ) → old.text.start ≤ a → a < old.text.start + length old.text.bytes → (state_of new).reads.bytes a ≡ (state_of old).reads.bytes a) → HoldsItsText new
    held et same = λ n lt.
        let lt' : n < length old.text.bytes = subst (λ t. n < length t.bytes) et lt in
        ap (λ t. (state_of new).reads.bytes (t.start + n)) et
        ∙ (same (old.text.start + n) (omega (arith, lt')) (omega (arith, lt')) ∙ (h n lt' ∙ ap (λ t. slice_index t.bytes n) (sym et)))
keeps_by old new o h k (stepped.Stop why) e stays =
    record { text = ap (λ m. m.text) stays; holds = subst HoldsItsText (sym stays) h; count = less stays }
  where
    less : new ≡ old → new.icnt < old.icnt + 2
    less e = let c : new.icnt ≡ old.icnt = ap (λ m. m.icnt) e in omega (arith, c)

pub keeps_step : (trace : Trace) (old new : Storage) (r : Stepped) → HoldsItsText old → Steps trace old new (Ok r) → StateKeeps old new
keeps_step trace old new r h s = keeps_by old new (step_of trace (state_of old)) h (steps_keep trace (state_of old)) r s.0 s.1

pub keeps_same : (old new : Storage) → HoldsItsText old → state_of new ≡ state_of old → StateKeeps old new
keeps_same old new h e =
    let t : new.text ≡ old.text = ap (λ s. s.text) e in
    let c : new.icnt ≡ old.icnt = ap (λ s. s.icnt) e in
    record {
      text = t;
      holds = λ n lt.
          ap (λ s. s.reads.bytes (s.text.start + n)) e ∙ (h n (subst (λ x. n < length x.bytes) t lt) ∙ ap (λ x. slice_index x.bytes n) (sym t));
      count = omega (arith, c);
    }

-- ---- right rows

executed_after : (i : Instr) (at : State) (r : Stepped) (old new : Storage) → at ≡ state_of old → StepStays r old new → (executed_as i at (outcome_of r (state_of new))).after ≡ state_of new
executed_after i at (stepped.Did did) old new e s = refl
executed_after i at (stepped.Stop why) old new e s = e ∙ ap state_of (sym s)

pub performs_right : (g : Given) (s : table.Fetched) (trace : Trace) (old new : Storage) (r : Stepped) (f : Fetched) (row : Row)
    → Steps trace old new (Ok r) → g.trace ≡ trace → s.state.text ≡ g.start.text → f ≡ fetched_as (setting_of g) s → s.right ≡ true → s.state ≡ state_of old → s.pc ≡ s.state.pc
    → ((at now : State) → f.pc ≡ at.pc → is_some new.ended ≡ is_some now.ended → row ≡ row_by f (executed_as f.instr at (outcome_of r now)))
    → Performs g s row new None
unfolding execution_of executed_at
performs_right g s trace old new r f row h et tx ef w es ep said =
    let does : execution_of (setting_of g) s ≡ executed_at g.trace s.state s.pc =
    cond-true s.right (executed_at g.trace s.state s.pc) (wrong_execution s.state (executed_at g.trace s.state s.pc)) w in
    let there : executed_at g.trace s.state s.pc ≡ executed_as (instruction_at g.start.text s.pc) s.state (step_of trace (state_of old)) =
    ap (λ pc. executed_as (instruction_at s.state.text s.pc) (record s.state { pc = pc }) (step_of g.trace (record s.state { pc = pc }))) ep
    ∙ (ap (λ t. executed_as (instruction_at t s.pc) s.state (step_of g.trace s.state)) tx
    ∙ (ap (λ t. executed_as (instruction_at g.start.text s.pc) s.state (step_of t s.state)) et
    ∙ ap (λ x. executed_as (instruction_at g.start.text s.pc) s.state (step_of trace x)) es)) in
    let is : execution_of (setting_of g) s ≡ executed_as (instruction_at g.start.text s.pc) s.state (outcome_of r (state_of new)) =
    does ∙ (there ∙ ap (λ o. executed_as (instruction_at g.start.text s.pc) s.state o) (sym h.0)) in
    record {
      row_is = said s.state (state_of new) (ap (λ x. x.pc) ef ∙ ep) refl
          ∙ (ap (λ x. row_by x (executed_as x.instr s.state (outcome_of r (state_of new)))) ef ∙ ap (λ (x : Execution). row_by (fetched_as (setting_of g) s) x) (sym is));
      after = ap (λ x. x.after) is ∙ executed_after (instruction_at g.start.text s.pc) s.state r old new es h.1;
    }

-- ---- wrong rows

-- a row keeps nothing of the state behind it
wrong_row : (f : Fetched) (on : State) (i : Instr) (at now : State) (r : Stepped) → row_by f (wrong_execution on (executed_as i at (outcome_of r now))) ≡ row_by f (executed_as i at (outcome_of r now))
wrong_row f on i at now (stepped.Stop why) = refl
wrong_row f on i at now (stepped.Did did) =
    cond_both (is_call did.instr.op) (record (done_as did now) { after = on }) (record (done_as did now) { after = record on { reads = now.reads } })
    (λ e. row_by f e ≡ row_by f (done_as did now)) (λ _. refl) (λ _. refl)

wrong_after : (on : State) (i : Instr) (at : State) (new arch : Storage) (copy kept : Option Storage) (r : Stepped) → on ≡ acting arch copy → kept ≡ cond (has_effect r) (Some new) copy
    → (wrong_execution on (executed_as i at (outcome_of r (state_of new)))).after ≡ acting arch kept
wrong_after on i at new arch copy kept (stepped.Stop why) e k = e ∙ ap (λ (o : Option Storage). acting arch o) (sym k)
wrong_after on i at new arch copy kept (stepped.Did did) e k = by_call (is_call did.instr.op) ∙ ap (λ (o : Option Storage). acting arch o) (sym k)
  where
    over : (copy : Option Storage) → record (acting arch copy) { reads = reader_of new } ≡ acting arch (Some new)
    over None = refl
    over (Some c) = refl

    by_call : (b : Bool) → (cond b (record (done_as did (state_of new)) { after = on }) (record (done_as did (state_of new)) { after = record on { reads = reader_of new } })).after
        ≡ acting arch (cond (not b) (Some new) copy)
    by_call true = e
    by_call false = ap (λ (x : State). record x { reads = reader_of new }) e ∙ over copy

pub performs_wrong : (g : Given) (s : table.Fetched) (trace : Trace) (arch mid new : Storage) (copy kept_copy : Option Storage) (r : Stepped) (f : Fetched) (row : Row)
    → state_of mid ≡ record (acting arch copy) { pc = f.pc }
    → Steps trace mid new (Ok r) → g.trace ≡ trace → s.state.text ≡ g.start.text → f ≡ fetched_as (setting_of g) s → s.right ≡ false → s.state ≡ acting arch copy
    → ((at now : State) → f.pc ≡ at.pc → is_some new.ended ≡ is_some now.ended → row ≡ row_by f (executed_as f.instr at (outcome_of r now)))
    → kept_copy ≡ cond (has_effect r) (Some new) copy
    → Performs g s row arch kept_copy
unfolding execution_of executed_at
performs_wrong g s trace arch mid new copy kept_copy r f row em h et tx ef w es said k =
    let at : State = record s.state { pc = s.pc } in
    let i : Instr = instruction_at g.start.text s.pc in
    let is_at : state_of mid ≡ at =
    em ∙ (ap (λ (x : Fetched). record (acting arch copy) { pc = x.pc }) ef ∙ ap (λ (x : State). record x { pc = s.pc }) (sym es)) in
    let does : execution_of (setting_of g) s ≡ wrong_execution s.state (executed_at g.trace s.state s.pc) =
    cond-false s.right (executed_at g.trace s.state s.pc) (wrong_execution s.state (executed_at g.trace s.state s.pc)) w in
    let there : executed_at g.trace s.state s.pc ≡ executed_as i at (outcome_of r (state_of new)) =
    ap (λ t. executed_as (instruction_at t s.pc) at (step_of g.trace at)) tx
    ∙ (ap (λ t. executed_as i at (step_of t at)) et
    ∙ (ap (λ x. executed_as i at (step_of trace x)) (sym is_at) ∙ ap (λ o. executed_as i at o) (sym h.0))) in
    let is : execution_of (setting_of g) s ≡ wrong_execution s.state (executed_as i at (outcome_of r (state_of new))) = does ∙ ap (λ e. wrong_execution s.state e) there in
    record {
      row_is = said at (state_of new) (ap (λ (x : Fetched). x.pc) ef) refl
          ∙ (ap (λ (x : Fetched). row_by x (executed_as x.instr at (outcome_of r (state_of new)))) ef
          ∙ (sym (wrong_row (fetched_as (setting_of g) s) s.state i at (state_of new) r) ∙ ap (λ (x : Execution). row_by (fetched_as (setting_of g) s) x) (sym is)));
      after = ap (λ (x : Execution). x.after) is ∙ wrong_after s.state i at new arch copy kept_copy r es k;
    }

pub copy_on : (trace : Trace) (arch mid new : Storage) (r : Stepped) → IsCopyOf arch mid → Steps trace mid new (Ok r) → IsCopyOf arch new
copy_on trace arch mid new r c h =
    let k : StateKeeps mid new = keeps_step trace mid new r c.holds h in
    record { text = k.text ∙ c.text; holds = k.holds }

pub copy_kept : (arch new : Storage) (copy kept_copy : Option Storage) (b : Bool) → kept_copy ≡ cond b (Some new) copy → ForSome copy (IsCopyOf arch) → IsCopyOf arch new → ForSome kept_copy (IsCopyOf arch)
copy_kept arch new copy kept_copy true e hc hn = λ x k.
    let same : Some new ≡ Some x = sym e ∙ k in
    let is : new ≡ x = cc in
    subst (IsCopyOf arch) is hn
copy_kept arch new copy kept_copy false e hc hn = λ x k. hc x (sym e ∙ k)
