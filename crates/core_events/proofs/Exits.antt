-- A step ends the program exactly where its record notes an exit.
use Rattle.std.proofs.Common.{◌≡◌, ℕ, Bool, true, false, cond, ◌∷◌, Option, Some, None, refl, sym, ap, ◌∙◌, subst}
use Rattle.std.specs.Prelude.{Result, Ok, Err, ◌&&◌, map, is_some, slice_get}
use Rattle.ecoff_load.specs.Fetch.{fetch}
use Rattle.pisa_isa.specs.declared.instr.Instr.{Instr}
use Rattle.pisa_isa.specs.Coding.{decoded}
use Rattle.pisa_step.specs.declared.cause.Cause.{Cause}
use Rattle.pisa_step.specs.declared.changes.Changes.{Changes}
use Rattle.pisa_step.specs.Effect.{effect_of}
use Rattle.event_trace.specs.declared.trace.Record.{Record}
use Rattle.event_trace.specs.declared.trace.Trace.{Trace}
use Rattle.sim_safe.specs.declared.record.CommitRecord.{CommitRecord}
use Rattle.sim_safe.specs.Call.{comparisons, mismatch, block_in_text}
use Rattle.sim_safe.specs.Record.{item_of}
use Rattle.sim_safe.specs.State.{State, range_of}
use Rattle.sim_safe.specs.Step.{Outcome, Next, Halt, step_of, step_running, step_fetched, step_decoded, step_at, is_call, called, executed, unrecorded, unrecorded_as, exit_asked, replayed_next, unless}
use Rattle.ruu_core.specs.declared.station.Station.{Station}
use Rattle.ooo_table.specs.declared.event.Mark.TheVariants as mark
use Rattle.ooo_table.specs.Row.{Row}
use Rattle.ooo_table.specs.Execution.{Execution}
use Rattle.ooo_table.specs.Path.{execution, execution_of, is_exit}
use Rattle.ooo_table.specs.Machine.{Given, setting_of}
use Rattle.ooo_table.specs.RunLaws.{recorded_by}
use Rattle.core_parts.specs.Rows.{Describes, Did}
use Rattle.core_watch.specs.Shown.{Happened, Committed, commit_of}
use Rattle.core_watch.specs.StageItemsLaws.{shown_commit}
use Rattle.core_events.specs.Exits.{exit_noted, exit_by, CommitIsOf}

abbrev Noted : Outcome → Type 0
Noted (Next did after) = after.ended ≡ exit_noted did.call
Noted (Halt why) = Unit {0}

noted_unless : (m : Option Cause) (o : Outcome) → Noted o → Noted (unless m o)
noted_unless None o h = h
noted_unless (Some why) o h = tt

noted_executed : (s : State) (i : Instr) → s.ended ≡ None → (e : Result Changes Cause) → Noted (executed s i e)
noted_executed s i h (Ok e) = h
noted_executed s i h (Err why) = tt

noted_unrecorded : (s : State) (i : Instr) (m : Option ℕ) → Noted (unrecorded_as s i m)
noted_unrecorded s i (Some code) = refl
noted_unrecorded s i None = tt

noted_replayed : (s : State) (i : Instr) (m : Option Record) → Noted (replayed_next s i m)
noted_replayed s i None = tt
noted_replayed s i (Some r) =
    noted_unless (mismatch (comparisons s r)) _ (noted_unless (block_in_text (range_of s.text) r.out_blocks) _ refl)

noted_called : (trace : Trace) (s : State) (i : Instr) → Noted (called trace s i)
noted_called trace s i = by_file trace.file
  where
    by_file : (b : Bool) → Noted (cond b (replayed_next s i (slice_get trace.records s.used)) (unrecorded s i))
    by_file true = noted_replayed s i (slice_get trace.records s.used)
    by_file false = noted_unrecorded s i (exit_asked s)

noted_at : (trace : Trace) (s : State) (i : Instr) → s.ended ≡ None → Noted (step_at trace s i)
noted_at trace s i h = by_call (is_call i.op)
  where
    by_call : (b : Bool) → Noted (cond b (called trace s i) (executed s i (effect_of s.reads i s.pc (range_of s.text))))
    by_call true = noted_called trace s i
    by_call false = noted_executed s i h (effect_of s.reads i s.pc (range_of s.text))

noted_decoded : (trace : Trace) (s : State) → s.ended ≡ None → (m : Option Instr) → Noted (step_decoded trace s m)
noted_decoded trace s h None = tt
noted_decoded trace s h (Some i) = noted_at trace s i h

noted_fetched : (trace : Trace) (s : State) → s.ended ≡ None → (m : Option (ℕ × ℕ)) → Noted (step_fetched trace s m)
noted_fetched trace s h None = tt
noted_fetched trace s h (Some words) = noted_decoded trace s h (decoded words.0 words.1)

noted_running : (trace : Trace) (s : State) (m : Option ℕ) → s.ended ≡ m → Noted (step_running trace s m)
noted_running trace s (Some code) h = tt
noted_running trace s None h = noted_fetched trace s h (fetch s.text s.pc)

noted_step : (trace : Trace) (s : State) → Noted (step_of trace s)
unfolding step_of
noted_step trace s = noted_running trace s s.ended refl

pub step_exits : (trace : Trace) (s after : State) (did : CommitRecord) → step_of trace s ≡ Next did after → after.ended ≡ exit_noted did.call
step_exits trace s after did e = subst Noted e (noted_step trace s)

-- ---- stations

code_is : (g : Given) (s : Station) (r : Row) (d : Did g s r.fetched) → (execution (setting_of g) r).after.ended ≡ exit_by s.commit
code_is g s r d = step_exits g.trace r.fetched.state (execution_of (setting_of g) r.fetched).after d.did d.step ∙ sym (ap exit_by d.is)

exit_is : (g : Given) (s : Station) (r : Row) → r.fetched.right ≡ true → (d : Did g s r.fetched) → is_exit (setting_of g) r ≡ is_some (exit_by s.commit)
exit_is g s r right d =
    ap (λ b. b && (execution (setting_of g) r).exit) right
    ∙ (ap (λ (e : Execution). e.exit) d.does ∙ ap is_some (code_is g s r d))

shown_is : (g : Given) (c n : ℕ) (s : Station) (r : Row) (d : Did g s r.fetched) (did : CommitRecord) → s.commit ≡ Some did → shown_commit g c n r ≡ commit_of c n (item_of g.trace did)
shown_is g c n s r d did e =
    ap (λ (o : Outcome). Happened (record { cycle = c; row = n; mark = mark.Committed }) ∷ map Committed (recorded_by g o)) d.step
    ∙ ap (λ x. commit_of c n (item_of g.trace x)) (same d.did did (sym d.is ∙ e))
  where
    same : (x y : CommitRecord) → Some x ≡ Some y → x ≡ y
    same x y e = cc

pub commit_is_of : (g : Given) (c : ℕ) (s : Station) (r : Row) → r.fetched.right ≡ true → Describes g s r.fetched → CommitIsOf g c s r
commit_is_of g c s r right d =
    record {
      code = code_is g s r (d.did right);
      exit = exit_is g s r right (d.did right);
      shown = λ did n e. shown_is g c n s r (d.did right) did e;
    }
