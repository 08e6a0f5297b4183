-- A cycle that ends as the table's leaves a state of the functional run.
use Rattle.std.proofs.Common.{◌≡◌, ℕ, suc, ◌<◌, ◌≤◌, Bool, List, Option, Some, None, refl, sym, ap, ◌∙◌, subst, arith, inl, inr}
use Rattle.std.specs.Prelude.{Result, Ok, Err}
use Rattle.pisa_step.specs.declared.cause.Cause.{Cause}
use Rattle.pisa_step.specs.declared.cause.Cause.TheVariants as cause
use Rattle.event_trace.specs.declared.trace.Trace.{Trace}
use Rattle.sim_safe.specs.declared.observer.RunEnd.{RunEnd}
use Rattle.sim_safe.specs.declared.observer.RunEnd.TheVariants as ends
use Rattle.ooo_table.specs.declared.event.EndWord.TheVariants as told
use Rattle.ooo_table.specs.Row.{sweep}
use Rattle.ooo_table.specs.Commit.{commit_row}
use Rattle.ooo_table.specs.Cycle.{table}
use Rattle.ooo_table.specs.Ends.{Extent, Whole, AtCommit, AtStop, rows_at, stops_in, end_in, last_commit, or_stop}
use Rattle.ooo_table.specs.Events.{committed_state, exit_word, end_word}
use Rattle.ooo_table.specs.Machine.{Given, setting_of}
use Rattle.ooo_table.specs.MachineLaws.{IsSound}
use Rattle.ooo_table.specs.RunLaws.{commits_among}
use Rattle.ooo_table.proofs.Run.{run_at}
use Rattle.core_parts.specs.declared.parts.Parts.{Parts}
use Rattle.core_watch.specs.Shown.{Shown}
use Rattle.core_statistics.specs.declared.stats.CoreStats.{CoreStats}
use Rattle.core_statistics.specs.Standing.{HasStats}
use Rattle.core_ends.specs.Extents.{StandsAt, IsOver}
use Rattle.core_ends.specs.Budgets.{run_end, IsRunWith}
use Rattle.core_ends.proofs.Ends.{has_state, over_at_exit, over_at_stop}
use Rattle.core_ends.proofs.Histories.{has_histories}
use Rattle.core_ends.proofs.Budgets.{with_budget, few_at_stop}
use Rattle.watched_commit.specs.Stage.{budget}
use Rattle.sim_outorder.specs.declared.answers.Turn.{Turn}
use Rattle.sim_outorder.specs.declared.answers.Turn.TheVariants as turn
use Rattle.sim_outorder.specs.declared.answers.CoreFault.{CoreFault}
use Rattle.sim_outorder.specs.declared.machine.Core.{Core}
use Rattle.sim_outorder.specs.Cycle.{EndsFor, EndsSo}
use Rattle.sim_outorder.specs.Running.{StandsFor, Cycles}
use Rattle.machine_ends.specs.Ends.{HasRun, EndsRun, Leaves, CoreHasRun, LeavesCore}

exited_with : (m : Option ℕ) (code : ℕ) → exit_word m ≡ told.Exited code → m ≡ Some code
exited_with None code e = absurd cc
exited_with (Some x) code e = let same : x ≡ code = cc in ap (λ y. Some y) same

has_run : (g : Given) (e : Extent) (c : ℕ) (new : Parts) (counts : CoreStats) → IsSound g → StandsAt g e c new → HasStats (setting_of g) e c counts → HasRun g e c new counts
has_run g e c new counts sound stands stats = record { commits = run_at g e c sound.config.penalty.least; state = has_state g e c new sound stands; histories = has_histories g e c new stands; stats = stats }

module _ (g : Given) (c most : ℕ) (sound : IsSound g) (pos : 1 ≤ most) where
  few : commits_among (table (setting_of g) c).rows < budget g c most
  few = omega (arith, pos)

  ends_run : (e : Extent) (ending : RunEnd) (new : Parts) (counts : CoreStats) → end_in (setting_of g) (budget g c most) c ≡ Some e → run_end (end_word g e c) ≡ ending → StandsAt g e c new
      → HasStats (setting_of g) e c counts → EndsRun g c most e ending new counts
  ends_run e ending new counts k word stands stats =
      record {
        ends = k;
        run = subst (IsRunWith g (budget g c most) (rows_at (setting_of g) e c)) word (with_budget g (budget g c most) c e sound few k);
        has = has_run g e c new counts sound stands stats;
      }

  -- at a stop the end is the one that the core tells
  stops_run : (why : Cause) (new : Parts) (counts : CoreStats) → end_in (setting_of g) (budget g c most) c ≡ Some AtStop → StandsAt g AtStop c new → HasStats (setting_of g) AtStop c counts
      → IsOver g AtStop c why new → EndsRun g c most AtStop (ends.Stop why) new counts
  stops_run why new counts k stands stats over =
      let run = with_budget g (budget g c most) c AtStop sound few k in
      record {
        ends = k;
        run = record { items = run.items; state = run.state; ends = over.whole.ending (budget g c most) below };
        has = has_run g AtStop c new counts sound stands stats;
      }
    where
      none : (b : Bool) (m : Option ℕ) → or_stop b m ≡ Some AtStop → m ≡ None
      none b None e = refl
      none b (Some row) e = absurd cc

      below : commits_among (rows_at (setting_of g) AtStop c) < budget g c most
      below =
          few_at_stop g (budget g c most) c few
          (none (stops_in (setting_of g) c (table (setting_of g) c)) (last_commit (setting_of g) (budget g c most) c (sweep (commit_row (setting_of g) c) (table (setting_of g) c).rows)) k)

  ended : (why : Cause) (new : Parts) (counts : CoreStats) → EndsFor g c most why new counts → (e : Extent) × EndsRun g c most e (ends.Stop why) new counts × IsOver g e c why new
  ended why new counts (inl (row, code, k, word, same)) =
      let over : IsOver g (AtCommit row) c (cause.Exited code) new =
      over_at_exit g (AtCommit row) c code new sound k.stands (exited_with (committed_state (setting_of g) (rows_at (setting_of g) (AtCommit row) c)).ended code word) in
      (AtCommit row, ends_run (AtCommit row) (ends.Stop why) new counts k.ends (ap run_end word ∙ ap ends.Stop (sym same)) k.stands k.stats, subst (λ w. IsOver g (AtCommit row) c w new) (sym same) over)
  ended why new counts (inr (k, stop)) =
      let over : IsOver g AtStop c why new = over_at_stop g c why new sound stop.stands stop.stops stop.cause in
      (AtStop, stops_run why new counts k stop.stands stop.stats over, over)

  pub leaves : {F : Type 0} (new : Parts) (counts : CoreStats) (result : Result Turn (CoreFault F)) → EndsSo g c most new counts result → Leaves g c most new counts result
  leaves new counts (Ok turn.Going) k = has_run g Whole (suc c) new counts sound k.1 k.2
  leaves new counts (Ok turn.Spent) (row, k, word) = (AtCommit row, ends_run (AtCommit row) ends.Limit new counts k.ends (ap run_end word) k.stands k.stats)
  leaves new counts (Ok (turn.Ended why)) k = ended why new counts k
  leaves new counts (Err f) k = tt

pub leaves_core : {S F : Type 0} (took cut : S → List Shown → S → Type 0) (trace : Trace) (most : ℕ) (old new : Core) (before now : S) (result : Result Turn (CoreFault F)) → 1 ≤ most
    → Cycles took cut trace most old new before now result → LeavesCore trace most old new result
leaves_core took cut trace most old new before now result pos k g sound same stands = leaves g old.cycle most sound pos new.parts new.stats result (k g sound same stands).ends

pub core_has_run : (g : Given) (core : Core) → IsSound g → StandsFor g core → CoreHasRun g core
core_has_run g core sound k = has_run g Whole core.cycle core.parts core.stats sound k.stands k.stats
