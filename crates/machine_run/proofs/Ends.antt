-- Where the machine stops by itself, the functional run is over too, with the same end.
use Rattle.std.specs.Prelude.{◌≡◌, ◌≢◌, ◌≤◌, ◌<◌, ◌⊎◌, ℕ, zero, suc, Bool, true, false, List, Option, Some, None, if◌then◌else◌, unwrap_or}
use Rattle.std.proofs.Common.{refl, sym, ap, ◌∙◌, subst, arith, inl, inr}
use Rattle.std.proofs.lemmas.Bool.{cases_lt}
use Rattle.pisa_step.specs.declared.cause.Cause.{Cause}
use Rattle.pisa_step.specs.declared.cause.Cause.TheVariants as cause
use Rattle.event_trace.specs.declared.trace.Trace.{Trace}
use Rattle.sim_safe.specs.declared.observer.RunEnd.TheVariants as ends
use Rattle.sim_safe.specs.State.{State}
use Rattle.sim_safe.specs.Step.{Outcome, Next, Halt, step_of}
use Rattle.sim_safe.specs.Run.{items_of, after, end_of}
use Rattle.cut_run.specs.Plan.{limited, to_skip, timed_start, ends_early, to_do}
use Rattle.ooo_table.specs.declared.event.EndWord.{EndWord}
use Rattle.ooo_table.specs.declared.event.EndWord.TheVariants as told
use Rattle.ooo_table.specs.Row.{Row}
use Rattle.ooo_table.specs.Table.{Setting}
use Rattle.ooo_table.specs.Ends.{Extent, Whole, AtCommit, AtStop, rows_at, end_in}
use Rattle.ooo_table.specs.Events.{committed_state, end_word, exit_word, stop_word}
use Rattle.ooo_table.specs.Finish.{Finish, finish, IsFirstEnd}
use Rattle.ooo_table.specs.Machine.{Given, setting_of}
use Rattle.ooo_table.specs.MachineLaws.{IsSound}
use Rattle.ooo_table.specs.RunLaws.{commits_among, IsWhole}
use Rattle.core_ends.specs.Budgets.{run_end, IsRunWith}
use Rattle.shown_run.specs.Headline.{KeepsHeadline, EndsAlike, last_rows, last_word}
use Rattle.machine_run.specs.declared.plan.MachineConfig.{MachineConfig}
use Rattle.machine_run.specs.Plan.{Asked, functionally, plainly, word_for, machine_given, machine_finish, machine_end}
use Rattle.machine_run.specs.Headline.{commits, first_steps, IsAllOf}
use Rattle.machine_run.proofs.Commits.{at_least, commits_within}

-- ---- how an end is told

-- a stop that is no budget is told again so of the state that it leaves
stop_back : (s : State) (o : Outcome) → stop_word s o ≢ told.Budget → word_for s (run_end (stop_word s o)) ≡ stop_word s o
stop_back s (Next did t) h = absurd (h refl)
stop_back s (Halt (cause.Exited code)) h = refl
stop_back s (Halt cause.BadFetch) h = refl
stop_back s (Halt cause.Illegal) h = refl
stop_back s (Halt (cause.FloatingPoint opcode)) h = refl
stop_back s (Halt (cause.Misaligned addr)) h = refl
stop_back s (Halt cause.Overflow) h = refl
stop_back s (Halt cause.DivideByZero) h = refl
stop_back s (Halt (cause.TextWrite addr)) h = refl
stop_back s (Halt cause.Break) h = refl
stop_back s (Halt (cause.TraceEnd used)) h = refl
stop_back s (Halt (cause.TraceMismatch field kept found)) h = refl

exit_back : (s : State) (x : Option ℕ) → exit_word x ≢ told.Budget → word_for s (run_end (exit_word x)) ≡ exit_word x
exit_back s None h = absurd (h refl)
exit_back s (Some code) h = refl

word_back : (g : Given) (e : Extent) (c : ℕ) → end_word g e c ≢ told.Budget → word_for (committed_state (setting_of g) (rows_at (setting_of g) e c)) (run_end (end_word g e c)) ≡ end_word g e c
word_back g Whole c h = absurd (h refl)
word_back g (AtCommit row) c h =
    exit_back (committed_state (setting_of g) (rows_at (setting_of g) (AtCommit row) c)) (committed_state (setting_of g) (rows_at (setting_of g) (AtCommit row) c)).ended h
word_back g AtStop c h =
    stop_back (committed_state (setting_of g) (rows_at (setting_of g) AtStop c)) (step_of g.trace (committed_state (setting_of g) (rows_at (setting_of g) AtStop c))) h

differ : true ≡ false → ⊥
differ e = cc

-- ---- the functional run with a budget

abbrev FirstEnds : Type 0
FirstEnds = (set : Setting) (most cycles : ℕ) → 1 ≤ most → IsFirstEnd set most cycles (finish set most cycles)

abbrev BothEnd : Type 0
BothEnd =
    (g : Given) (most c : ℕ) (e : Extent) → IsSound g → 1 ≤ most → ((x : ℕ) → x < c → end_in (setting_of g) most x ≡ None) → end_in (setting_of g) most c ≡ Some e
    → IsRunWith g most (rows_at (setting_of g) e c) (run_end (end_word g e c))

-- where the functional run is over with these commits, it is with every greater budget
from_whole : (g : Given) (rows : List Row) (why : Cause) → IsWhole g rows why → (n : ℕ) → commits_among rows < n → IsRunWith g n rows (ends.Stop why)
from_whole g rows why w n lt = record { items = w.items n (omega (arith, lt)); state = w.state n (omega (arith, lt)); ends = w.ending n lt }

-- the commits of a run that stops by itself are the functional run, with the budget of the machine or a greater one
module _ (g : Given) (most cycles : ℕ) (machine : KeepsHeadline g (finish (setting_of g) most cycles) most cycles) where
  abbrev f : Finish
  f = finish (setting_of g) most cycles

  abbrev rows : List Row
  rows = last_rows g f

  -- it ends in its last cycle
  ends_there : FirstEnds → last_word g f ≢ told.Budget → 1 ≤ most → end_in (setting_of g) most f.passed ≡ Some f.extent
  ends_there first by_itself some = by_end (first (setting_of g) most cycles some).ends
    where
      by_end : ((f.extent ≡ Whole) × (f.passed ≡ cycles)) ⊎ ((end_in (setting_of g) most f.passed ≡ Some f.extent) × (f.passed < cycles)) → end_in (setting_of g) most f.passed ≡ Some f.extent
      by_end (inl (whole, last)) = absurd (by_itself (ap (λ w. end_word g w f.passed) whole))
      by_end (inr (here, lt)) = here

  same_budget : FirstEnds → BothEnd → IsSound g → last_word g f ≢ told.Budget → 1 ≤ most → IsRunWith g most rows (run_end (last_word g f))
  same_budget first both sound by_itself some =
      both g most f.passed f.extent sound some (first (setting_of g) most cycles some).first (ends_there first by_itself some)

  -- nothing commits in a run without a budget, and it ends at that
  no_budget : (m : ℕ) → m ≡ most → last_word g f ≢ told.Budget → 1 ≤ most
  no_budget zero e by_itself = absurd (by_itself (ap (λ n. last_word g (finish (setting_of g) n cycles)) (sym e)))
  no_budget (suc m) e by_itself = omega (arith, e)

  -- with more than commits the functional run is over
  over_by : (word : EndWord) → EndsAlike g f most cycles word → word ≢ told.Budget → (n : ℕ) → commits_among rows < n → IsRunWith g n rows (run_end word)
  over_by told.Budget so h n lt = absurd (h refl)
  over_by (told.Exited code) so h n lt = from_whole g rows (cause.Exited code) so n lt
  over_by (told.Stopped pc icnt why) so h n lt = from_whole g rows why so.0 n lt

  pub same_run : FirstEnds → BothEnd → IsSound g → last_word g f ≢ told.Budget → (n : ℕ) → most ≤ n → IsRunWith g n rows (run_end (last_word g f))
  same_run first both sound by_itself n le = by_case (cases_lt most n)
    where
      by_case : (most < n) ⊎ (n ≤ most) → IsRunWith g n rows (run_end (last_word g f))
      by_case (inl lt) = over_by (last_word g f) machine.ends by_itself n (omega (arith, machine.within.0, lt))
      by_case (inr ge) =
          let e : most ≡ n = omega (arith, le, ge) in
          subst (λ k. IsRunWith g k rows (run_end (last_word g f))) e (same_budget first both sound by_itself (no_budget most refl by_itself))

-- ---- sim-safe asked the same, with this budget or a greater one

module _ (c : MachineConfig) (trace : Trace) (s : State) (asked : Asked)
    (machine : KeepsHeadline (machine_given c trace s asked) (machine_finish c trace s asked) (to_do trace s (plainly asked)) asked.cycles) where
  abbrev start : State
  start = timed_start trace s (plainly asked)

  -- the end of a run that was over in the skipped part
  abbrev early_word : EndWord
  early_word = word_for start (end_of trace (to_skip trace s (plainly asked)) s)

  abbrev late_word : EndWord
  late_word = last_word (machine_given c trace s asked) (machine_finish c trace s asked)

  -- so many steps may be done where the run was over or was not
  abbrev left_for : Bool → ℕ → ℕ
  left_for early most = if early then 0 else limited start most

  -- that many steps are the commits, and end so
  record AreAll (early : Bool) (most : ℕ) : Type 0 where
    items : items_of trace (left_for early most) start ≡ first_steps c trace s asked
    end : word_for (after trace (left_for early most) start) (if early then end_of trace (to_skip trace s (plainly asked)) s else end_of trace (left_for early most) start)
        ≡ unwrap_or (if early then Some early_word else None) late_word

  all_early : (early : Bool) (most : ℕ) → early ≡ true → commits c trace s asked ≤ left_for early most → AreAll early most
  unfolding after
  all_early true most e le = record { items = ap (λ n. items_of trace n start) (omega (arith, le)); end = refl }
  all_early false most e le = absurd (differ (sym e))

  all_late : (early : Bool) (most : ℕ) → early ≡ false → unwrap_or (if early then Some early_word else None) late_word ≢ told.Budget
      → (late_word ≢ told.Budget → IsRunWith (machine_given c trace s asked) (left_for early most) (last_rows (machine_given c trace s asked) (machine_finish c trace s asked)) (run_end late_word))
      → AreAll early most
  all_late true most e by_itself run = absurd (differ e)
  all_late false most e by_itself run =
      let so = run by_itself in
      record {
        items = so.items ∙ machine.run.items;
        end = ap (λ x. word_for x (end_of trace (limited start most) start)) so.state
            ∙ (ap (word_for (committed_state (setting_of (machine_given c trace s asked)) (last_rows (machine_given c trace s asked) (machine_finish c trace s asked)))) so.ends
            ∙ word_back (machine_given c trace s asked) (machine_finish c trace s asked).extent (machine_finish c trace s asked).passed by_itself);
      }

  pub all_of : FirstEnds → BothEnd → IsSound (machine_given c trace s asked) → (most : ℕ) → asked.most ≤ most → machine_end c trace s asked ≢ told.Budget → IsAllOf c trace s asked most
  all_of first both sound most le by_itself = by_early (ends_early trace s (plainly asked)) refl
    where
      as_all : AreAll (ends_early trace s (plainly asked)) most → IsAllOf c trace s asked most
      as_all a = record { items = a.items; end = a.end }

      by_early : (b : Bool) → ends_early trace s (plainly asked) ≡ b → IsAllOf c trace s asked most
      by_early true e = as_all (all_early (ends_early trace s (plainly asked)) most e (commits_within c trace s asked machine most le))
      by_early false e =
          as_all
          (all_late (ends_early trace s (plainly asked)) most e by_itself
          (λ late.
          same_run (machine_given c trace s asked) (to_do trace s (plainly asked)) asked.cycles machine first both sound late (to_do trace s (functionally asked most))
          (at_least c trace s asked machine most le)))
