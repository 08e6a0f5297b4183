-- What is shown of a run keeps the headline.
use Rattle.std.proofs.Common.{◌≡◌, ℕ, zero, suc, ◌+◌, ◌<◌, ◌≤◌, Bool, true, false, Option, Some, None, refl, sym, ap, subst, arith, inl, inr}
use Rattle.std.specs.Prelude.{◌⊎◌}
use Rattle.pisa_step.specs.declared.cause.Cause.{Cause}
use Rattle.pisa_step.specs.declared.cause.Cause.TheVariants as cause
use Rattle.sim_safe.specs.State.{State}
use Rattle.sim_safe.specs.Step.{Halt}
use Rattle.ooo_table.specs.Cycle.{table, after_commit}
use Rattle.ooo_table.specs.Ends.{Extent, Whole, AtCommit, AtStop, rows_at, last_commit, or_stop, stops_in, end_in}
use Rattle.ooo_table.specs.Events.{cycles_of, committed_state, exit_word, stop_word}
use Rattle.ooo_table.specs.Finish.{Finish, finish, IsFirstEnd}
use Rattle.ooo_table.specs.Machine.{Given, setting_of}
use Rattle.ooo_table.specs.MachineLaws.{IsSound, k_of}
use Rattle.ooo_table.specs.RunLaws.{commits_among, IsWhole}
use Rattle.ooo_table.proofs.AtEnds.{legal_at}
use Rattle.ooo_table.proofs.Finishes.{first_end}
use Rattle.ooo_table.proofs.Room.{places_at}
use Rattle.ooo_table.proofs.Route.{one_path}
use Rattle.ooo_table.proofs.RowFacts.{facts_table}
use Rattle.ooo_table.proofs.Run.{run_at, exit_at, stop_at}
use Rattle.shown_run.specs.Headline.{KeepsHeadline, EndsAlike, CommitsWithinK, last_word}
use Rattle.shown_run.proofs.Adds.{events_all}
use Rattle.shown_run.proofs.Records.{records_all}
use Rattle.shown_run.proofs.Budgets.{Unended, fewer, below_budget, no_more}
use Rattle.shown_run.proofs.Ends.{or_none, commit_within, commit_spent}
use Rattle.shown_run.proofs.Within.{within_k}

module _ (g : Given) (sound : IsSound g) where
  abbrev ended : Extent → ℕ → Finish
  ended e c = record { extent = e; passed = c }

  -- what holds of every run, with what is told of its end
  keeps : (most cycles c : ℕ) (e : Extent) → (commits_among (rows_at (setting_of g) e c) ≤ most) × (cycles_of e c ≤ cycles)
      → EndsAlike g (ended e c) most cycles (last_word g (ended e c)) → ((a : ℕ) → a + k_of g ≤ cycles_of e c → CommitsWithinK g (ended e c) a) → KeepsHeadline g (ended e c) most cycles
  keeps most cycles c e within ends timely =
      record {
        records = records_all g e c;
        run = run_at g e c sound.config.penalty.least;
        within = within;
        ends = ends;
        timely = timely;
        events = events_all g e c;
        legal = legal_at (setting_of g) e c sound.config.penalty.least;
        places = λ x l. places_at (setting_of g) Whole x;
        path = one_path (setting_of g) c sound.config.penalty.least;
      }

  -- a stop tells its cause
  stopped : (most cycles c : ℕ) (s : State) → s ≡ committed_state (setting_of g) (rows_at (setting_of g) AtStop c) → (why : Cause) → IsWhole g (rows_at (setting_of g) AtStop c) why
      → EndsAlike g (ended AtStop c) most cycles (stop_word s (Halt why))
  stopped most cycles c s e (cause.Exited code) w = w
  stopped most cycles c s e cause.BadFetch w = (w, ap (λ x. x.pc) e, ap (λ x. x.icnt) e)
  stopped most cycles c s e cause.Illegal w = (w, ap (λ x. x.pc) e, ap (λ x. x.icnt) e)
  stopped most cycles c s e (cause.FloatingPoint opcode) w = (w, ap (λ x. x.pc) e, ap (λ x. x.icnt) e)
  stopped most cycles c s e (cause.Misaligned addr) w = (w, ap (λ x. x.pc) e, ap (λ x. x.icnt) e)
  stopped most cycles c s e cause.Overflow w = (w, ap (λ x. x.pc) e, ap (λ x. x.icnt) e)
  stopped most cycles c s e cause.DivideByZero w = (w, ap (λ x. x.pc) e, ap (λ x. x.icnt) e)
  stopped most cycles c s e (cause.TextWrite addr) w = (w, ap (λ x. x.pc) e, ap (λ x. x.icnt) e)
  stopped most cycles c s e cause.Break w = (w, ap (λ x. x.pc) e, ap (λ x. x.icnt) e)
  stopped most cycles c s e (cause.TraceEnd used) w = (w, ap (λ x. x.pc) e, ap (λ x. x.icnt) e)
  stopped most cycles c s e (cause.TraceMismatch field kept found) w = (w, ap (λ x. x.pc) e, ap (λ x. x.icnt) e)

  at_commit : (most cycles c row : ℕ) → commits_among (table (setting_of g) c).rows < most → end_in (setting_of g) most c ≡ Some (AtCommit row)
      → EndsAlike g (ended (AtCommit row) c) most cycles (last_word g (ended (AtCommit row) c))
  at_commit most cycles c row few ends = by_code (committed_state (setting_of g) (rows_at (setting_of g) (AtCommit row) c)).ended refl
    where
      by_code : (o : Option ℕ) → (committed_state (setting_of g) (rows_at (setting_of g) (AtCommit row) c)).ended ≡ o → EndsAlike g (ended (AtCommit row) c) most cycles (exit_word o)
      by_code None e = inl (commit_spent g most c row few ends e)
      by_code (Some code) e = exit_at g (AtCommit row) c code sound.config.penalty.least e

  at_stop : (most cycles c : ℕ) → end_in (setting_of g) most c ≡ Some AtStop → EndsAlike g (ended AtStop c) most cycles (last_word g (ended AtStop c))
  at_stop most cycles c ends =
      let (why, whole, word) = stop_at g most c sound.config.penalty.least ends in
      subst (EndsAlike g (ended AtStop c) most cycles) (sym word) (stopped most cycles c (committed_state (setting_of g) (rows_at (setting_of g) AtStop c)) refl why whole)

  -- a run that has a budget of commits
  by_end : (most cycles c : ℕ) (e : Extent) → 1 ≤ most → Unended (setting_of g) most c
      → ((e ≡ Whole) × (c ≡ cycles)) ⊎ ((end_in (setting_of g) most c ≡ Some e) × (c < cycles)) → KeepsHeadline g (ended e c) most cycles
  by_end most cycles c Whole some unended (inl (e, at)) =
      keeps most cycles c Whole (omega (arith, below_budget (setting_of g) most c some unended), omega (arith, at)) (inr at) (within_k g sound most c unended Whole tt)
  by_end most cycles c Whole some unended (inr (ends, lt)) = absurd (never (stops_in (setting_of g) c (table (setting_of g) c)) (last_commit (setting_of g) most c (after_commit (setting_of g) c).rows) ends)
    where
      never : (b : Bool) (m : Option ℕ) → or_stop b m ≡ Some Whole → ⊥
      never b (Some x) h = cc
      never true None h = cc
      never false None h = cc
  by_end most cycles c (AtCommit row) some unended (inl (e, at)) = absurd cc
  by_end most cycles c (AtCommit row) some unended (inr (ends, lt)) =
      let few : commits_among (table (setting_of g) c).rows < most = below_budget (setting_of g) most c some unended in
      keeps most cycles c (AtCommit row) (commit_within g most c row few ends, omega (arith, lt)) (at_commit most cycles c row few ends)
      (within_k g sound most c unended (AtCommit row) (ends, few))
  by_end most cycles c AtStop some unended (inl (e, at)) = absurd cc
  by_end most cycles c AtStop some unended (inr (ends, lt)) =
      let none : last_commit (setting_of g) most c (after_commit (setting_of g) c).rows ≡ None =
      or_none (stops_in (setting_of g) c (table (setting_of g) c)) (last_commit (setting_of g) most c (after_commit (setting_of g) c).rows) ends in
      let few : commits_among (after_commit (setting_of g) c).rows < most =
      fewer (setting_of g) most c (table (setting_of g) c).rows (facts_table (setting_of g) c) none (below_budget (setting_of g) most c some unended) in
      keeps most cycles c AtStop (omega (arith, few, no_more (setting_of g) most c), omega (arith, lt)) (at_stop most cycles c ends)
      (within_k g sound most c unended AtStop ends)

  first : (most cycles : ℕ) (f : Finish) → 1 ≤ most → IsFirstEnd (setting_of g) most cycles f → KeepsHeadline g f most cycles
  first most cycles f some k = by_end most cycles f.passed f.extent some k.first k.ends

  pub keeps_headline : (most cycles : ℕ) → KeepsHeadline g (finish (setting_of g) most cycles) most cycles
  keeps_headline zero cycles = keeps 0 cycles 0 Whole (omega arith, omega arith) (inl refl) (λ a le. absurd (omega (arith, le)))
  keeps_headline (suc most) cycles = first (suc most) cycles (finish (setting_of g) (suc most) cycles) (omega arith) (first_end (setting_of g) (suc most) cycles (omega arith))
