-- The loop over the cycles of a run: what holds between two of them, and what each way out of it gives.
use Rattle.std.proofs.lemmas.Bool.{cases_lt}
use Rattle.std.proofs.Common.{◌≡◌, ℕ, zero, suc, ◌+◌, ◌-◌, ◌^◌, ◌<◌, ◌≤◌, false, List, ◌++◌, Option, Some, None, refl, sym, ap, ◌∙◌, subst, arith, inl, inr, append_assoc}
use Rattle.std.specs.Prelude.{◌⊎◌, Ok, Err}
use Rattle.pisa_step.specs.declared.cause.Cause.{Cause}
use Rattle.event_trace.specs.declared.trace.Trace.{Trace}
use Rattle.sim_safe.specs.State.{state_of}
use Rattle.sim_safe.specs.Step.{Halt, step_of}
use Rattle.ooo_table.specs.declared.event.EndWord.{EndWord}
use Rattle.ooo_table.specs.declared.event.EndWord.TheVariants as told
use Rattle.ooo_table.specs.Cycle.{table}
use Rattle.ooo_table.specs.Ends.{Extent, Whole, AtCommit, AtStop, rows_at, end_in}
use Rattle.ooo_table.specs.Events.{committed_state, stop_word}
use Rattle.ooo_table.specs.Finish.{finish}
use Rattle.ooo_table.specs.Machine.{Given, setting_of}
use Rattle.ooo_table.specs.MachineLaws.{IsSound}
use Rattle.ooo_table.specs.RunLaws.{commits_among}
use Rattle.ooo_table.proofs.Run.{run_at}
use Rattle.core_parts.specs.Stands.{Stands}
use Rattle.core_watch.specs.Shown.{Shown, behind, CutWithin}
use Rattle.core_watch.specs.ShownLaws.{behind_append, cut_front, cut_back}
use Rattle.core_watch.specs.Items.{items_at}
use Rattle.core_statistics.specs.Counted.{capped}
use Rattle.core_statistics.specs.Standing.{HasStats}
use Rattle.core_ends.specs.Extents.{IsOver}
use Rattle.core_ends.proofs.Ends.{over_at_stop}
use Rattle.shown_run.specs.Run.{all_items}
use Rattle.shown_run.specs.Headline.{shown_in}
use Rattle.shown_run.proofs.Adds.{adds_items}
use Rattle.shown_run.proofs.Budgets.{Unended, below_budget}
use Rattle.watched_commit.specs.Stage.{budget}
use Rattle.sim_outorder.specs.declared.answers.Turn.TheVariants as turn
use Rattle.sim_outorder.specs.declared.answers.CoreFault.{CoreFault}
use Rattle.sim_outorder.specs.declared.answers.CoreFault.TheVariants as fault
use Rattle.sim_outorder.specs.declared.machine.Core.{Core}
use Rattle.sim_outorder.specs.Cycle.{TakesSome, StopsSo, EndsFor, cycle_items}
use Rattle.sim_outorder.specs.Running.{StandsFor, CycleOf, Cycles}
use Rattle.timed_run.specs.Timed.{HasEnded, RunOf, RunsTimed}
use Rattle.timed_run.proofs.Finishes.{ended, ends_whole, ends_at, shown_at, begins}

-- ---- the budget

-- fewer commits than the budget are counted as they are
counted : (n most : ℕ) → most ≤ 10 ^ 15 → capped n < most → n + (most - capped n) ≡ most
counted n most le lt = omega (arith, le, lt)

-- ---- between two cycles

module _ {S : Type 0} (took : S → List Shown → S → Type 0) where
  -- in a run: so many cycles are over, it has not ended, and they were shown
  pub record AlongOf (g : Given) (most : ℕ) (now : Core) (before watch : S) : Type 0 where
    pub stands : StandsFor g now
    pub unended : Unended (setting_of g) most now.cycle
    pub taken : (start : S) (h : List Shown) → took start h before → took start (behind (all_items g Whole now.cycle) h) watch

  pub record Along (trace : Trace) (most : ℕ) (old now : Core) (before watch : S) : Type 0 where
    pub begun : (now.cycle ≡ 0) ⊎ (1 ≤ most)
    pub runs : (g : Given) → IsSound g → g.trace ≡ trace → StandsFor g old → AlongOf g most now before watch

  pub along_begin : (trace : Trace) (most : ℕ) (old : Core) (before : S) → old.cycle ≡ 0 → Along trace most old old before before
  along_begin trace most old before none =
      record {
        begun = inl none;
        runs = λ g sound same stands.
            record {
              stands = stands;
              unended = λ x lt. absurd (omega (arith, lt, none));
              taken = λ start h t.
                  subst (λ n. took start (behind (all_items g Whole n) h) before) (sym none)
                  (subst (λ (l : List Shown). took start (behind l h) before) (sym (adds_items g 0).none) t);
            };
      }

module _ {S : Type 0} (F : Type 0) (took cut : S → List Shown → S → Type 0) (trace : Trace) (most : ℕ) (old now new : Core) (before watch after : S)
    (few : most ≤ 10 ^ 15) (less : now.stats.insn < most) (along : Along took trace most old now before watch) where
  abbrev left : ℕ
  left = most - now.stats.insn

  some : 1 ≤ most
  some = omega (arith, less)

  -- ---- a run in the next cycle

  module _ (g : Given) (sound : IsSound g) (same : g.trace ≡ trace) (stands : StandsFor g old) where
    a : AlongOf took g most now before watch
    a = along.runs g sound same stands

    -- the commits that may still come use up the budget
    budget_is : budget g now.cycle left ≡ most
    budget_is =
        let n : ℕ = commits_among (table (setting_of g) now.cycle).rows in
        let insn : now.stats.insn ≡ capped n = ap (λ s. s.insn) a.stands.stats in
        subst (λ k. n + (most - k) ≡ most) (sym insn) (counted n most few (subst (λ k. k < most) insn less))

    ends_so : (o : Option Extent) → end_in (setting_of g) (budget g now.cycle left) now.cycle ≡ o → end_in (setting_of g) most now.cycle ≡ o
    ends_so o e = sym (ap (λ n. end_in (setting_of g) n now.cycle) budget_is) ∙ e

    items_so : cycle_items g now.cycle left ≡ items_at g now.cycle (end_in (setting_of g) most now.cycle)
    items_so = ap (λ n. items_at g now.cycle (end_in (setting_of g) n now.cycle)) budget_is

    -- all of the cycle was shown behind what came before
    shown_all : (whole : List Shown) → whole ≡ all_items g Whole now.cycle ++ items_at g now.cycle (end_in (setting_of g) most now.cycle)
        → ((start : S) (h : List Shown) → took start h watch → took start (behind (cycle_items g now.cycle left) h) after)
        → (start : S) (h : List Shown) → took start h before → took start (behind whole h) after
    shown_all whole e shown start h t =
        subst (λ (l : List Shown). took start (behind l h) after) (sym e)
        (subst (λ (l : List Shown). took start l after) (sym (behind_append (all_items g Whole now.cycle) (items_at g now.cycle (end_in (setting_of g) most now.cycle)) h))
        (subst (λ (l : List Shown). took start (behind l (behind (all_items g Whole now.cycle) h)) after) items_so
        (shown start (behind (all_items g Whole now.cycle) h) (a.taken start h t))))

    -- it ends there
    ended_so : (cycles : ℕ) → now.cycle < cycles → (e : Extent) → end_in (setting_of g) most now.cycle ≡ Some e → (word : EndWord) → HasEnded g (ended e now.cycle) new word
        → ((start : S) (h : List Shown) → took start h watch → took start (behind (cycle_items g now.cycle left) h) after)
        → RunOf {F = F} took cut g (finish (setting_of g) most cycles) new before after (Ok word)
    ended_so cycles lt e here word has shown =
        subst (λ f. RunOf {F = F} took cut g f new before after (Ok word)) (sym (ends_at (setting_of g) most cycles now.cycle some lt a.unended e here))
        (record {
          ends = has;
          shown = shown_all (all_items g e now.cycle)
              (shown_at g most cycles now.cycle some lt a.unended e here ∙ ap (λ o. all_items g Whole now.cycle ++ items_at g now.cycle o) (sym here)) shown;
        })

    -- it was given up there
    cut_so : (cycles : ℕ) → now.cycle < cycles → (f : F)
        → ((start : S) (h : List Shown) → took start h watch → CutWithin cut start h (cycle_items g now.cycle left) after)
        → RunOf took cut g (finish (setting_of g) most cycles) new before after (Err (fault.Watch f))
    cut_so cycles lt f shown =
        let it : (more : List Shown) × (shown_in g (finish (setting_of g) most cycles) ≡ (all_items g Whole now.cycle ++ items_at g now.cycle (end_in (setting_of g) most now.cycle)) ++ more) =
        begins g most cycles now.cycle some lt a.unended in
        record {
          ends = tt;
          shown = λ start h t.
              subst (λ (l : List Shown). CutWithin cut start h l after) (sym it.1)
              (cut_front cut start (all_items g Whole now.cycle ++ items_at g now.cycle (end_in (setting_of g) most now.cycle)) it.0 h after
              (cut_back cut start (all_items g Whole now.cycle) (items_at g now.cycle (end_in (setting_of g) most now.cycle)) h after
              (subst (λ (l : List Shown). CutWithin cut start (behind (all_items g Whole now.cycle) h) l after) items_so
              (shown start (behind (all_items g Whole now.cycle) h) (a.taken start h t)))));
        }

    wanting_so : (cycles : ℕ) → now.cycle < cycles
        → ((start : S) (h : List Shown) → took start h watch → TakesSome {S = S} {F = F} took cut start h (cycle_items g now.cycle left) after (Err fault.OutOfMemory))
        → RunOf {F = F} took cut g (finish (setting_of g) most cycles) new before after (Err fault.OutOfMemory)
    wanting_so cycles lt shown =
        let it : (more : List Shown) × (shown_in g (finish (setting_of g) most cycles) ≡ (all_items g Whole now.cycle ++ items_at g now.cycle (end_in (setting_of g) most now.cycle)) ++ more) =
        begins g most cycles now.cycle some lt a.unended in
        record {
          ends = tt;
          shown = λ start h t.
              let (front, rest, e, taken) = shown start (behind (all_items g Whole now.cycle) h) (a.taken start h t) in (
                all_items g Whole now.cycle ++ front,
                rest ++ it.0,
                it.1
                    ∙ (ap (λ l. (all_items g Whole now.cycle ++ l) ++ it.0) (sym items_so ∙ e)
                    ∙ (ap (λ l. l ++ it.0) (sym (append_assoc (all_items g Whole now.cycle) front rest)) ∙ append_assoc (all_items g Whole now.cycle ++ front) rest it.0)),
                subst (λ (l : List Shown). took start l after) (sym (behind_append (all_items g Whole now.cycle) front h)) taken,
              );
        }

    -- the machine stops
    stopped : (why : Cause) → StopsSo g now.cycle why new.parts new.stats → HasEnded g (ended AtStop now.cycle) new (stop_word (state_of new.parts.arch) (Halt why))
    stopped why s =
        let over : IsOver g AtStop now.cycle why new.parts = over_at_stop g now.cycle why new.parts sound s.stands s.stops s.cause in
        let state : committed_state (setting_of g) (rows_at (setting_of g) AtStop now.cycle) ≡ state_of new.parts.arch =
        (run_at g AtStop now.cycle sound.config.penalty.least).state ∙ over.state (commits_among (rows_at (setting_of g) AtStop now.cycle)) (omega arith) in
        record {
          word_is = sym (ap (λ s. stop_word s (step_of g.trace s)) state ∙ ap (stop_word (state_of new.parts.arch)) s.cause);
          stands = s.stands;
          stats = s.stats;
        }

  -- ---- the ways on and out

  pub along_next : new.cycle ≡ now.cycle + 1 → Cycles {F = F} took cut trace left now new watch after (Ok turn.Going) → Along took trace most old new before after
  along_next next cycle =
      record {
        begun = inr some;
        runs = λ g sound same stands.
            let b : AlongOf took g most now before watch = a g sound same stands in
            let c : CycleOf {F = F} took cut g left now new watch after (Ok turn.Going) = cycle g sound same b.stands in
            let at : suc now.cycle ≡ new.cycle = omega (arith, next) in
            let none : end_in (setting_of g) most now.cycle ≡ None = ends_so g sound same stands None c.ends.0 in
            record {
              stands = record {
                stands = subst (λ n. Stands g n false new.parts (table (setting_of g) n)) at c.ends.1;
                stats = subst (λ n. HasStats (setting_of g) Whole n new.stats) at c.ends.2;
              };
              unended = λ x lt. by_time g none b.unended x (omega (arith, lt, next));
              taken = subst (λ n. (start : S) (h : List Shown) → took start h before → took start (behind (all_items g Whole n) h) after) at
                  (shown_all g sound same stands (all_items g Whole (suc now.cycle))
                  ((adds_items g now.cycle).whole ∙ ap (λ o. all_items g Whole now.cycle ++ items_at g now.cycle o) (sym none)) c.shown);
            };
      }
    where
      by_time : (g : Given) → end_in (setting_of g) most now.cycle ≡ None → Unended (setting_of g) most now.cycle → (x : ℕ) → x ≤ now.cycle → end_in (setting_of g) most x ≡ None
      by_time g none unended x le = by_case (cases_lt x now.cycle)
        where
          by_case : (x < now.cycle) ⊎ (now.cycle ≤ x) → end_in (setting_of g) most x ≡ None
          by_case (inl lt) = unended x lt
          by_case (inr ge) = let at : x ≡ now.cycle = omega (arith, le, ge) in ap (end_in (setting_of g) most) at ∙ none

  pub runs_spent : (cycles : ℕ) → now.cycle < cycles → Cycles {F = F} took cut trace left now new watch after (Ok turn.Spent)
      → RunsTimed {F = F} took cut trace most cycles old new before after (Ok told.Budget)
  runs_spent cycles lt cycle g sound same stands =
      let c : CycleOf {F = F} took cut g left now new watch after (Ok turn.Spent) = cycle g sound same (a g sound same stands).stands in
      let (row, ends, word) = c.ends in
      ended_so g sound same stands cycles lt (AtCommit row) (ends_so g sound same stands (Some (AtCommit row)) ends.ends) told.Budget
      (record { word_is = sym word; stands = ends.stands; stats = ends.stats }) c.shown

  pub runs_ended : (cycles : ℕ) (why : Cause) → now.cycle < cycles → Cycles {F = F} took cut trace left now new watch after (Ok (turn.Ended why))
      → RunsTimed {F = F} took cut trace most cycles old new before after (Ok (stop_word (state_of new.parts.arch) (Halt why)))
  runs_ended cycles why lt cycle g sound same stands = by_end c.ends
    where
      c : CycleOf {F = F} took cut g left now new watch after (Ok (turn.Ended why))
      c = cycle g sound same (a g sound same stands).stands

      by_end : EndsFor g now.cycle left why new.parts new.stats → RunOf {F = F} took cut g (finish (setting_of g) most cycles) new before after (Ok (stop_word (state_of new.parts.arch) (Halt why)))
      by_end (inl (row, code, ends, word, is)) =
          ended_so g sound same stands cycles lt (AtCommit row) (ends_so g sound same stands (Some (AtCommit row)) ends.ends) (stop_word (state_of new.parts.arch) (Halt why))
          (record { word_is = ap (λ w. stop_word (state_of new.parts.arch) (Halt w)) is ∙ sym word; stands = ends.stands; stats = ends.stats }) c.shown
      by_end (inr (ends, s)) =
          ended_so g sound same stands cycles lt AtStop (ends_so g sound same stands (Some AtStop) ends) (stop_word (state_of new.parts.arch) (Halt why))
          (stopped g sound same stands why s) c.shown

  pub runs_fault : (cycles : ℕ) (x : CoreFault F) → now.cycle < cycles → Cycles {F = F} took cut trace left now new watch after (Err x)
      → RunsTimed {F = F} took cut trace most cycles old new before after (Err x)
  runs_fault cycles (fault.Watch f) lt cycle g sound same stands =
      cut_so g sound same stands cycles lt f (cycle g sound same (a g sound same stands).stands).shown
  runs_fault cycles fault.OutOfMemory lt cycle g sound same stands =
      wanting_so g sound same stands cycles lt (cycle g sound same (a g sound same stands).stands).shown

-- ---- a budget that is used up between two cycles

module _ {S : Type 0} (F : Type 0) (took cut : S → List Shown → S → Type 0) (trace : Trace) (most cycles : ℕ) (old now : Core) (before watch : S)
    (along : Along took trace most old now before watch) where
  behind_whole : (g : Given) → IsSound g → g.trace ≡ trace → StandsFor g old → finish (setting_of g) most cycles ≡ ended Whole now.cycle
      → RunOf {F = F} took cut g (finish (setting_of g) most cycles) now before watch (Ok told.Budget)
  behind_whole g sound same stands e =
      let a : AlongOf took g most now before watch = along.runs g sound same stands in
      subst (λ f. RunOf {F = F} took cut g f now before watch (Ok told.Budget)) (sym e)
      (record { ends = record { word_is = refl; stands = a.stands.stands; stats = a.stands.stats }; shown = a.taken })

  no_commits : (g : Given) (m : ℕ) → m ≡ 0 → finish (setting_of g) m cycles ≡ ended Whole 0
  no_commits g zero e = refl
  no_commits g (suc m) e = absurd (omega (arith, e))

  no_cycles : (g : Given) (m : ℕ) → finish (setting_of g) m 0 ≡ ended Whole 0
  no_cycles g zero = refl
  no_cycles g (suc m) = ends_whole (setting_of g) (suc m) 0 (omega arith) (λ x lt. absurd (omega (arith, lt)))

  -- of commits
  pub runs_used : most ≤ 10 ^ 15 → most ≤ now.stats.insn → RunsTimed {F = F} took cut trace most cycles old now before watch (Ok told.Budget)
  runs_used few le g sound same stands = behind_whole g sound same stands (by_begun along.begun)
    where
      a : AlongOf took g most now before watch
      a = along.runs g sound same stands

      insn : now.stats.insn ≡ capped (commits_among (table (setting_of g) now.cycle).rows)
      insn = ap (λ s. s.insn) a.stands.stats

      none_yet : (c : ℕ) → c ≡ 0 → commits_among (table (setting_of g) c).rows ≡ 0
      none_yet zero e = refl
      none_yet (suc c) e = absurd (omega (arith, e))

      by_begun : (now.cycle ≡ 0) ⊎ (1 ≤ most) → finish (setting_of g) most cycles ≡ ended Whole now.cycle
      by_begun (inl first) =
          no_commits g most (omega (arith, le, insn, none_yet now.cycle first)) ∙ ap (λ n. ended Whole n) (sym first)
      by_begun (inr some) = absurd (omega (arith, le, insn, below_budget (setting_of g) most now.cycle some a.unended))

  -- of cycles
  pub runs_over : now.cycle ≡ cycles → RunsTimed {F = F} took cut trace most cycles old now before watch (Ok told.Budget)
  runs_over at g sound same stands = behind_whole g sound same stands (by_begun along.begun)
    where
      a : AlongOf took g most now before watch
      a = along.runs g sound same stands

      by_begun : (now.cycle ≡ 0) ⊎ (1 ≤ most) → finish (setting_of g) most cycles ≡ ended Whole now.cycle
      by_begun (inl first) = ap (finish (setting_of g) most) (sym at ∙ first) ∙ (no_cycles g most ∙ ap (λ n. ended Whole n) (sym first))
      by_begun (inr some) = subst (λ n. finish (setting_of g) most n ≡ ended Whole now.cycle) at (ends_whole (setting_of g) most now.cycle some a.unended)
