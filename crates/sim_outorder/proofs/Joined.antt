-- A cycle is its stages, one after another.
use Rattle.std.proofs.Common.{◌≡◌, ℕ, suc, ◌+◌, Bool, true, false, cond, List, [], ◌∷◌, ◌++◌, Option, Some, None, refl, sym, ap, ◌∙◌, subst, arith, inl, inr}
use Rattle.std.specs.Prelude.{◌⊎◌, Result, Ok, Err, map, if◌then◌else◌, count_by}
use Rattle.std.proofs.lemmas.List.{append_assoc, append-nil, map-append}
use Rattle.pisa_step.specs.declared.cause.Cause.{Cause}
use Rattle.pisa_step.specs.declared.cause.Cause.TheVariants as cause
use Rattle.event_trace.specs.declared.trace.Trace.{Trace}
use Rattle.sim_safe.specs.State.{Storage}
use Rattle.sim_safe.specs.declared.observer.Meaning.{Meaning}
use Rattle.ooo_table.specs.declared.event.Event.{Event}
use Rattle.ooo_table.specs.declared.event.EndWord.TheVariants as told
use Rattle.ooo_table.specs.Row.{Row}
use Rattle.ooo_table.specs.Cycle.{table, after_commit, after_recover, after_issue, after_dispatch}
use Rattle.ooo_table.specs.Ends.{Extent, Whole, AtCommit, AtStop, rows_at, stops_in, end_in, last_commit, or_stop}
use Rattle.ooo_table.specs.Events.{end_word}
use Rattle.ooo_table.specs.Machine.{Given, setting_of}
use Rattle.ooo_table.specs.MachineLaws.{IsSound}
use Rattle.core_parts.specs.declared.parts.Parts.{Parts}
use Rattle.core_parts.specs.Stands.{Stands}
use Rattle.core_parts.specs.Stages.{DispatchIsOver}
use Rattle.core_watch.specs.Shown.{Shown, Happened, behind, CutWithin, TakesAll, events}
use Rattle.core_watch.specs.ShownLaws.{behind_append, cut_front, cut_back}
use Rattle.core_watch.specs.Items.{items_in, items_at}
use Rattle.core_watch.specs.StageItems.{commit_items, staged_items, written_events, squashed_events, issued_events, dispatched_events, fetched_events}
use Rattle.core_watch.specs.StageItemsLaws.{ShownByStage}
use Rattle.core_watch.proofs.Ends.{by_stage, shown_at_commit}
use Rattle.core_statistics.specs.declared.stats.CoreStats.{CoreStats}
use Rattle.core_statistics.specs.Counted.{with_cycle}
use Rattle.core_statistics.proofs.Standing.{counts_stand}
use Rattle.watched_commit.specs.declared.stage.Committed.{Committed}
use Rattle.watched_commit.specs.declared.stage.Committed.TheVariants as stage
use Rattle.watched_commit.specs.Stage.{budget, last_row, rows_behind, stage_items, CommitsRows, IsWhole, EndsWith, Watched}
use Rattle.watched_stages.specs.Watched.{Shows, StageShown, WatchedRecovery, WatchedIssue, WatchedFetch}
use Rattle.watched_stages.specs.declared.dispatching.DispatchEnd.{DispatchEnd}
use Rattle.watched_stages.specs.declared.dispatching.DispatchEnd.TheVariants as ending
use Rattle.watched_stages.specs.Dispatching.{dispatches_of, DispatchShown, TakesFront, WatchedDispatch}
use Rattle.sim_outorder.specs.declared.answers.Turn.{Turn}
use Rattle.sim_outorder.specs.declared.answers.Turn.TheVariants as turn
use Rattle.sim_outorder.specs.declared.answers.CoreFault.{CoreFault}
use Rattle.sim_outorder.specs.declared.answers.CoreFault.TheVariants as fault
use Rattle.sim_outorder.specs.Cycle.{TakesSome, GoesOn, StopsSo, EndsBehind, MemoryOf, fetched_items, dispatch_items, issue_items, recovery_items, Runs, FromFetch, FromDispatch, FromIssue, FromRecovery, CommitEnds, EndsFor, EndsSo, cycle_items, CycleRuns, CycleSo}

pub no_fetches : (b : Bool) (xs : List Shown) → b ≡ true → (if b then [] else xs) ≡ []
no_fetches b xs e = ap (λ x. cond {A = List Shown} x [] xs) e

pub all_fetches : (b : Bool) (xs : List Shown) → b ≡ false → (if b then [] else xs) ≡ xs
all_fetches b xs e = ap (λ x. cond {A = List Shown} x [] xs) e

abbrev recovery_events : Given → ℕ → List Event
recovery_events g c = written_events g c (after_commit (setting_of g) c).rows ++ squashed_events g c (after_recover (setting_of g) c).rows

module _ {S F : Type 0} (took cut : S → List Shown → S → Type 0) where
  -- ---- two lists that are shown one after another

  -- what a watch makes of the second, when it had taken the first
  pub some_both : (start : S) (xs ys h : List Shown) (now : S) (result : Result Turn (CoreFault F))
      → TakesSome took cut start (behind xs h) ys now result → TakesSome took cut start h (xs ++ ys) now result
  some_both start xs ys h now (Ok t) k = subst (λ (l : List Shown). took start l now) (sym (behind_append xs ys h)) k
  some_both start xs ys h now (Err (fault.Watch f)) k = cut_back cut start xs ys h now k
  some_both start xs ys h now (Err fault.OutOfMemory) k =
      let (front, more, e, t) = k in
      (xs ++ front, more, ap (λ l. xs ++ l) e ∙ sym (append_assoc xs front more), subst (λ (l : List Shown). took start l now) (sym (behind_append xs front h)) t)

  -- it was cut within the first
  pub some_cut : (start : S) (xs ys h : List Shown) (now : S) (f : F) → CutWithin cut start h xs now
      → TakesSome {S = S} {F = F} took cut start h (xs ++ ys) now (Err (fault.Watch f))
  some_cut start xs ys h now f k = cut_front cut start xs ys h now k

  -- ---- fetch

  pub fetch_on : {T : Type 0} (c : ℕ) (old new : Parts) (counted counts : CoreStats) (before now : S) (x : T)
      → WatchedFetch {S = S} {T = T} {F = F} took cut c old new counted counts before now (Ok x)
      → FromFetch {S = S} {F = F} took cut c old new counted counts before now (Ok turn.Going)
  fetch_on c old new counted counts before now x w g sound e stands stats m =
      let (k, becomes) = w g sound stands in
      record {
        memory = tt;
        ends = (e, k.stands, becomes (suc c) stats);
        shown = λ start h t. subst (λ (l : List Shown). took start (behind l h) now)
            (sym (all_fetches (stops_in (setting_of g) c (table (setting_of g) c)) (events (fetched_events g c (table (setting_of g) (suc c)).rows)) e)) (k.shown start h t);
      }

  pub fetch_cut : {T : Type 0} (c : ℕ) (old new : Parts) (counted counts : CoreStats) (before now : S) (f : F)
      → WatchedFetch {S = S} {T = T} {F = F} took cut c old new counted counts before now (Err f)
      → FromFetch {S = S} {F = F} took cut c old new counted counts before now (Err (fault.Watch f))
  fetch_cut c old new counted counts before now f w g sound e stands stats m =
      let (k, becomes) = w g sound stands in
      record {
        memory = tt;
        ends = tt;
        shown = λ start h t. subst (λ (l : List Shown). CutWithin cut start h l now)
            (sym (all_fetches (stops_in (setting_of g) c (table (setting_of g) c)) (events (fetched_events g c (table (setting_of g) (suc c)).rows)) e)) (k.shown start h t);
      }

  -- ---- dispatch

  pub dispatch_on : (trace : Trace) (c : ℕ) (old mid new : Parts) (counted half counts : CoreStats) (before between now : S) (result : Result Turn (CoreFault F))
      → WatchedDispatch {S = S} {F = F} took cut trace c old mid counted half before between ending.Over → FromFetch took cut c mid new half counts between now result
      → FromDispatch took cut trace c old new counted counts before now result
  dispatch_on trace c old mid new counted half counts before between now result w f g sound same stands stats =
      let k = w g sound same stands in
      let rest = f g sound k.over.stops k.over.stands (k.stats (suc c) stats) old.arch in
      record {
        memory = rest.memory;
        ends = rest.ends;
        shown = λ start h t. some_both start (events (dispatches_of g c)) (fetched_items g c) h now result (rest.shown start (behind (events (dispatches_of g c)) h) (k.shown start h t));
      }

  pub dispatch_stops : (trace : Trace) (c : ℕ) (old new : Parts) (counted counts : CoreStats) (before now : S) (why : Cause)
      → WatchedDispatch {S = S} {F = F} took cut trace c old new counted counts before now (ending.Stops why)
      → FromDispatch {S = S} {F = F} took cut trace c old new counted counts before now (Ok (turn.Ended why))
  dispatch_stops trace c old new counted counts before now why w g sound same stands stats =
      let k = w g sound same stands in
      let none : fetched_items g c ≡ [] =
      no_fetches (stops_in (setting_of g) c (table (setting_of g) c)) (events (fetched_events g c (table (setting_of g) (suc c)).rows)) (k.0).over.stops in
      record {
        memory = tt;
        ends = record { stops = (k.0).over.stops; stands = (k.0).over.stands; cause = k.1; stats = (k.0).stats (suc c) stats };
        shown = λ start h t.
            let all : events (dispatches_of g c) ++ fetched_items g c ≡ events (dispatches_of g c) = ap (λ l. events (dispatches_of g c) ++ l) none ∙ append-nil (events (dispatches_of g c)) in
            subst (λ (l : List Shown). took start (behind l h) now) (sym all) ((k.0).shown start h t);
      }

  pub dispatch_wants : (trace : Trace) (c : ℕ) (old new : Parts) (counted counts : CoreStats) (before now : S)
      → WatchedDispatch {S = S} {F = F} took cut trace c old new counted counts before now ending.OutOfMemory
      → FromDispatch {S = S} {F = F} took cut trace c old new counted counts before now (Err fault.OutOfMemory)
  dispatch_wants trace c old new counted counts before now w g sound same stands stats =
      let k = w g sound same stands in
      record {
        ends = tt;
        memory = k.1;
        shown = λ start h t.
            let (front, more, e, took_front) = k.0 start h t in (
              events front,
              events more ++ fetched_items g c,
              ap (λ l. l ++ fetched_items g c) (ap events e ∙ map-append Happened front more) ∙ append_assoc (events front) (events more) (fetched_items g c),
              took_front,
            );
      }

  pub dispatch_cut : (trace : Trace) (c : ℕ) (old new : Parts) (counted counts : CoreStats) (before now : S) (f : F)
      → WatchedDispatch {S = S} {F = F} took cut trace c old new counted counts before now (ending.Watch f)
      → FromDispatch {S = S} {F = F} took cut trace c old new counted counts before now (Err (fault.Watch f))
  dispatch_cut trace c old new counted counts before now f w g sound same stands stats =
      let k = w g sound same stands in
      record { ends = tt; memory = tt; shown = λ start h t. some_cut start (events (dispatches_of g c)) (fetched_items g c) h now f (k start h t) }

  -- ---- issue

  pub issue_on : {T : Type 0} (trace : Trace) (c : ℕ) (old mid new : Parts) (counted half counts : CoreStats) (before between now : S) (x : T) (result : Result Turn (CoreFault F))
      → WatchedIssue {S = S} {T = T} {F = F} took cut c old mid counted half before between (Ok x) → FromDispatch took cut trace c mid new half counts between now result
      → FromIssue took cut trace c old new counted counts before now result
  issue_on trace c old mid new counted half counts before between now x result w f g sound same stands stats =
      let (k, becomes, arch) = w g sound stands in
      let rest = f g sound same k.stands (becomes (suc c) stats) in
      let kept : MemoryOf g c old.arch result = subst (λ (a : Storage). MemoryOf g c a result) arch rest.memory in
      let es = events (issued_events g c (after_issue (setting_of g) c).rows) in
      record { ends = rest.ends; memory = kept; shown = λ start h t. some_both start es (dispatch_items g c) h now result (rest.shown start (behind es h) (k.shown start h t)) }

  pub issue_cut : {T : Type 0} (trace : Trace) (c : ℕ) (old new : Parts) (counted counts : CoreStats) (before now : S) (f : F)
      → WatchedIssue {S = S} {T = T} {F = F} took cut c old new counted counts before now (Err f)
      → FromIssue {S = S} {F = F} took cut trace c old new counted counts before now (Err (fault.Watch f))
  issue_cut trace c old new counted counts before now f w g sound same stands stats =
      let (k, becomes, arch) = w g sound stands in
      record { ends = tt; memory = tt; shown = λ start h t. some_cut start (events (issued_events g c (after_issue (setting_of g) c).rows)) (dispatch_items g c) h now f (k.shown start h t) }

  -- ---- recovery

  pub recovery_on : {T : Type 0} (trace : Trace) (c : ℕ) (old mid new : Parts) (counted half counts : CoreStats) (before between now : S) (x : T) (result : Result Turn (CoreFault F))
      → WatchedRecovery {S = S} {T = T} {F = F} took cut c old mid counted half before between (Ok x) → FromIssue took cut trace c mid new half counts between now result
      → FromRecovery took cut trace c old new counted counts before now result
  recovery_on trace c old mid new counted half counts before between now x result w f g sound same stands stats =
      let (k, becomes, arch) = w g sound stands in
      let rest = f g sound same k.stands (becomes (suc c) stats) in
      let kept : MemoryOf g c old.arch result = subst (λ (a : Storage). MemoryOf g c a result) arch rest.memory in
      record {
        ends = rest.ends;
        memory = kept;
        shown = λ start h t. some_both start (events (recovery_events g c)) (issue_items g c) h now result (rest.shown start (behind (events (recovery_events g c)) h) (k.shown start h t));
      }

  pub recovery_cut : {T : Type 0} (trace : Trace) (c : ℕ) (old new : Parts) (counted counts : CoreStats) (before now : S) (f : F)
      → WatchedRecovery {S = S} {T = T} {F = F} took cut c old new counted counts before now (Err f)
      → FromRecovery {S = S} {F = F} took cut trace c old new counted counts before now (Err (fault.Watch f))
  recovery_cut trace c old new counted counts before now f w g sound same stands stats =
      let (k, becomes, arch) = w g sound stands in
      record { ends = tt; memory = tt; shown = λ start h t. some_cut start (events (recovery_events g c)) (issue_items g c) h now f (k.shown start h t) }

-- ---- what is shown of a whole cycle

module _ (g : Given) (c most : ℕ) where
  abbrev stops : Bool
  stops = stops_in (setting_of g) c (table (setting_of g) c)

  abbrev fetches : List Shown
  fetches = events (fetched_events g c (table (setting_of g) (suc c)).rows)

  abbrev staged : List Shown → List Shown
  staged shown =
      commit_items g c (after_commit (setting_of g) c).rows
      ++ (events (written_events g c (after_commit (setting_of g) c).rows)
      ++ (events (squashed_events g c (after_recover (setting_of g) c).rows)
      ++ (events (issued_events g c (after_issue (setting_of g) c).rows)
      ++ (events (dispatched_events g c (after_dispatch (setting_of g) c).rows) ++ shown))))

  -- write-backs and squashes are shown as one list
  joined : (shown : List Shown) → staged shown
      ≡ commit_items g c (after_commit (setting_of g) c).rows
      ++ (events (written_events g c (after_commit (setting_of g) c).rows ++ squashed_events g c (after_recover (setting_of g) c).rows)
      ++ (events (issued_events g c (after_issue (setting_of g) c).rows) ++ (events (dispatched_events g c (after_dispatch (setting_of g) c).rows) ++ shown)))
  joined shown =
      let w = written_events g c (after_commit (setting_of g) c).rows in
      let s = squashed_events g c (after_recover (setting_of g) c).rows in
      let rest = events (issued_events g c (after_issue (setting_of g) c).rows) ++ (events (dispatched_events g c (after_dispatch (setting_of g) c).rows) ++ shown) in
      let e : events w ++ (events s ++ rest) ≡ events (w ++ s) ++ rest = sym (append_assoc (events w) (events s) rest) ∙ ap (λ l. l ++ rest) (sym (map-append Happened w s)) in
      ap (λ l. commit_items g c (after_commit (setting_of g) c).rows ++ l) e

  -- where no commit ends the run, the commits and between all that comes behind them
  pub whole_items : IsSound g → last_row g c most ≡ None → cycle_items g c most ≡ commit_items g c (after_commit (setting_of g) c).rows ++ recovery_items g c
  whole_items sound e =
      ap (λ m. items_at g c (or_stop stops m)) e ∙ by_stop stops refl
    where
      by_stop : (b : Bool) → stops ≡ b → items_at g c (or_stop b None) ≡ commit_items g c (after_commit (setting_of g) c).rows ++ recovery_items g c
      by_stop false f = (by_stage g c sound).whole ∙ (ap staged (sym (all_fetches stops fetches f)) ∙ joined (fetched_items g c))
      by_stop true f = (by_stage g c sound).stop ∙ (ap staged (sym (no_fetches stops fetches f)) ∙ joined (fetched_items g c))

  -- where one does, the commits up to it
  pub last_items : (row : ℕ) → last_row g c most ≡ Some row → stage_items g c most ≡ cycle_items g c most
  last_items row e =
      ap (λ m. commit_items g c (rows_behind g c m)) e
      ∙ (sym (shown_at_commit g c row) ∙ sym (ap (λ m. items_at g c (or_stop stops m)) e))

  pub first_items : last_row g c most ≡ None → stage_items g c most ≡ commit_items g c (after_commit (setting_of g) c).rows
  first_items e = ap (λ m. commit_items g c (rows_behind g c m)) e

  pub end_behind : last_row g c most ≡ None → end_in (setting_of g) (budget g c most) c ≡ or_stop stops None
  end_behind e = ap (or_stop stops) e

module _ {S F : Type 0} (took cut : S → List Shown → S → Type 0) (faults : S → ℕ × ℕ) (means : F → Meaning) (takes_none : S → Type 0) where
  pub commits_on : (trace : Trace) (c most n : ℕ) (old mid new : Parts) (counted begun half counts : CoreStats) (before between now : S) (result : Result Turn (CoreFault F))
      → begun ≡ with_cycle counted → CommitsRows {F = F} c most old mid begun half (Ok (stage.All n))
      → Watched took cut faults means takes_none trace c most old before between (Ok (stage.All n))
      → FromRecovery took cut trace c mid new half counts between now result → CycleSo took cut trace c most old new counted counts before now result
  commits_on trace c most n old mid new counted begun half counts before between now result begins rows watched from g sound same stands stats =
      let (whole, arch) = rows g sound stands in
      let rest = from g sound same whole.stands (whole.stats (suc c) (begins ∙ (counts_stand g c).begin counted stats)) in
      record {
        ends = by_result result rest.ends whole.none;
        memory = subst (λ (a : Storage). MemoryOf g c a result) arch rest.memory;
        shown = λ start h t.
            let first = subst (λ (l : List Shown). took start (behind l h) between) (first_items g c most whole.none) (watched.items start h t g sound same stands) in
            subst (λ (l : List Shown). TakesSome took cut start h l now result) (sym (whole_items g c most sound whole.none))
            (some_both took cut start (commit_items g c (after_commit (setting_of g) c).rows) (recovery_items g c) h now result
            (rest.shown start (behind (commit_items g c (after_commit (setting_of g) c).rows) h) first));
      }
    where
      by_result : (r : Result Turn (CoreFault F)) → EndsBehind g c new counts r → last_row g c most ≡ None → EndsSo g c most new counts r
      by_result (Ok turn.Going) k e = (end_behind g c most e ∙ ap (λ b. or_stop b None) k.0, k.1, k.2)
      by_result (Ok turn.Spent) k e = absurd k
      by_result (Ok (turn.Ended why)) k e = inr (end_behind g c most e ∙ ap (λ b. or_stop b None) k.stops, k)
      by_result (Err f) k e = tt

  pub commits_spent : (trace : Trace) (c most : ℕ) (old new : Parts) (counted begun counts : CoreStats) (before now : S)
      → begun ≡ with_cycle counted → CommitsRows {F = F} c most old new begun counts (Ok stage.Spent) → Watched took cut faults means takes_none trace c most old before now (Ok stage.Spent)
      → CycleSo {S = S} {F = F} took cut trace c most old new counted counts before now (Ok turn.Spent)
  commits_spent trace c most old new counted begun counts before now begins rows watched g sound same stands stats =
      let ((row, ends), arch) = rows g sound stands in
      record {
        memory = tt;
        ends = (row, record { ends = ends.ends; stands = ends.stands; stats = ends.stats (suc c) (begins ∙ (counts_stand g c).begin counted stats) }, ends.told);
        shown = λ start h t. subst (λ (l : List Shown). took start (behind l h) now) (last_items g c most row ends.last) (watched.items start h t g sound same stands);
      }

  pub commits_exit : (trace : Trace) (c most code : ℕ) (old new : Parts) (counted begun counts : CoreStats) (before now : S)
      → begun ≡ with_cycle counted → CommitsRows {F = F} c most old new begun counts (Ok (stage.Exited code)) → Watched took cut faults means takes_none trace c most old before now (Ok (stage.Exited code))
      → CycleSo {S = S} {F = F} took cut trace c most old new counted counts before now (Ok (turn.Ended (cause.Exited code)))
  commits_exit trace c most code old new counted begun counts before now begins rows watched g sound same stands stats =
      let ((row, ends), arch) = rows g sound stands in
      record {
        memory = tt;
        ends = inl (row, code, record { ends = ends.ends; stands = ends.stands; stats = ends.stats (suc c) (begins ∙ (counts_stand g c).begin counted stats) }, ends.told, refl);
        shown = λ start h t. subst (λ (l : List Shown). took start (behind l h) now) (last_items g c most row ends.last) (watched.items start h t g sound same stands);
      }

  pub commits_cut : (trace : Trace) (c most : ℕ) (old new : Parts) (counted counts : CoreStats) (before now : S) (f : F)
      → Watched took cut faults means takes_none trace c most old before now (Err f)
      → CycleSo {S = S} {F = F} took cut trace c most old new counted counts before now (Err (fault.Watch f))
  commits_cut trace c most old new counted counts before now f watched g sound same stands stats =
      record { ends = tt; memory = tt; shown = λ start h t. by_last start h (last_row g c most) refl (watched.items start h t g sound same stands) }
    where
      by_last : (start : S) (h : List Shown) (m : Option ℕ) → last_row g c most ≡ m → CutWithin cut start h (stage_items g c most) now
          → CutWithin cut start h (cycle_items g c most) now
      by_last start h None e k =
          subst (λ (l : List Shown). CutWithin cut start h l now) (sym (whole_items g c most sound e))
          (cut_front cut start (commit_items g c (after_commit (setting_of g) c).rows) (recovery_items g c) h now
          (subst (λ (l : List Shown). CutWithin cut start h l now) (first_items g c most e) k))
      by_last start h (Some row) e k = subst (λ (l : List Shown). CutWithin cut start h l now) (last_items g c most row e) k
