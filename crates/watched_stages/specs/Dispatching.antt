-- What the dispatch stage of a cycle owes under a watch.
use Rattle.std.specs.Prelude.{◌≡◌, ◌≢◌, ℕ, Bool, true, false, List, ◌++◌}
use Rattle.event_trace.specs.declared.trace.Trace.{Trace}
use Rattle.sim_safe.specs.declared.observer.Meaning.{Meaning}
use Rattle.sim_safe.specs.declared.observer.Meaning.TheVariants as meaning
use Rattle.sim_safe.specs.Observed.{Faulted}
use Rattle.sim_safe.specs.State.{Storage, state_of}
use Rattle.sim_safe.specs.Step.{Halt, TakesNoMemory, step_of}
use Rattle.ooo_table.specs.declared.event.Event.{Event}
use Rattle.ooo_table.specs.Row.{is_at}
use Rattle.ooo_table.specs.Cycle.{after_issue, after_dispatch}
use Rattle.ooo_table.specs.Later.{Each}
use Rattle.ooo_table.specs.Machine.{Given, setting_of}
use Rattle.ooo_table.specs.MachineLaws.{IsSound}
use Rattle.core_parts.specs.declared.parts.Parts.{Parts}
use Rattle.core_parts.specs.Stands.{Stands}
use Rattle.core_parts.specs.Stages.{DispatchIsOver}
use Rattle.core_watch.specs.Shown.{Shown, behind, CutWithin, events}
use Rattle.core_watch.specs.StageItems.{dispatched_events}
use Rattle.core_statistics.specs.declared.stats.CoreStats.{CoreStats}
use Rattle.core_statistics.specs.Standing.{DispatchesCounted}
use Rattle.watched_stages.specs.declared.dispatching.DispatchEnd.{DispatchEnd}
use Rattle.watched_stages.specs.declared.dispatching.DispatchEnd.TheVariants as ending

-- the events of the stage
abbrev pub dispatches_of : Given → ℕ → List Event
dispatches_of g c = dispatched_events g c (after_dispatch (setting_of g) c).rows

-- all that right rows which are dispatched in cycle c write lies in pages that this state has reserved
abbrev pub HasMemory : Given → ℕ → Storage → Type 0
HasMemory g c m =
    Each (λ _ r. is_at c r.dispatched ≡ true → r.fetched.right ≡ true → TakesNoMemory g.trace m.pages (step_of g.trace r.fetched.state)) (after_dispatch (setting_of g) c).rows

module _ {S : Type 0} (took : S → List Shown → S → Type 0) where
  -- the stage is over, in which the machine stops or doesn't, its dispatches are counted, and the watch has taken them
  pub record DispatchShown (g : Given) (c : ℕ) (stopped : Bool) (new : Parts) (counted counts : CoreStats) (before now : S) : Type 0 where
    pub over : DispatchIsOver g c stopped new
    pub stats : DispatchesCounted g c counted counts
    pub shown : (start : S) (h : List Shown) → took start h before → took start (behind (events (dispatches_of g c)) h) now

  -- the watch has taken the first of these events, and no other was shown
  abbrev pub TakesFront : List Event → S → S → Type 0
  TakesFront es before now =
      (start : S) (h : List Shown) → took start h before → (front : List Event) × (more : List Event) × (es ≡ front ++ more) × took start (behind (events front) h) now

module _ {S F : Type 0} (took cut : S → List Shown → S → Type 0) where
  -- Nothing is said of the counts of a stage that was cut short. Memory is wanted only where a right row of the stage writes to
  -- a page that wasn't reserved before it.
  abbrev pub DispatchEnds : Given → ℕ → Storage → Parts → CoreStats → CoreStats → S → S → DispatchEnd F → Type 0
  DispatchEnds g c m new counted counts before now ending.Over = DispatchShown took g c false new counted counts before now
  DispatchEnds g c m new counted counts before now (ending.Stops why) =
      DispatchShown took g c true new counted counts before now × (step_of g.trace (state_of new.arch) ≡ Halt why)
  DispatchEnds g c m new counted counts before now ending.OutOfMemory = TakesFront took (dispatches_of g c) before now × (HasMemory g c m → ⊥)
  DispatchEnds g c m new counted counts before now (ending.Watch f) = (start : S) (h : List Shown) → took start h before → CutWithin cut start h (events (dispatches_of g c)) now

  -- dispatch, over the trace of the run: shown are the dispatches
  abbrev pub WatchedDispatch : Trace → ℕ → Parts → Parts → CoreStats → CoreStats → S → S → DispatchEnd F → Type 0
  WatchedDispatch trace c old new counted counts before now answer =
      (g : Given) → IsSound g → g.trace ≡ trace → Stands g c true old (after_issue (setting_of g) c) → DispatchEnds g c old.arch new counted counts before now answer

-- ---- the watch

-- the counts of its faults after the stage
abbrev pub DispatchCounts : {F : Type 0} → (F → Meaning) → ℕ × ℕ → ℕ × ℕ → DispatchEnd F → Type 0
DispatchCounts means before now ending.Over = now ≡ before
DispatchCounts means before now (ending.Stops why) = now ≡ before
DispatchCounts means before now ending.OutOfMemory = now ≡ before
DispatchCounts means before now (ending.Watch f) = Faulted (means f) before now

-- one that takes no memory takes none from then on, and a fault of it doesn't mean memory
abbrev pub DispatchMemory : {S F : Type 0} → (S → Type 0) → (F → Meaning) → S → DispatchEnd F → Type 0
DispatchMemory takes_none means now ending.Over = takes_none now
DispatchMemory takes_none means now (ending.Stops why) = takes_none now
DispatchMemory takes_none means now ending.OutOfMemory = takes_none now
DispatchMemory takes_none means now (ending.Watch f) = takes_none now × (means f ≢ meaning.Memory)
