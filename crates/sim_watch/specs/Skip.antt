-- What a run that is skipped comes to: no record of its steps is made, and what its calls emit is put out behind them.
use Rattle.std.specs.Prelude.{◌≡◌, ◌≤◌, ◌+◌, ℕ, List, length, Some, Result, Ok, Err}
use Rattle.std.specs.List.{flat_map}
use Rattle.event_trace.specs.declared.trace.Block.{Block}
use Rattle.event_trace.specs.declared.trace.Record.{Record}
use Rattle.event_trace.specs.declared.trace.Trace.{Trace}
use Rattle.journal.specs.declared.fault.Fault.{Fault}
use Rattle.journal.specs.Write.{Journal}
use Rattle.sim_safe.specs.State.{State}
use Rattle.sim_safe.specs.Commit.{blocks_by, records_between}
use Rattle.sim_safe.specs.Run.{items_of, after, end_of}
use Rattle.sim_watch.specs.declared.skipping.Skipped.{Skipped}
use Rattle.sim_watch.specs.Watch.{puts_of}

-- the blocks that a recorded call emits
abbrev pub record_blocks : Record → List Block
record_blocks r = blocks_by r.kind (Some r)

-- what recorded calls emit is put out block by block, in their order
abbrev pub records_journal : List Record → Journal
records_journal records = puts_of (flat_map record_blocks records)

-- up to n steps from a state put out what the records emit that they use
unfoldable pub skip_journal : Trace → ℕ → State → Journal
skip_journal trace n s = records_journal (records_between s.used (after trace n s).used trace.records)

-- the state after up to n steps, how many were done, and how they ended
pub record RunSkipped (trace : Trace) (n : ℕ) (s t : State) (skipped : Skipped) : Type 0 where
  pub state : t ≡ after trace n s
  pub count : skipped.done ≡ length (items_of trace n s)
  pub end : skipped.end ≡ end_of trace n s

-- a skipped run that was given up has done some of the steps
pub record SkipGivenUp (trace : Trace) (n : ℕ) (s t : State) : Type 0 where
  pub done : ℕ
  pub most : done ≤ n
  pub state : t ≡ after trace done s
  pub count : t.icnt ≡ s.icnt + done

abbrev pub SkipComes : Trace → ℕ → State → State → Result Skipped Fault → Type 0
SkipComes trace n s t (Ok skipped) = RunSkipped trace n s t skipped
SkipComes trace n s t (Err f) = SkipGivenUp trace n s t
