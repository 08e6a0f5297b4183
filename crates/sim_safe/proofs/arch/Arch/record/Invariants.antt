use Rattle.std.proofs.Common.{◌≡◌, ◌+◌, ◌≤◌, ℕ, List}
use Rattle.event_trace.specs.Recorder.{next_count}
use Rattle.sim_safe.specs.State.{state_of}
use Rattle.paged_mem.specs.Memory.{IsReserved}
use Rattle.sim_safe.specs.Record.{Item}
use Rattle.sim_safe.specs.Commit.{onto}
use Rattle.sim_safe.specs.Run.{items_of}
use Rattle.sim_safe.proofs.Steps.{Reaches}
use Rattle.sim_safe.proofs.Recorders.{GoesOn}
use Rattle.sim_safe.proofs.arch.Arch.record.Given as goal

abbrev pub invariant-loop-done : goal.invariant-loop-done
invariant-loop-done g l =
    let O = g.O.Observer in
    record {
      reaches : Reaches l.recorder.trace l.done (state_of l.fn.self) (state_of l.self);
      icnt : l.self.icnt ≡ l.fn.self.icnt + l.done;
      took : (start : g.row.O.Denot) (h : List Item) → O.took start h l.fn.o → O.took start (onto (items_of l.recorder.trace l.done (state_of l.fn.self)) h) l.o;
      count : O.faults l.o ≡ O.faults l.fn.o;
      pages : (number : ℕ) → IsReserved l.fn.self.pages number → IsReserved l.self.pages number;
      memory : O.takes_no_memory l.fn.o → O.takes_no_memory l.o;
      rising : next_count 0 l.recorder.trace.records ≤ l.self.icnt;
      calls : GoesOn l.fn.recorder l.done (state_of l.fn.self) l.recorder (state_of l.self);
    }
