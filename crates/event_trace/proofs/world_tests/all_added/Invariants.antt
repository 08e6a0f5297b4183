-- after k calls the next record may have k instructions before it
use Rattle.std.proofs.Common.{◌≤◌}
use Rattle.event_trace.specs.Recorder.{next_count}
use Rattle.event_trace.proofs.world_tests.all_added.Given as goal

abbrev pub invariant-loop-icnt : goal.invariant-loop-icnt
invariant-loop-icnt l = next_count 0 l.recorder.trace.records ≤ l.icnt
