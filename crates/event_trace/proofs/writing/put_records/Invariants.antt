use Rattle.std.proofs.Common.{◌≡◌, ◌++◌, take}
use Rattle.std.specs.List.{flat_map}
use Rattle.event_trace.specs.Grammar.{record_bytes}
use Rattle.event_trace.proofs.writing.put_records.Given as goal

abbrev pub invariant-loop-call : goal.invariant-loop-call
invariant-loop-call l = l.into.items ≡ l.fn.into.items ++ flat_map record_bytes (take l.call-index l.calls)
