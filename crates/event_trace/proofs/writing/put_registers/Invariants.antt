use Rattle.std.proofs.Common.{◌≡◌, ◌++◌, take}
use Rattle.std.specs.List.{flat_map}
use Rattle.event_trace.specs.Grammar.{register_bytes}
use Rattle.event_trace.proofs.writing.put_registers.Given as goal

abbrev pub invariant-loop-item : goal.invariant-loop-item
invariant-loop-item l = l.into.items ≡ l.fn.into.items ++ flat_map register_bytes (take l.item-index l.items)
