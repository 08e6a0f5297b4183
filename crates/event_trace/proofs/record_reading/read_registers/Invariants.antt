use Rattle.std.proofs.Common.{◌≡◌, ◌-◌}
use Rattle.event_trace.specs.Grammar.{next_register}
use Rattle.event_trace.specs.Reading.{items_at, register_at}
use Rattle.event_trace.proofs.Loop.{with_front}
use Rattle.event_trace.proofs.record_reading.read_registers.Given as goal

abbrev pub invariant-loop : goal.invariant-loop
invariant-loop l = with_front l.items.items (items_at register_at next_register (l.count - l.counter) l.least l.rest) ≡ items_at register_at next_register l.count 1 l.bytes
