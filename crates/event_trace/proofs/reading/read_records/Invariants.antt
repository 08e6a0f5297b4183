use Rattle.std.proofs.Common.{◌≡◌, ◌-◌}
use Rattle.event_trace.specs.Grammar.{next_record}
use Rattle.event_trace.specs.Reading.{items_at, record_at}
use Rattle.event_trace.proofs.Loop.{with_front}
use Rattle.event_trace.proofs.reading.read_records.Given as goal

abbrev pub invariant-loop : goal.invariant-loop
invariant-loop l = with_front l.items.items (items_at record_at next_record (l.count - l.counter) l.least l.rest) ≡ items_at record_at next_record l.count 0 l.bytes
