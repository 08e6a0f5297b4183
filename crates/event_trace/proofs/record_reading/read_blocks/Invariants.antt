use Rattle.std.proofs.Common.{◌≡◌, ◌-◌}
use Rattle.event_trace.specs.Grammar.{next_block}
use Rattle.event_trace.specs.Reading.{items_at, block_at}
use Rattle.event_trace.proofs.Loop.{with_front}
use Rattle.event_trace.proofs.record_reading.read_blocks.Given as goal

abbrev pub invariant-loop : goal.invariant-loop
invariant-loop l = with_front l.items.items (items_at block_at next_block (l.count - l.counter) 0 l.rest) ≡ items_at block_at next_block l.count 0 l.bytes
