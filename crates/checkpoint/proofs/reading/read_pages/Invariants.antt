use Rattle.std.proofs.Common.{◌≡◌, ◌-◌}
use Rattle.checkpoint.specs.Reading.{pages_at}
use Rattle.checkpoint.proofs.Loop.{with_front}
use Rattle.checkpoint.proofs.reading.read_pages.Given as goal

abbrev pub invariant-loop : goal.invariant-loop
invariant-loop l = with_front l.pages.items (pages_at (l.count - l.counter) l.least l.rest) ≡ pages_at l.count 0 l.bytes
