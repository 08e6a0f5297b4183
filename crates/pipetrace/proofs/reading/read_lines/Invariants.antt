use Rattle.std.proofs.Common.{◌≡◌, ◌+◌, ◌*◌, ◌≤◌, Some, length}
use Rattle.pipetrace.specs.Reading.{place, place_after}
use Rattle.pipetrace.proofs.reading.read_lines.Given as goal

-- so many lines were read, and each of them took two bytes or more
abbrev pub invariant-loop-rest : goal.invariant-loop-rest
invariant-loop-rest l = record {
  comes : place_after l.lines l.text ≡ Some (place l.events.items l.last l.rest);
  room : 2 * l.lines + length l.rest ≤ length l.text;
}

abbrev pub decreases-loop-rest : goal.decreases-loop-rest
decreases-loop-rest l = length l.rest
