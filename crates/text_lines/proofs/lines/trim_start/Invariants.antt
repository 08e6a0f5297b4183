use Rattle.std.proofs.Common.{◌≡◌, length}
use Rattle.text_lines.specs.Lines.{trim_start}
use Rattle.text_lines.proofs.lines.trim_start.Given as goal

abbrev pub invariant-loop-rest : goal.invariant-loop-rest
invariant-loop-rest l = trim_start l.rest ≡ trim_start l.bytes

abbrev pub decreases-loop-rest : goal.decreases-loop-rest
decreases-loop-rest l = length l.rest
