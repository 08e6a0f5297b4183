use Rattle.std.proofs.Common.{length}
use Rattle.text_lines.proofs.tests.shown.Given as goal

abbrev pub decreases-lines : goal.decreases-lines
decreases-lines l = length l.rest
