use Rattle.std.proofs.Common.{◌*◌}
use Rattle.paged_mem.specs.Directory.{IsZeroBetween}
use Rattle.paged_mem.proofs.directory.next_page.Given as goal

abbrev pub invariant-loop-at : goal.invariant-loop-at
invariant-loop-at l = IsZeroBetween l.leaves l.from (1024 * l.at)
