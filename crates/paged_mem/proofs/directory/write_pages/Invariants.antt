use Rattle.std.proofs.Common.{length}
use Rattle.paged_mem.specs.Directory.{pages_of, IsShaped}
use Rattle.paged_mem.proofs.Writing.{Writing}
use Rattle.paged_mem.proofs.directory.write_pages.Given as goal

abbrev pub invariant-loop-rest : goal.invariant-loop-rest
invariant-loop-rest l = record {
  shaped : IsShaped l.leaves.items;
  writing : Writing (pages_of l.initial.leaves.items) (pages_of l.leaves.items) l.addr l.bytes l.at l.rest;
}

abbrev pub decreases-loop-rest : goal.decreases-loop-rest
decreases-loop-rest l = length l.rest
