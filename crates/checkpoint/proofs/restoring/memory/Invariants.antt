use Rattle.std.proofs.Common.{◌≡◌, take}
use Rattle.paged_mem.specs.Memory.{byte_of}
use Rattle.checkpoint.proofs.restoring.memory.Given as goal

abbrev pub invariant-loop-page : goal.invariant-loop-page
invariant-loop-page l = byte_of l.mem ≡ byte_of (take l.page-index l.pages)
