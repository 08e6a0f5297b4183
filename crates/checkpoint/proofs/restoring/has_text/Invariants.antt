use Rattle.std.proofs.Common.{◌≡◌, ◌+◌, drop}
use Rattle.paged_mem.specs.Memory.{byte_of}
use Rattle.checkpoint.specs.Held.{stands}
use Rattle.checkpoint.proofs.restoring.has_text.Given as goal

abbrev pub invariant-loop-k : goal.invariant-loop-k
invariant-loop-k l = stands (byte_of l.mem) (l.text.start + l.k) (drop l.k l.text.bytes) ≡ stands (byte_of l.mem) l.text.start l.text.bytes
