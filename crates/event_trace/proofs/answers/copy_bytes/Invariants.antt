use Rattle.std.proofs.Common.{◌≡◌}
use Rattle.paged_mem.specs.Memory.{byte_of}
use Rattle.event_trace.specs.World.{bytes_from}
use Rattle.event_trace.proofs.answers.copy_bytes.Given as goal

abbrev pub invariant-loop-i : goal.invariant-loop-i
invariant-loop-i l = l.bytes.items ≡ bytes_from (byte_of l.mem) l.addr l.i
