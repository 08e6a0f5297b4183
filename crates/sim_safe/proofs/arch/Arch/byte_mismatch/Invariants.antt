use Rattle.std.proofs.Common.{◌≡◌, ◌+◌, drop}
use Rattle.sim_safe.specs.State.{reader_of}
use Rattle.sim_safe.specs.Call.{mismatch, bytes_compared}
use Rattle.sim_safe.proofs.arch.Arch.byte_mismatch.Given as goal

abbrev pub invariant-loop-k : goal.invariant-loop-k
invariant-loop-k l = mismatch (bytes_compared (reader_of l.self) (l.addr + l.k) (drop l.k l.bytes)) ≡ mismatch (bytes_compared (reader_of l.self) l.addr l.bytes)
