use Rattle.std.proofs.Common.{◌≡◌, drop, map}
use Rattle.sim_safe.specs.State.{reader_of}
use Rattle.sim_safe.specs.Call.{mismatch, register_compared}
use Rattle.sim_safe.proofs.arch.Arch.register_mismatch.Given as goal

abbrev pub invariant-loop-register : goal.invariant-loop-register
invariant-loop-register l =
    mismatch (map (register_compared (reader_of l.self)) (drop l.register-index l.registers)) ≡ mismatch (map (register_compared (reader_of l.self)) l.registers)
