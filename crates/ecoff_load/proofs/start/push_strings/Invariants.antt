use Rattle.std.proofs.Common.{◌≡◌, ◌++◌, map, take}
use Rattle.std.specs.Prelude.{string_bytes}
use Rattle.ecoff_load.specs.Start.{ended_strings}
use Rattle.ecoff_load.proofs.start.push_strings.Given as goal

abbrev pub invariant-loop-arg : goal.invariant-loop-arg
invariant-loop-arg l = l.bytes.items ≡ l.initial.bytes.items ++ ended_strings (map string_bytes (take l.arg-index l.args))
