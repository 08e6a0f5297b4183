use Rattle.std.proofs.Common.{drop}
use Rattle.sim_safe.proofs.Starting.{IsLaying}
use Rattle.sim_safe.proofs.start.put_parts.Given as goal

abbrev pub invariant-loop-part : goal.invariant-loop-part
invariant-loop-part l = IsLaying l.fn.mem l.mem l.parts (drop l.part-index l.parts)
