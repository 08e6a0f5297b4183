use Rattle.sim_safe.proofs.Decoding.{AreFirst}
use Rattle.sim_safe.proofs.decoded.decoded.Given as goal

abbrev pub invariant-loop-k : goal.invariant-loop-k
invariant-loop-k l = AreFirst l.text l.k l.instrs.items
