use Rattle.std.proofs.Common.{◌≡◌, Some}
use Rattle.pisa_isa.specs.Coding.{decoded}
use Rattle.sim_safe.proofs.Decoding.{coded_formed}
use Rattle.sim_safe.proofs.arch.Arch.fetch.Goals as goal

pub returns-in-Some-Some-clause-formed : goal.returns-in-Some-Some-clause-formed
returns-in-Some-Some-clause-formed c =
    let h = c.in-Some-Some.ensures in
    let e : Some c.in-Some-Some.instr ≡ decoded h.0.0 h.0.1 = cc in
    coded_formed h.0 c.in-Some-Some.instr e
