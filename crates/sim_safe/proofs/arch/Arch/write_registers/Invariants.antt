use Rattle.std.proofs.Common.{◌≡◌, drop}
use Rattle.pisa_step.specs.Reader.{with_regs}
use Rattle.sim_safe.specs.State.{reader_of, Agrees}
use Rattle.sim_safe.proofs.arch.Arch.write_registers.Given as goal

abbrev pub invariant-loop-register : goal.invariant-loop-register
invariant-loop-register l = record {
  reads : with_regs (reader_of l.self) (drop l.register-index l.registers) ≡ with_regs (reader_of l.fn.self) l.registers;
  agrees : Agrees l.fn.self l.self;
}
