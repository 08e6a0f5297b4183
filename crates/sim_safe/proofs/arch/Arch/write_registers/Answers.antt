use Rattle.sim_safe.proofs.Calls.{register_below}
use Rattle.sim_safe.proofs.arch.Arch.write_registers.Goals as goal

pub set_reg-requires : goal.set_reg-requires
set_reg-requires c = register_below 1 c.args.registers.now c.loop-register.register-index c.requires c.loop-register-test.true
