use Rattle.sim_safe.proofs.Calls.{register_below}
use Rattle.sim_safe.proofs.arch.Arch.register_mismatch.Goals as goal

pub reg-found-requires : goal.reg-found-requires
reg-found-requires c = register_below 1 c.args.registers.now c.loop-register.register-index c.requires c.loop-register-test.true
