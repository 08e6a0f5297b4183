use Rattle.sim_safe.specs.State.{state_of}
use Rattle.sim_safe.proofs.NoMemory.{step_held, not_syscall}
use Rattle.sim_safe.proofs.arch.Arch.pass_next.Goals as goal

pub returns-else-eq-clause-memory : goal.returns-else-eq-clause-memory
returns-else-eq-clause-memory c =
    λ takes. c.pass.ensures.memory
    (step_held c.args.trace.now c.args.self.now.pages (state_of c.args.self.now) c.in-Ok.instr (not_syscall c.in-Ok.instr.op c.if-eq.ensures) (c.in-Ok.ensures.step c.args.trace.now) takes)
