use Rattle.std.proofs.Common.{◌≡◌, ap, subst, arith}
use Rattle.sim_safe.specs.State.{state_of}
use Rattle.sim_safe.proofs.Runs.{step_takes}
use Rattle.sim_safe.proofs.Steps.{Reaches, reaches_none}
use Rattle.sim_safe.proofs.Skips.{passed_reaches, all_state, all_ends, stop_state, stop_ends, given_up}
use Rattle.sim_safe.proofs.arch.Arch.skip.Goals as goal

pub loop-done-init : goal.loop-done-init
loop-done-init c = record { reaches = reaches_none c.args.trace.now (state_of c.args.self.now); icnt = omega arith; pages = λ number h. h }

pub loop-done-preserved : goal.loop-done-preserved
loop-done-preserved c =
    let step = c.in-Did.ensures.step in
    record {
      reaches = passed_reaches c.args.trace.now c.loop-done.done (state_of c.args.self.now) (state_of c.loop-done.self) (state_of c.pass_next.new.self) c.loop-done.invariant.reaches (step.0, step.1);
      icnt = omega (arith, step.2, c.loop-done.invariant.icnt);
      pages = λ number h. c.in-Did.ensures.pages number (c.loop-done.invariant.pages number h);
    }

pub returns-in-Stopped-clause-state : goal.returns-in-Stopped-clause-state
returns-in-Stopped-clause-state c =
    stop_state c.args.trace.now c.args.n c.loop-done.done (state_of c.args.self.now) (state_of c.loop-done.self) (state_of c.pass_next.new.self) _
    c.loop-done.invariant.reaches c.loop-done.invariant.icnt (omega arith) c.in-Stopped.ensures.step.0 (ap state_of c.in-Stopped.ensures.step.1)

pub returns-in-Stopped-clause-end : goal.returns-in-Stopped-clause-end
returns-in-Stopped-clause-end c =
    stop_ends c.args.trace.now c.args.n c.loop-done.done (state_of c.args.self.now) (state_of c.loop-done.self) (state_of c.pass_next.new.self) _
    c.loop-done.invariant.reaches (omega arith) c.in-Stopped.ensures.step.0 (ap state_of c.in-Stopped.ensures.step.1)

pub returns-in-OutOfMemory-clause-state : goal.returns-in-OutOfMemory-clause-state
returns-in-OutOfMemory-clause-state c =
    given_up c.args.trace.now c.args.n c.loop-done.done (state_of c.args.self.now) (state_of c.loop-done.self) (state_of c.pass_next.new.self) _
    c.loop-done.invariant.reaches c.loop-done.invariant.icnt (omega arith) c.in-OutOfMemory.ensures.step

pub returns-in-OutOfMemory-clause-memory : goal.returns-in-OutOfMemory-clause-memory
returns-in-OutOfMemory-clause-memory c =
    λ held. absurd (c.in-OutOfMemory.ensures.memory
    (step_takes c.args.trace.now c.args.n c.loop-done.done (state_of c.args.self.now) (state_of c.loop-done.self) c.args.self.now.pages c.loop-done.self.pages c.loop-done.invariant.reaches (omega arith) c.loop-done.invariant.pages held))

pub returns-clause-state : goal.returns-clause-state
returns-clause-state c =
    let all : c.loop-done.done ≡ c.args.n = omega arith in
    all_state c.args.trace.now c.args.n (state_of c.args.self.now) (state_of c.loop-done.self)
    (subst (λ k. Reaches c.args.trace.now k (state_of c.args.self.now) (state_of c.loop-done.self)) all c.loop-done.invariant.reaches) (omega (arith, c.loop-done.invariant.icnt, all))

pub returns-clause-end : goal.returns-clause-end
returns-clause-end c =
    let all : c.loop-done.done ≡ c.args.n = omega arith in
    all_ends c.args.trace.now c.args.n (state_of c.args.self.now) (state_of c.loop-done.self)
    (subst (λ k. Reaches c.args.trace.now k (state_of c.args.self.now) (state_of c.loop-done.self)) all c.loop-done.invariant.reaches)
