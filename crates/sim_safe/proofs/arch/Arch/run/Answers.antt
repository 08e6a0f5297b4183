use Rattle.std.proofs.Common.{arith}
use Rattle.sim_safe.specs.declared.observer.RunEnd.{RunEnd}
use Rattle.sim_safe.specs.Commit.{onto}
use Rattle.sim_safe.specs.State.{state_of}
use Rattle.sim_safe.specs.Run.{items_of, WriteReserved}
use Rattle.sim_safe.proofs.Runs.{failed_memory, failed_took, failed_state, step_takes, stopped_took, stopped_state, none_state}
use Rattle.sim_safe.proofs.arch.Arch.run.Goals as goal

pub returns-then-n-eq0-clause-state : goal.returns-then-n-eq0-clause-state
returns-then-n-eq0-clause-state g c = none_state c.args.trace.now c.args.n (state_of c.args.self.now) c.if-n-eq0.true

pub returns-in-Ended-clause-took : goal.returns-in-Ended-clause-took
returns-in-Ended-clause-took g c = λ start h k.
    stopped_took g.O.Observer.took c.args.trace.now c.args.n c.loop-done.done (state_of c.args.self.now) (state_of c.loop-done.self) c.in-Ended.cause start h c.advance_with.new.o
    c.loop-done.invariant.reaches (omega arith) c.in-Ended.ensures.state.0
    (c.in-Ended.ensures.took start (onto (items_of c.args.trace.now c.loop-done.done (state_of c.args.self.now)) h) (c.loop-done.invariant.took start h k))

pub returns-in-Ended-clause-state : goal.returns-in-Ended-clause-state
returns-in-Ended-clause-state g c =
    stopped_state c.args.trace.now c.args.n c.loop-done.done (state_of c.args.self.now) (state_of c.loop-done.self) (state_of c.advance_with.new.self) c.in-Ended.cause
    c.loop-done.invariant.reaches (omega arith) c.in-Ended.ensures.state

pub returns-in-Failed-clause-took : goal.returns-in-Failed-clause-took
returns-in-Failed-clause-took g c = λ start h k.
    failed_took RunEnd g.O.Observer.took g.O.Observer.cut c.args.trace.now c.args.n c.loop-done.done (state_of c.args.self.now) (state_of c.loop-done.self) (state_of c.advance_with.new.self) start h c.advance_with.new.o c.in-Failed.fault
    c.loop-done.invariant.reaches c.loop-done.invariant.icnt c.in-Failed.ensures.state
    (c.in-Failed.ensures.took start (onto (items_of c.args.trace.now c.loop-done.done (state_of c.args.self.now)) h) (c.loop-done.invariant.took start h k))

pub returns-in-Failed-clause-state : goal.returns-in-Failed-clause-state
returns-in-Failed-clause-state g c =
    failed_state c.args.trace.now c.args.n c.loop-done.done (state_of c.args.self.now) (state_of c.loop-done.self) (state_of c.advance_with.new.self) c.in-Failed.fault
    c.loop-done.invariant.reaches c.loop-done.invariant.icnt (omega arith) c.in-Failed.ensures.state

pub returns-in-Failed-clause-memory : goal.returns-in-Failed-clause-memory
returns-in-Failed-clause-memory g c =
    let O = g.O.Observer in
    failed_memory RunEnd (WriteReserved c.args.trace.now c.args.self.now.pages c.args.n (state_of c.args.self.now)) O.takes_no_memory O.means
    c.args.trace.now (state_of c.loop-done.self) c.loop-done.self.pages c.args.o.now c.loop-done.o c.advance_with.new.o c.in-Failed.fault
    (step_takes c.args.trace.now c.args.n c.loop-done.done (state_of c.args.self.now) (state_of c.loop-done.self) c.args.self.now.pages c.loop-done.self.pages c.loop-done.invariant.reaches (omega arith) c.loop-done.invariant.pages)
    c.loop-done.invariant.memory c.in-Failed.ensures.memory
