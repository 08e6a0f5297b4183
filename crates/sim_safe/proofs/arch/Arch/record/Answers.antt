use Rattle.std.proofs.Common.{◌≡◌, ◌+◌, ◌-◌, ◌<◌, ◌∙◌, List, true, sym, ap, subst, arith}
use Rattle.event_trace.specs.declared.trace.Trace.{Trace}
use Rattle.sim_safe.specs.declared.record.CommitRecord.{CommitRecord}
use Rattle.sim_safe.specs.State.{state_of}
use Rattle.sim_safe.specs.Record.{Item}
use Rattle.sim_safe.specs.declared.recording.RecordEnd.{RecordEnd}
use Rattle.sim_safe.specs.Commit.{onto}
use Rattle.sim_safe.specs.Step.{Next, Halt, step_of, TakesNoMemory}
use Rattle.sim_safe.specs.Run.{items_of}
use Rattle.sim_safe.specs.Advance.{AdvanceMemory, AdvanceState, AdvanceTook}
use Rattle.sim_safe.specs.declared.observer.Advance.TheVariants.{Going, Failed}
use Rattle.sim_safe.specs.Recording.{recording, serve, AreRecorded}
use Rattle.sim_safe.proofs.Steps.{reaches_on, onto_on}
use Rattle.sim_safe.proofs.Runs.{failed_memory, failed_took, step_takes, stopped_took, stopped_state, none_state}
use Rattle.sim_safe.proofs.Recorded.{prepared_true, prepared_false, reaches_ready, items_ready, full_stops, full_state, recorded_failed, front_failed, front_unready, unready_memory}
use Rattle.sim_safe.proofs.Recorders.{goes_on_next, trace_left, made_none, made_all, made_over, made_full, left_unready, left_failed}
use Rattle.sim_safe.proofs.arch.Arch.record.Goals as goal

pub returns-then-n-eq0-clause-trace : goal.returns-then-n-eq0-clause-trace
returns-then-n-eq0-clause-trace g c =
    made_none c.args.n c.args.recorder.now (state_of c.args.self.now) c.if-n-eq0.true

pub returns-then-n-eq0-clause-state : goal.returns-then-n-eq0-clause-state
returns-then-n-eq0-clause-state g c = none_state c.args.recorder.now.trace c.args.n (state_of c.args.self.now) c.if-n-eq0.true

pub returns-in-Ok-false-clause-trace : goal.returns-in-Ok-false-clause-trace
returns-in-Ok-false-clause-trace g c =
    let p = prepared_false c.loop-done.recorder c.prepare.new.recorder (state_of c.loop-done.self) c.in-Ok-false.field-0 c.in-Ok-false.field-0-test c.in-Ok-false.ensures.ready in
    made_full c.args.recorder.now c.loop-done.recorder c.prepare.new.recorder c.args.n c.loop-done.done (state_of c.args.self.now) (state_of c.loop-done.self) c.loop-done-test.true c.loop-done.invariant.calls p.0 p.1

pub returns-in-Ok-false-clause-took : goal.returns-in-Ok-false-clause-took
returns-in-Ok-false-clause-took g c = λ start h k.
    let p = prepared_false c.loop-done.recorder c.prepare.new.recorder (state_of c.loop-done.self) c.in-Ok-false.field-0 c.in-Ok-false.field-0-test c.in-Ok-false.ensures.ready in
    let full = full_stops c.loop-done.recorder.world c.loop-done.recorder.trace c.loop-done.done c.args.n (state_of c.args.self.now) (state_of c.loop-done.self) p.0 c.loop-done.invariant.reaches c.loop-done-test.true in
    let P : Trace → Type 0 = λ x. g.O.Observer.took start (onto (items_of x c.args.n (state_of c.args.self.now)) h) c.loop-done.o in
    subst P (sym (ap (λ x. x.trace) p.1)) (stopped_took g.O.Observer.took c.loop-done.recorder.trace c.args.n c.loop-done.done (state_of c.args.self.now) (state_of c.loop-done.self) _ start h c.loop-done.o
    c.loop-done.invariant.reaches (omega (arith, c.loop-done-test.true)) full.1 (c.loop-done.invariant.took start h k))

pub returns-in-Ok-false-clause-state : goal.returns-in-Ok-false-clause-state
returns-in-Ok-false-clause-state g c =
    let p = prepared_false c.loop-done.recorder c.prepare.new.recorder (state_of c.loop-done.self) c.in-Ok-false.field-0 c.in-Ok-false.field-0-test c.in-Ok-false.ensures.ready in
    full_state c.loop-done.recorder.world c.loop-done.recorder.trace c.prepare.new.recorder.trace c.loop-done.done c.args.n (state_of c.args.self.now) (state_of c.loop-done.self) p.0 (ap (λ x. x.trace) p.1) c.loop-done.invariant.reaches c.loop-done-test.true

pub returns-in-Err-clause-trace : goal.returns-in-Err-clause-trace
returns-in-Err-clause-trace g c =
    let whole = recording serve c.args.n c.args.recorder.now.world c.args.recorder.now.trace (state_of c.args.self.now) in
    let left = trace_left c.args.recorder.now c.loop-done.recorder c.args.n c.loop-done.done (state_of c.args.self.now) (state_of c.loop-done.self) (omega (arith, c.loop-done-test.true)) c.loop-done.invariant.calls in (
      front_unready (c.args.n - c.loop-done.done) whole c.loop-done.recorder.world c.loop-done.recorder.trace c.prepare.new.recorder.trace
          c.args.n c.loop-done.done (state_of c.args.self.now) (state_of c.loop-done.self)
          left (ap (λ x. x.trace) c.in-Err.ensures.ready.0) c.in-Err.ensures.file c.loop-done-test.true c.loop-done.invariant.reaches c.loop-done.invariant.icnt,
      left_unready c.args.recorder.now c.loop-done.recorder c.prepare.new.recorder c.loop-done.done (state_of c.args.self.now) (state_of c.loop-done.self)
          c.loop-done.invariant.icnt c.loop-done.invariant.calls c.in-Err.ensures.ready.0,
    )

pub returns-in-Ended-clause-trace : goal.returns-in-Ended-clause-trace
returns-in-Ended-clause-trace g c =
    let r = prepared_true c.loop-done.recorder c.prepare.new.recorder (state_of c.loop-done.self) c.in-Ok-true.field-0 c.in-Ok-true.field-0-test c.in-Ok-true.ensures.ready in
    let P : Trace → Type 0 = λ x. Halt c.in-Ended.cause ≡ step_of x (state_of c.loop-done.self) in
    made_over c.args.recorder.now c.loop-done.recorder c.prepare.new.recorder c.args.n c.loop-done.done (state_of c.args.self.now) (state_of c.loop-done.self) c.in-Ended.cause
    c.loop-done-test.true c.loop-done.invariant.calls r (subst P c.trace.ensures.same c.in-Ended.ensures.state.0)

pub returns-in-Ended-clause-took : goal.returns-in-Ended-clause-took
returns-in-Ended-clause-took g c = λ start h k.
    let T : Trace = c.prepare.new.recorder.trace in
    let r = prepared_true c.loop-done.recorder c.prepare.new.recorder (state_of c.loop-done.self) c.in-Ok-true.field-0 c.in-Ok-true.field-0-test c.in-Ok-true.ensures.ready in
    let F : Trace → Type 0 = λ x. x.file ≡ true in
    let file : T.file ≡ true = subst F c.trace.ensures.same c.trace.ensures.valid.file in
    let reach = reaches_ready c.loop-done.recorder.world c.loop-done.recorder.trace (state_of c.loop-done.self) c.prepare.new.recorder.world T c.loop-done.done (state_of c.args.self.now) (state_of c.loop-done.self) file r c.loop-done.invariant.reaches in
    let same = items_ready c.loop-done.recorder.world c.loop-done.recorder.trace (state_of c.loop-done.self) c.prepare.new.recorder.world T c.loop-done.done (state_of c.args.self.now) (state_of c.loop-done.self) file r c.loop-done.invariant.reaches in
    let Q : List Item → Type 0 = λ x. g.O.Observer.took start (onto x h) c.loop-done.o in
    let P : Trace → Type 0 = λ x. Halt c.in-Ended.cause ≡ step_of x (state_of c.loop-done.self) in
    stopped_took g.O.Observer.took T c.args.n c.loop-done.done (state_of c.args.self.now) (state_of c.loop-done.self) c.in-Ended.cause start h c.advance.new.o
    reach (omega (arith, c.loop-done-test.true)) (subst P c.trace.ensures.same c.in-Ended.ensures.state.0)
    (c.in-Ended.ensures.took start (onto (items_of T c.loop-done.done (state_of c.args.self.now)) h) (subst Q same (c.loop-done.invariant.took start h k)))

pub returns-in-Ended-clause-state : goal.returns-in-Ended-clause-state
returns-in-Ended-clause-state g c =
    let T : Trace = c.prepare.new.recorder.trace in
    let r = prepared_true c.loop-done.recorder c.prepare.new.recorder (state_of c.loop-done.self) c.in-Ok-true.field-0 c.in-Ok-true.field-0-test c.in-Ok-true.ensures.ready in
    let F : Trace → Type 0 = λ x. x.file ≡ true in
    let file : T.file ≡ true = subst F c.trace.ensures.same c.trace.ensures.valid.file in
    let reach = reaches_ready c.loop-done.recorder.world c.loop-done.recorder.trace (state_of c.loop-done.self) c.prepare.new.recorder.world T c.loop-done.done (state_of c.args.self.now) (state_of c.loop-done.self) file r c.loop-done.invariant.reaches in
    let P : Trace → Type 0 = λ x. Halt c.in-Ended.cause ≡ step_of x (state_of c.loop-done.self) in
    stopped_state T c.args.n c.loop-done.done (state_of c.args.self.now) (state_of c.loop-done.self) (state_of c.advance.new.self) c.in-Ended.cause
    reach c.loop-done-test.true (subst P c.trace.ensures.same c.in-Ended.ensures.state.0, c.in-Ended.ensures.state.1)

pub returns-in-Failed-clause-trace : goal.returns-in-Failed-clause-trace
returns-in-Failed-clause-trace g c =
    let T : Trace = c.prepare.new.recorder.trace in
    let whole = recording serve c.args.n c.args.recorder.now.world c.args.recorder.now.trace (state_of c.args.self.now) in
    let r = prepared_true c.loop-done.recorder c.prepare.new.recorder (state_of c.loop-done.self) c.in-Ok-true.field-0 c.in-Ok-true.field-0-test c.in-Ok-true.ensures.ready in
    let F : Trace → Type 0 = λ x. x.file ≡ true in
    let file : T.file ≡ true = subst F c.trace.ensures.same c.trace.ensures.valid.file in
    let reach = reaches_ready c.loop-done.recorder.world c.loop-done.recorder.trace (state_of c.loop-done.self) c.prepare.new.recorder.world T c.loop-done.done (state_of c.args.self.now) (state_of c.loop-done.self) file r c.loop-done.invariant.reaches in
    let S : Trace → Type 0 = λ x. AdvanceState x (state_of c.loop-done.self) (state_of c.advance.new.self) (Failed c.in-Failed.fault) in
    let more : 0 < c.args.n - c.loop-done.done = omega (arith, c.loop-done-test.true) in
    let came = subst S c.trace.ensures.same c.in-Failed.ensures.state in
    let left = trace_left c.args.recorder.now c.loop-done.recorder c.args.n c.loop-done.done (state_of c.args.self.now) (state_of c.loop-done.self) (omega (arith, c.loop-done-test.true)) c.loop-done.invariant.calls in (
      front_failed (c.args.n - c.loop-done.done) whole c.loop-done.recorder.world c.loop-done.recorder.trace c.prepare.new.recorder.world T
          c.args.n c.loop-done.done (state_of c.args.self.now) (state_of c.loop-done.self) (state_of c.advance.new.self) c.in-Failed.fault
          left r file more c.loop-done-test.true reach c.loop-done.invariant.icnt came,
      left_failed c.args.recorder.now c.loop-done.recorder c.prepare.new.recorder c.loop-done.done (state_of c.args.self.now) (state_of c.loop-done.self) (state_of c.advance.new.self) c.in-Failed.fault
          c.loop-done.invariant.icnt c.loop-done.invariant.calls r came,
    )

pub returns-in-Failed-clause-took : goal.returns-in-Failed-clause-took
returns-in-Failed-clause-took g c = λ start h k.
    let T : Trace = c.prepare.new.recorder.trace in
    let r = prepared_true c.loop-done.recorder c.prepare.new.recorder (state_of c.loop-done.self) c.in-Ok-true.field-0 c.in-Ok-true.field-0-test c.in-Ok-true.ensures.ready in
    let F : Trace → Type 0 = λ x. x.file ≡ true in
    let file : T.file ≡ true = subst F c.trace.ensures.same c.trace.ensures.valid.file in
    let reach = reaches_ready c.loop-done.recorder.world c.loop-done.recorder.trace (state_of c.loop-done.self) c.prepare.new.recorder.world T c.loop-done.done (state_of c.args.self.now) (state_of c.loop-done.self) file r c.loop-done.invariant.reaches in
    let same = items_ready c.loop-done.recorder.world c.loop-done.recorder.trace (state_of c.loop-done.self) c.prepare.new.recorder.world T c.loop-done.done (state_of c.args.self.now) (state_of c.loop-done.self) file r c.loop-done.invariant.reaches in
    let Q : List Item → Type 0 = λ x. g.O.Observer.took start (onto x h) c.loop-done.o in
    let h2 : List Item = onto (items_of T c.loop-done.done (state_of c.args.self.now)) h in
    let S : Trace → Type 0 = λ x. AdvanceState x (state_of c.loop-done.self) (state_of c.advance.new.self) (Failed c.in-Failed.fault) in
    let U : Trace → Type 0 = λ x. AdvanceTook g.O.Observer.took g.O.Observer.cut x (state_of c.loop-done.self) (state_of c.advance.new.self) start h2 c.advance.new.o (Failed c.in-Failed.fault) in
    failed_took RecordEnd g.O.Observer.took g.O.Observer.cut T c.args.n c.loop-done.done (state_of c.args.self.now) (state_of c.loop-done.self) (state_of c.advance.new.self) start h c.advance.new.o c.in-Failed.fault
    reach c.loop-done.invariant.icnt (subst S c.trace.ensures.same c.in-Failed.ensures.state)
    (subst U c.trace.ensures.same (c.in-Failed.ensures.took start h2 (subst Q same (c.loop-done.invariant.took start h k))))

pub returns-in-Failed-clause-state : goal.returns-in-Failed-clause-state
returns-in-Failed-clause-state g c =
    let T : Trace = c.prepare.new.recorder.trace in
    let r = prepared_true c.loop-done.recorder c.prepare.new.recorder (state_of c.loop-done.self) c.in-Ok-true.field-0 c.in-Ok-true.field-0-test c.in-Ok-true.ensures.ready in
    let F : Trace → Type 0 = λ x. x.file ≡ true in
    let file : T.file ≡ true = subst F c.trace.ensures.same c.trace.ensures.valid.file in
    let reach = reaches_ready c.loop-done.recorder.world c.loop-done.recorder.trace (state_of c.loop-done.self) c.prepare.new.recorder.world T c.loop-done.done (state_of c.args.self.now) (state_of c.loop-done.self) file r c.loop-done.invariant.reaches in
    let S : Trace → Type 0 = λ x. AdvanceState x (state_of c.loop-done.self) (state_of c.advance.new.self) (Failed c.in-Failed.fault) in
    recorded_failed T c.args.n c.loop-done.done (state_of c.args.self.now) (state_of c.loop-done.self) (state_of c.advance.new.self) c.in-Failed.fault
    reach c.loop-done.invariant.icnt c.loop-done-test.true (subst S c.trace.ensures.same c.in-Failed.ensures.state)

pub loop-done-preserved : goal.loop-done-preserved
loop-done-preserved g c =
    let T : Trace = c.prepare.new.recorder.trace in
    let r = prepared_true c.loop-done.recorder c.prepare.new.recorder (state_of c.loop-done.self) c.in-Ok-true.field-0 c.in-Ok-true.field-0-test c.in-Ok-true.ensures.ready in
    let F : Trace → Type 0 = λ x. x.file ≡ true in
    let file : T.file ≡ true = subst F c.trace.ensures.same c.trace.ensures.valid.file in
    let reach = reaches_ready c.loop-done.recorder.world c.loop-done.recorder.trace (state_of c.loop-done.self) c.prepare.new.recorder.world T c.loop-done.done (state_of c.args.self.now) (state_of c.loop-done.self) file r c.loop-done.invariant.reaches in
    let same = items_ready c.loop-done.recorder.world c.loop-done.recorder.trace (state_of c.loop-done.self) c.prepare.new.recorder.world T c.loop-done.done (state_of c.args.self.now) (state_of c.loop-done.self) file r c.loop-done.invariant.reaches in
    let d : CommitRecord = c.in-Going.ensures.state.0 in
    let N : Trace → Type 0 = λ x. Next d (state_of c.advance.new.self) ≡ step_of x (state_of c.loop-done.self) in
    let next : Next d (state_of c.advance.new.self) ≡ step_of T (state_of c.loop-done.self) = subst N c.trace.ensures.same c.in-Going.ensures.state.1 in
    let one : c.advance.new.self.icnt ≡ c.loop-done.self.icnt + 1 = c.in-Going.ensures.state.2 in
    record {
      reaches = reaches_on T c.loop-done.done (state_of c.args.self.now) (state_of c.loop-done.self) (state_of c.advance.new.self) d reach next;
      icnt = omega (arith, one, c.loop-done.invariant.icnt);
      took = λ start h k.
          let Q : List Item → Type 0 = λ x. g.O.Observer.took start (onto x h) c.loop-done.o in
          let h2 : List Item = onto (items_of T c.loop-done.done (state_of c.args.self.now)) h in
          let U : Trace → Type 0 = λ x. AdvanceTook {F = g.row.O-Fault.Denot} g.O.Observer.took g.O.Observer.cut x (state_of c.loop-done.self) (state_of c.advance.new.self) start h2 c.advance.new.o Going in
          let R : List Item → Type 0 = λ x. g.O.Observer.took start x c.advance.new.o in
          subst R (sym (onto_on T c.loop-done.done (state_of c.args.self.now) (state_of c.loop-done.self) (state_of c.advance.new.self) d h reach next))
          (subst U c.trace.ensures.same (c.in-Going.ensures.took start h2 (subst Q same (c.loop-done.invariant.took start h k))) d next);
      count = c.in-Going.ensures.count ∙ c.loop-done.invariant.count;
      pages = λ n h. c.in-Going.ensures.pages n (c.loop-done.invariant.pages n h);
      memory = λ k. c.in-Going.ensures.memory (c.loop-done.invariant.memory k);
      rising = omega (arith, one, c.in-Ok-true.ensures.rising);
      calls = goes_on_next c.args.recorder.now c.loop-done.recorder c.prepare.new.recorder c.loop-done.done (state_of c.args.self.now) (state_of c.loop-done.self) (state_of c.advance.new.self) d c.loop-done.invariant.calls r next;
    }

pub returns-in-Some-clause-trace : goal.returns-in-Some-clause-trace
returns-in-Some-clause-trace g c =
    made_all c.args.recorder.now c.loop-done.recorder c.args.n c.loop-done.done (state_of c.args.self.now) (state_of c.loop-done.self) (omega (arith, c.loop-done-test.false)) c.loop-done.invariant.calls

pub returns-in-None-clause-trace : goal.returns-in-None-clause-trace
returns-in-None-clause-trace g c =
    made_all c.args.recorder.now c.loop-done.recorder c.args.n c.loop-done.done (state_of c.args.self.now) (state_of c.loop-done.self) (omega (arith, c.loop-done-test.false)) c.loop-done.invariant.calls

pub returns-in-Err-clause-memory : goal.returns-in-Err-clause-memory
returns-in-Err-clause-memory g c = (
  c.loop-done.invariant.memory,
  unready_memory c.loop-done.recorder.trace c.prepare.new.recorder.trace c.args.self.now.pages c.args.n c.loop-done.done (state_of c.args.self.now) (state_of c.loop-done.self)
      (ap (λ x. x.trace) c.in-Err.ensures.ready.0) c.in-Err.ensures.ready.1 c.loop-done-test.true c.loop-done.invariant.reaches,
)

pub returns-in-Failed-clause-memory : goal.returns-in-Failed-clause-memory
returns-in-Failed-clause-memory g c =
    let O = g.O.Observer in
    let T : Trace = c.prepare.new.recorder.trace in
    let r = prepared_true c.loop-done.recorder c.prepare.new.recorder (state_of c.loop-done.self) c.in-Ok-true.field-0 c.in-Ok-true.field-0-test c.in-Ok-true.ensures.ready in
    let F : Trace → Type 0 = λ x. x.file ≡ true in
    let file : T.file ≡ true = subst F c.trace.ensures.same c.trace.ensures.valid.file in
    let reach = reaches_ready c.loop-done.recorder.world c.loop-done.recorder.trace (state_of c.loop-done.self) c.prepare.new.recorder.world T c.loop-done.done (state_of c.args.self.now) (state_of c.loop-done.self) file r c.loop-done.invariant.reaches in
    let M : Trace → Type 0 = λ x. AdvanceMemory O.takes_no_memory O.means (TakesNoMemory x c.loop-done.self.pages (step_of x (state_of c.loop-done.self))) c.loop-done.o c.advance.new.o (Failed c.in-Failed.fault) in
    failed_memory RecordEnd (AreRecorded T c.args.self.now.pages c.args.n (state_of c.args.self.now)) O.takes_no_memory O.means
    T (state_of c.loop-done.self) c.loop-done.self.pages c.args.o.now c.loop-done.o c.advance.new.o c.in-Failed.fault
    (λ recorded. step_takes T c.args.n c.loop-done.done (state_of c.args.self.now) (state_of c.loop-done.self) c.args.self.now.pages c.loop-done.self.pages reach c.loop-done-test.true c.loop-done.invariant.pages (λ k d. (recorded k d).0))
    c.loop-done.invariant.memory (subst M c.trace.ensures.same c.in-Failed.ensures.memory)
