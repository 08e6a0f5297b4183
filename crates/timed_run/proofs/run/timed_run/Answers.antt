use Rattle.std.proofs.Common.{◌+◌, ◌-◌, ◌<◌, ◌≤◌, Ok, Err, refl, sym, ap, ◌∙◌, subst, arith}
use Rattle.sim_safe.specs.State.{Storage, state_of}
use Rattle.sim_safe.specs.Step.{Halt}
use Rattle.ooo_table.specs.declared.event.EndWord.{EndWord}
use Rattle.ooo_table.specs.Events.{stop_word}
use Rattle.core_statistics.specs.declared.stats.CoreStats.{CoreStats}
use Rattle.sim_outorder.specs.declared.answers.Turn.{Turn}
use Rattle.sim_outorder.specs.declared.answers.Turn.TheVariants as turn
use Rattle.sim_outorder.specs.Running.{LeftReady, Cycles}
use Rattle.timed_run.specs.Timed.{RunsTimed}
use Rattle.timed_run.proofs.Loop.{along_begin, along_next, runs_spent, runs_ended, runs_fault, runs_used, runs_over}
use Rattle.timed_run.proofs.run.timed_run.Goals as goal

pub loop-cycle-init : goal.loop-cycle-init
loop-cycle-init g c = (
  c.requires.ready.0,
  c.requires.ready.1,
  along_begin g.W.Watch.took c.args.trace.now c.args.max_inst c.args.core.now c.args.watch.now c.requires.ready.1,
  refl,
  λ n. n,
)

-- the next cycle may come
pub loop-cycle-preserved : goal.loop-cycle-preserved
loop-cycle-preserved g c =
    let left : LeftReady {F = g.row.W-Fault.Denot} c.loop-cycle.core c.cycle.new.self (Ok turn.Going) =
    subst (λ (t : Turn). LeftReady {F = g.row.W-Fault.Denot} c.loop-cycle.core c.cycle.new.self (Ok t)) c.in-Ok-Going.field-0-is c.in-Ok-Going.ensures.ready in (
      left.ready,
      left.cycles ∙ ap (λ n. n + 1) c.loop-cycle.invariant.1,
      along_next g.row.W-Fault.Denot g.W.Watch.took g.W.Watch.cut c.args.trace.now c.args.max_inst c.args.core.now c.loop-cycle.core c.cycle.new.self c.args.watch.now c.loop-cycle.watch c.cycle.new.watch c.requires.ready.2
          (subst (λ (s : CoreStats). s.insn < c.args.max_inst) c.stats-committed.ensures c.if-committed-max_inst.false) c.loop-cycle.invariant.2 left.cycles
          (subst
          (λ (t : Turn). Cycles {F = g.row.W-Fault.Denot} g.W.Watch.took g.W.Watch.cut c.args.trace.now (c.args.max_inst - c.loop-cycle.core.stats.insn) c.loop-cycle.core c.cycle.new.self c.loop-cycle.watch c.cycle.new.watch (Ok t))
          c.in-Ok-Going.field-0-is
          (subst
          (λ (s : CoreStats). Cycles {F = g.row.W-Fault.Denot} g.W.Watch.took g.W.Watch.cut c.args.trace.now (c.args.max_inst - s.insn) c.loop-cycle.core c.cycle.new.self c.loop-cycle.watch c.cycle.new.watch (Ok c.in-Ok-Going.field-0))
          c.stats-committed.ensures c.in-Ok-Going.ensures.cycle)),
      c.in-Ok-Going.ensures.count ∙ c.loop-cycle.invariant.3,
      λ n. c.in-Ok-Going.ensures.memory (c.loop-cycle.invariant.4 n),
    )

-- the budget of commits is used up before a cycle
pub returns-then-committed-max_inst-clause-run : goal.returns-then-committed-max_inst-clause-run
returns-then-committed-max_inst-clause-run g c =
    runs_used g.row.W-Fault.Denot g.W.Watch.took g.W.Watch.cut c.args.trace.now c.args.max_inst c.args.max_cycles c.args.core.now c.loop-cycle.core c.args.watch.now c.loop-cycle.watch c.loop-cycle.invariant.2
    c.requires.ready.2 (subst (λ (s : CoreStats). c.args.max_inst ≤ s.insn) c.stats-committed.ensures c.if-committed-max_inst.true)

-- or by a commit of it
pub returns-in-Ok-Spent-clause-run : goal.returns-in-Ok-Spent-clause-run
returns-in-Ok-Spent-clause-run g c =
    runs_spent g.row.W-Fault.Denot g.W.Watch.took g.W.Watch.cut c.args.trace.now c.args.max_inst c.args.core.now c.loop-cycle.core c.cycle.new.self c.args.watch.now c.loop-cycle.watch c.cycle.new.watch c.requires.ready.2
    (subst (λ (s : CoreStats). s.insn < c.args.max_inst) c.stats-committed.ensures c.if-committed-max_inst.false) c.loop-cycle.invariant.2 c.args.max_cycles
    (subst (λ n. n < c.args.max_cycles) (sym c.loop-cycle.invariant.1) c.loop-cycle-test.true)
    (subst
    (λ (t : Turn). Cycles {F = g.row.W-Fault.Denot} g.W.Watch.took g.W.Watch.cut c.args.trace.now (c.args.max_inst - c.loop-cycle.core.stats.insn) c.loop-cycle.core c.cycle.new.self c.loop-cycle.watch c.cycle.new.watch (Ok t))
    c.in-Ok-Spent.field-0-is
    (subst
    (λ (s : CoreStats). Cycles {F = g.row.W-Fault.Denot} g.W.Watch.took g.W.Watch.cut c.args.trace.now (c.args.max_inst - s.insn) c.loop-cycle.core c.cycle.new.self c.loop-cycle.watch c.cycle.new.watch (Ok c.in-Ok-Spent.field-0))
    c.stats-committed.ensures c.in-Ok-Spent.ensures.cycle))

-- the machine stops by itself
pub returns-in-Ok-Ended-clause-run : goal.returns-in-Ok-Ended-clause-run
returns-in-Ok-Ended-clause-run g c =
    subst
    (λ (w : EndWord). RunsTimed {F = g.row.W-Fault.Denot} g.W.Watch.took g.W.Watch.cut c.args.trace.now c.args.max_inst c.args.max_cycles c.args.core.now c.cycle.new.self c.args.watch.now c.cycle.new.watch (Ok w))
    (sym (c.stop_word.ensures ∙ ap (λ (a : Storage). stop_word (state_of a) (Halt c.in-Ok-Ended.cause)) c.arch.ensures))
    (runs_ended g.row.W-Fault.Denot g.W.Watch.took g.W.Watch.cut c.args.trace.now c.args.max_inst c.args.core.now c.loop-cycle.core c.cycle.new.self c.args.watch.now c.loop-cycle.watch c.cycle.new.watch c.requires.ready.2
    (subst (λ (s : CoreStats). s.insn < c.args.max_inst) c.stats-committed.ensures c.if-committed-max_inst.false) c.loop-cycle.invariant.2 c.args.max_cycles c.in-Ok-Ended.cause
    (subst (λ n. n < c.args.max_cycles) (sym c.loop-cycle.invariant.1) c.loop-cycle-test.true)
    (subst
    (λ (t : Turn). Cycles {F = g.row.W-Fault.Denot} g.W.Watch.took g.W.Watch.cut c.args.trace.now (c.args.max_inst - c.loop-cycle.core.stats.insn) c.loop-cycle.core c.cycle.new.self c.loop-cycle.watch c.cycle.new.watch (Ok t))
    c.in-Ok-Ended.field-0-is
    (subst
    (λ (s : CoreStats). Cycles {F = g.row.W-Fault.Denot} g.W.Watch.took g.W.Watch.cut c.args.trace.now (c.args.max_inst - s.insn) c.loop-cycle.core c.cycle.new.self c.loop-cycle.watch c.cycle.new.watch (Ok c.in-Ok-Ended.field-0))
    c.stats-committed.ensures c.in-Ok-Ended.ensures.cycle)))

-- the run is given up
pub returns-in-Err-clause-run : goal.returns-in-Err-clause-run
returns-in-Err-clause-run g c =
    runs_fault g.row.W-Fault.Denot g.W.Watch.took g.W.Watch.cut c.args.trace.now c.args.max_inst c.args.core.now c.loop-cycle.core c.cycle.new.self c.args.watch.now c.loop-cycle.watch c.cycle.new.watch c.requires.ready.2
    (subst (λ (s : CoreStats). s.insn < c.args.max_inst) c.stats-committed.ensures c.if-committed-max_inst.false) c.loop-cycle.invariant.2 c.args.max_cycles c.in-Err.fault
    (subst (λ n. n < c.args.max_cycles) (sym c.loop-cycle.invariant.1) c.loop-cycle-test.true)
    (subst
    (λ (s : CoreStats). Cycles {F = g.row.W-Fault.Denot} g.W.Watch.took g.W.Watch.cut c.args.trace.now (c.args.max_inst - s.insn) c.loop-cycle.core c.cycle.new.self c.loop-cycle.watch c.cycle.new.watch (Err c.in-Err.fault))
    c.stats-committed.ensures c.in-Err.ensures.cycle)

-- the budget of cycles is used up
pub returns-clause-run : goal.returns-clause-run
returns-clause-run g c =
    runs_over g.row.W-Fault.Denot g.W.Watch.took g.W.Watch.cut c.args.trace.now c.args.max_inst c.args.max_cycles c.args.core.now c.loop-cycle.core c.args.watch.now c.loop-cycle.watch c.loop-cycle.invariant.2
    (c.loop-cycle.invariant.1 ∙ omega (arith, c.loop-cycle-test.false, c.loop-cycle.auto.cycle-end))
