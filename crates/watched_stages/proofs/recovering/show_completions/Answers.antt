use Rattle.std.proofs.Common.{◌∷◌, Some, None, refl, sym, ap, ◌∙◌}
use Rattle.ooo_table.specs.declared.event.Event.{Event}
use Rattle.core_recovery.proofs.Least.{done_live, fewer}
use Rattle.core_watch.proofs.Events.{goes_begin}
use Rattle.watched_stages.specs.Watched.{completions_above}
use Rattle.watched_stages.proofs.Showing.{goes_on, goes_short, goes_over}
use Rattle.watched_stages.proofs.Completions.{completion_next, completion_none}
use Rattle.watched_stages.proofs.recovering.show_completions.Goals as goal

pub loop-row-init : goal.loop-row-init
loop-row-init g c = (c.room-room.ensures.rises, goes_begin g.W.Watch.took g.W.Watch.cut c.args.watch.now (completions_above c.args.cycle None c.args.unit.now.rows), refl, λ n. n)

pub completion_event-requires : goal.completion_event-requires
completion_event-requires g c = done_live c.args.cycle c.loop-row.after c.in-Some.row c.args.unit.now.rows (sym c.in-Some.ensures)

pub loop-row-smaller : goal.loop-row-smaller
loop-row-smaller g c = fewer c.args.cycle c.loop-row.after c.args.unit.now c.loop-row.invariant.0 c.in-Some.row (sym c.in-Some.ensures)

pub loop-row-preserved : goal.loop-row-preserved
loop-row-preserved g c = (
  c.loop-row.invariant.0,
  goes_on g.W.Watch.took g.W.Watch.cut c.args.watch.now c.loop-row.watch c.event.new.self (completions_above c.args.cycle None c.args.unit.now.rows) (completions_above c.args.cycle c.loop-row.after c.args.unit.now.rows) (completions_above c.args.cycle (Some c.in-Some.row) c.args.unit.now.rows) c.completion_event.result
      (completion_next c.args.cycle c.loop-row.after c.args.unit.now.last c.args.unit.now.rows c.in-Some.row c.loop-row.invariant.0 (sym c.in-Some.ensures)
      ∙ ap (λ (e : Event). e ∷ completions_above c.args.cycle (Some c.in-Some.row) c.args.unit.now.rows) (sym c.completion_event.ensures))
      c.loop-row.invariant.1 c.in-Ok.ensures.took,
  c.in-Ok.ensures.count ∙ c.loop-row.invariant.2,
  λ n. c.in-Ok.ensures.memory (c.loop-row.invariant.3 n),
)

pub returns-in-Err-clause-took : goal.returns-in-Err-clause-took
returns-in-Err-clause-took g c =
    goes_short g.W.Watch.took g.W.Watch.cut c.args.watch.now c.loop-row.watch c.event.new.self (completions_above c.args.cycle None c.args.unit.now.rows) (completions_above c.args.cycle c.loop-row.after c.args.unit.now.rows) (completions_above c.args.cycle (Some c.in-Some.row) c.args.unit.now.rows) c.completion_event.result
    (completion_next c.args.cycle c.loop-row.after c.args.unit.now.last c.args.unit.now.rows c.in-Some.row c.loop-row.invariant.0 (sym c.in-Some.ensures)
    ∙ ap (λ (e : Event). e ∷ completions_above c.args.cycle (Some c.in-Some.row) c.args.unit.now.rows) (sym c.completion_event.ensures))
    c.loop-row.invariant.1 c.in-Err.ensures.took

pub returns-clause-took : goal.returns-clause-took
returns-clause-took g c =
    goes_over g.W.Watch.took g.W.Watch.cut c.args.watch.now c.loop-row.watch (completions_above c.args.cycle None c.args.unit.now.rows) (completions_above c.args.cycle c.loop-row.after c.args.unit.now.rows)
    (completion_none c.args.cycle c.loop-row.after c.args.unit.now.rows (sym c.in_default.ensures)) c.loop-row.invariant.1
