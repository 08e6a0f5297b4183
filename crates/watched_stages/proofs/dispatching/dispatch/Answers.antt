use Rattle.std.proofs.Common.{◌≡◌, ◌||◌, suc, ◌+◌, ◌-◌, ◌<◌, ◌≤◌, true, false, refl, sym, ap, ◌∙◌, subst, arith}
use Rattle.ecoff_load.specs.Object.{IsText}
use Rattle.core_parts.specs.declared.parts.Parts.{Parts}
use Rattle.core_parts.specs.Stages.{DispatchIsOver}
use Rattle.core_statistics.specs.Counted.{with_dispatches}
use Rattle.watched_stages.proofs.Dispatches.{Midway, midway_begin, midway_next, midway_cut, midway_front, midway_over, midway_counted}
use Rattle.core_dispatch.specs.TurnLaws.{over_stays, stop_stays}
use Rattle.watched_stages.proofs.Turns.{row_within}
use Rattle.watched_stages.proofs.Wanting.{wants_memory}
use Rattle.watched_stages.proofs.dispatching.dispatch.Goals as goal

pub rows-init : goal.rows-init
rows-init g c = (
  c.requires.fits,
  c.requires.text,
  omega arith,
  λ k sound same st. midway_begin k c.args.cycle g.W.Watch.took g.W.Watch.cut c.args.parts.now c.args.watch.now st,
  refl,
  λ n. n,
  refl,
  record { pages = λ number held. held; text = refl },
)

pub rows-smaller : goal.rows-smaller
rows-smaller g c =
    let lt : c.rows.dispatched < c.rows.parts.config.decode = row_within c.args.trace.now c.args.cycle c.rows.dispatched c.rows.called c.rows.parts c.dispatch_one.new.parts c.in-Row.row c.in-Row.call c.in-Row.ensures.turn in
    let most : c.rows.parts.config.decode ≤ 32 = c.rows.invariant.0.sizes.allowed.widths.decode.most in
    let less : 32 - (c.rows.dispatched + 1) < 32 - c.rows.dispatched = omega (arith, lt, most) in
    less

pub rows-preserved : goal.rows-preserved
rows-preserved g c =
    let lt : c.rows.dispatched < c.rows.parts.config.decode = row_within c.args.trace.now c.args.cycle c.rows.dispatched c.rows.called c.rows.parts c.dispatch_one.new.parts c.in-Row.row c.in-Row.call c.in-Row.ensures.turn in
    let most : c.rows.parts.config.decode ≤ 32 = c.rows.invariant.0.sizes.allowed.widths.decode.most in
    let one : suc c.rows.dispatched ≡ c.rows.dispatched + 1 = omega arith in (
      c.dispatch_one.ensures.fits,
      subst IsText (sym c.dispatch_one.ensures.turn.keeps.text) c.rows.invariant.1,
      omega (arith, lt, most),
      λ k sound same st.
          subst (λ b. Midway k c.args.cycle g.W.Watch.took g.W.Watch.cut (c.rows.dispatched + 1) b c.dispatch_one.new.parts c.args.watch.now c.event.new.self) (sym c.either-called.ensures)
          (subst (λ n. Midway k c.args.cycle g.W.Watch.took g.W.Watch.cut n (c.rows.called || c.in-Row.call) c.dispatch_one.new.parts c.args.watch.now c.event.new.self) one
          (midway_next k c.args.cycle g.W.Watch.took g.W.Watch.cut c.rows.dispatched c.rows.called c.rows.parts c.dispatch_one.new.parts c.in-Row.row c.in-Row.call c.args.watch.now c.rows.watch c.event.new.self
          (c.rows.invariant.3 k sound same st) (c.in-Row.ensures.stands k sound same) c.in-Ok.ensures.took)),
      c.in-Ok.ensures.count ∙ c.rows.invariant.4,
      λ n. c.in-Ok.ensures.memory (c.rows.invariant.5 n),
      c.rows.invariant.6,
      record {
        pages = λ number held. c.dispatch_one.ensures.turn.keeps.pages number (c.rows.invariant.7.pages number held);
        text = c.dispatch_one.ensures.turn.keeps.text ∙ c.rows.invariant.7.text;
      },
    )

pub returns-in-Err-clause-dispatches : goal.returns-in-Err-clause-dispatches
returns-in-Err-clause-dispatches g c =
    λ k sound same st.
    midway_cut k c.args.cycle g.W.Watch.took g.W.Watch.cut c.rows.dispatched c.rows.called c.rows.parts c.dispatch_one.new.parts c.in-Row.row c.in-Row.call c.args.watch.now c.rows.watch c.event.new.self
    (c.rows.invariant.3 k sound same st) (c.in-Row.ensures.stands k sound same) c.in-Err.ensures.took

pub returns-in-Over-clause-dispatches : goal.returns-in-Over-clause-dispatches
returns-in-Over-clause-dispatches g c =
    λ k sound same st.
    let m : Midway k c.args.cycle g.W.Watch.took g.W.Watch.cut c.rows.dispatched c.rows.called c.rows.parts c.args.watch.now c.rows.watch = c.rows.invariant.3 k sound same st in
    let over : DispatchIsOver k c.args.cycle false c.dispatch_one.new.parts = c.in-Over.ensures.stands k sound same m.younger m.older m.turns in
    let stays : c.dispatch_one.new.parts ≡ c.rows.parts = over_stays c.args.trace.now c.args.cycle c.rows.parts c.dispatch_one.new.parts c.rows.dispatched c.rows.called c.in-Over.ensures.turn in
    record {
      over = over;
      stats = midway_counted k c.args.cycle g.W.Watch.took g.W.Watch.cut c.rows.dispatched c.rows.called false c.dispatch_one.new.parts c.args.stats.now c.count_dispatches.new.self c.args.watch.now c.rows.watch
          (subst (λ (p : Parts). Midway k c.args.cycle g.W.Watch.took g.W.Watch.cut c.rows.dispatched c.rows.called p c.args.watch.now c.rows.watch) (sym stays) m) over
          (c.count_dispatches.ensures ∙ (ap (λ n. with_dispatches n c.rows.stats) c.from.ensures ∙ ap (with_dispatches c.rows.dispatched) c.rows.invariant.6));
      shown = midway_over k c.args.cycle g.W.Watch.took g.W.Watch.cut c.rows.dispatched c.rows.called false c.dispatch_one.new.parts c.args.watch.now c.rows.watch
          (subst (λ (p : Parts). Midway k c.args.cycle g.W.Watch.took g.W.Watch.cut c.rows.dispatched c.rows.called p c.args.watch.now c.rows.watch) (sym stays) m) over;
    }

pub returns-in-Stops-clause-dispatches : goal.returns-in-Stops-clause-dispatches
returns-in-Stops-clause-dispatches g c =
    λ k sound same st.
    let m : Midway k c.args.cycle g.W.Watch.took g.W.Watch.cut c.rows.dispatched c.rows.called c.rows.parts c.args.watch.now c.rows.watch = c.rows.invariant.3 k sound same st in
    let over = c.in-Stops.ensures.stands k sound same m.younger m.older m.turns in
    let stays : c.dispatch_one.new.parts ≡ c.rows.parts = stop_stays c.args.trace.now c.args.cycle c.rows.parts c.dispatch_one.new.parts c.rows.dispatched c.rows.called c.in-Stops.cause c.in-Stops.ensures.turn in (
      record {
        over = over.0;
        stats = midway_counted k c.args.cycle g.W.Watch.took g.W.Watch.cut c.rows.dispatched c.rows.called true c.dispatch_one.new.parts c.args.stats.now c.count_dispatches-in-Stops.new.self c.args.watch.now c.rows.watch
            (subst (λ (p : Parts). Midway k c.args.cycle g.W.Watch.took g.W.Watch.cut c.rows.dispatched c.rows.called p c.args.watch.now c.rows.watch) (sym stays) m) over.0
            (c.count_dispatches-in-Stops.ensures ∙ (ap (λ n. with_dispatches n c.rows.stats) c.from-in-Stops.ensures ∙ ap (with_dispatches c.rows.dispatched) c.rows.invariant.6));
        shown = midway_over k c.args.cycle g.W.Watch.took g.W.Watch.cut c.rows.dispatched c.rows.called true c.dispatch_one.new.parts c.args.watch.now c.rows.watch
            (subst (λ (p : Parts). Midway k c.args.cycle g.W.Watch.took g.W.Watch.cut c.rows.dispatched c.rows.called p c.args.watch.now c.rows.watch) (sym stays) m) over.0;
      },
      over.1,
    )

pub returns-in-OutOfMemory-clause-dispatches : goal.returns-in-OutOfMemory-clause-dispatches
returns-in-OutOfMemory-clause-dispatches g c =
    λ k sound same st.
    let m : Midway k c.args.cycle g.W.Watch.took g.W.Watch.cut c.rows.dispatched c.rows.called c.rows.parts c.args.watch.now c.rows.watch = c.rows.invariant.3 k sound same st in (
      midway_front k c.args.cycle g.W.Watch.took g.W.Watch.cut c.rows.dispatched c.rows.called c.rows.parts c.args.watch.now c.rows.watch m,
      wants_memory k sound c.args.cycle c.rows.dispatched c.rows.called c.args.parts.now c.rows.parts c.dispatch_one.new.parts c.rows.invariant.0 m.younger m.older m.turns c.args.trace.now same
          c.rows.invariant.7 c.in-OutOfMemory.ensures.turn c.in-OutOfMemory.ensures.memory,
    )
