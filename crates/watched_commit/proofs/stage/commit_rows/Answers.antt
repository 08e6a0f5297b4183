use Rattle.std.proofs.Common.{◌≡◌, refl, sym, ap, ◌∙◌, subst, arith}
use Rattle.sim_safe.specs.Observed.{Faulted}
use Rattle.core_parts.specs.declared.parts.Parts.{Parts}
use Rattle.watched_commit.specs.Stage.{IsWhole}
use Rattle.watched_commit.proofs.Loop.{within_begin, within_next, ends_rows, ends_shown, cut_shown, whole, whole_shown, used_up}
use Rattle.watched_commit.proofs.stage.commit_rows.Goals as goal

pub loop-commits-init : goal.loop-commits-init
loop-commits-init g c = (within_begin g.W.Watch.took c.args.trace.now c.args.cycle c.args.most c.args.parts.now c.args.stats.now c.args.watch.now c.requires.fits, refl, λ n. n)

-- a row was shown and doesn't end the stage
pub loop-commits-preserved : goal.loop-commits-preserved
loop-commits-preserved g c = (
  within_next g.W.Watch.took c.args.trace.now c.args.cycle c.args.most c.loop-commits.commits c.args.parts.now c.loop-commits.parts c.commit_one.new.parts
      c.args.stats.now c.loop-commits.stats c.count_commit.new.self c.args.watch.now c.loop-commits.watch c.show_row.new.watch c.in-Some.station c.loop-commits.invariant.0 c.count_commit.ensures c.in-Some.ensures.fits c.in-Some.ensures.turn c.in-Some.ensures.stands
      c.in_default-show_row.ensures.took (sym c.in_default-end_with.ensures),
  c.in_default-show_row.ensures.count ∙ c.loop-commits.invariant.1,
  λ n. c.in_default-show_row.ensures.memory (c.loop-commits.invariant.2 n),
)

-- no row commits any more
pub returns-in_default-clause-rows : goal.returns-in_default-clause-rows
returns-in_default-clause-rows g c =
    λ g' sound st. (
      subst (λ p. IsWhole g' c.args.cycle c.args.most c.loop-commits.commits p c.args.stats.now c.loop-commits.stats) (sym c.in_default.ensures.turn.1)
          (whole g.W.Watch.took c.args.trace.now c.args.cycle c.args.most c.loop-commits.commits c.args.parts.now c.loop-commits.parts c.args.stats.now c.loop-commits.stats c.args.watch.now c.loop-commits.watch
          c.loop-commits.invariant.0 c.in_default.ensures.turn.0 g' sound st),
      ap (λ (p : Parts). p.arch) c.in_default.ensures.turn.1 ∙ c.loop-commits.invariant.0.arch,
    )

pub returns-in_default-clause-watch : goal.returns-in_default-clause-watch
returns-in_default-clause-watch g c =
    record {
      items = λ start h t g' sound same st.
          whole_shown g.W.Watch.took c.args.trace.now c.args.cycle c.args.most c.loop-commits.commits c.args.parts.now c.loop-commits.parts c.args.stats.now c.loop-commits.stats c.args.watch.now c.loop-commits.watch
          c.loop-commits.invariant.0 c.in_default.ensures.turn.0 g' sound st same start h t;
      count = c.loop-commits.invariant.1;
      memory = c.loop-commits.invariant.2;
    }

-- the watch was cut within the row
pub returns-in-Err-clause-watch : goal.returns-in-Err-clause-watch
returns-in-Err-clause-watch g c =
    record {
      items = λ start h t g' sound same st.
          cut_shown g.W.Watch.took c.args.trace.now c.args.cycle c.args.most c.loop-commits.commits c.args.parts.now c.loop-commits.parts c.commit_one.new.parts c.args.stats.now c.loop-commits.stats c.args.watch.now
          c.loop-commits.watch c.in-Some.station c.loop-commits.invariant.0 c.in-Some.ensures.stands g.W.Watch.cut c.show_row.new.watch c.in-Err.ensures.took start h t g' sound same st;
      count = subst (λ x. Faulted (g.W.Watch.means c.in-Err.fault) x (g.W.Watch.faults c.show_row.new.watch)) c.loop-commits.invariant.1 c.in-Err.ensures.count;
      memory = λ n. c.in-Err.ensures.memory (c.loop-commits.invariant.2 n);
    }

-- the row ends the stage
pub returns-in-Some-end_with-clause-rows : goal.returns-in-Some-end_with-clause-rows
returns-in-Some-end_with-clause-rows g c =
    ends_rows g.W.Watch.took c.args.trace.now c.args.cycle c.args.most c.loop-commits.commits c.args.parts.now c.loop-commits.parts c.commit_one.new.parts c.args.stats.now c.loop-commits.stats c.args.watch.now
    c.loop-commits.watch c.in-Some.station c.loop-commits.invariant.0 c.in-Some.ensures.stands c.count_commit.new.self c.count_commit.ensures c.in-Some.ensures.turn c.in-Some-end_with.end (sym c.in-Some-end_with.ensures)

pub returns-in-Some-end_with-clause-watch : goal.returns-in-Some-end_with-clause-watch
returns-in-Some-end_with-clause-watch g c =
    record {
      items = λ start h t g' sound same st.
          ends_shown g.W.Watch.took c.args.trace.now c.args.cycle c.args.most c.loop-commits.commits c.args.parts.now c.loop-commits.parts c.commit_one.new.parts c.args.stats.now c.loop-commits.stats c.args.watch.now
          c.loop-commits.watch c.in-Some.station c.loop-commits.invariant.0 c.in-Some.ensures.stands c.show_row.new.watch c.in-Some-end_with.end (sym c.in-Some-end_with.ensures)
          c.in_default-show_row.ensures.took start h t g' sound same st;
      count = c.in_default-show_row.ensures.count ∙ c.loop-commits.invariant.1;
      memory = λ n. c.in_default-show_row.ensures.memory (c.loop-commits.invariant.2 n);
    }

-- the width is used up
pub returns-clause-rows : goal.returns-clause-rows
returns-clause-rows g c =
    λ g' sound st.
    let all : c.loop-commits.commits ≡ c.args.parts.now.config.commit = omega (arith, c.loop-commits-test.false, c.loop-commits.auto.commits-end) in (
      subst (λ n. IsWhole g' c.args.cycle c.args.most n c.loop-commits.parts c.args.stats.now c.loop-commits.stats) all
          (whole g.W.Watch.took c.args.trace.now c.args.cycle c.args.most c.loop-commits.commits c.args.parts.now c.loop-commits.parts c.args.stats.now c.loop-commits.stats c.args.watch.now c.loop-commits.watch
          c.loop-commits.invariant.0
          (used_up g.W.Watch.took c.args.trace.now c.args.cycle c.args.most c.loop-commits.commits c.args.parts.now c.loop-commits.parts c.args.stats.now c.loop-commits.stats c.args.watch.now c.loop-commits.watch
          c.loop-commits.invariant.0 all) g' sound st),
      c.loop-commits.invariant.0.arch,
    )

pub returns-clause-watch : goal.returns-clause-watch
returns-clause-watch g c =
    let all : c.loop-commits.commits ≡ c.args.parts.now.config.commit = omega (arith, c.loop-commits-test.false, c.loop-commits.auto.commits-end) in
    record {
      items = λ start h t g' sound same st.
          whole_shown g.W.Watch.took c.args.trace.now c.args.cycle c.args.most c.loop-commits.commits c.args.parts.now c.loop-commits.parts c.args.stats.now c.loop-commits.stats c.args.watch.now c.loop-commits.watch
          c.loop-commits.invariant.0
          (used_up g.W.Watch.took c.args.trace.now c.args.cycle c.args.most c.loop-commits.commits c.args.parts.now c.loop-commits.parts c.args.stats.now c.loop-commits.stats c.args.watch.now c.loop-commits.watch
          c.loop-commits.invariant.0 all) g' sound st same start h t;
      count = c.loop-commits.invariant.1;
      memory = c.loop-commits.invariant.2;
    }
