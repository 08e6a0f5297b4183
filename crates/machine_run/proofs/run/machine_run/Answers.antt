use Rattle.std.specs.Prelude.{◌≤◌, ◌^◌}
use Rattle.std.proofs.Common.{arith, subst, sym}
use Rattle.sim_safe.specs.State.{state_of}
use Rattle.cut_run.proofs.Rounds.{count_most}
use Rattle.machine_run.specs.declared.timed.Limits.{Limits}
use Rattle.machine_run.specs.Plan.{asked_by}
use Rattle.machine_run.proofs.Whole.{made, cut_in_skip, cut_in_timed, wrote_whole, run_made, limits_for, few_left}
use Rattle.machine_run.proofs.run.machine_run.Goals as goal

-- it was given up in the skipped part
pub returns-in-Err-clause-writes : goal.returns-in-Err-clause-writes
returns-in-Err-clause-writes g c =
    cut_in_skip c.args.config.now c.args.trace.now (state_of c.args.arch) (asked_by c.args.plan.now) g.O.Outside.view c.args.outside.now c.watched_skip.new.outside c.limited-to_skip.result c.in-Err.fault c.limited-to_skip.ensures c.in-Err.ensures.writes

-- what is left to do
pub timed_part-requires-clause-count : goal.timed_part-requires-clause-count
timed_part-requires-clause-count g c =
    let u = state_of c.watched_skip.new.arch in
    let most = count_most c.steps_keep.ensures c.args.trace.now c.limited-to_skip.result (state_of c.args.arch) (state_of c.watched_skip.new.arch) c.in-Ok.ensures.ends.state in
    let few = few_left (state_of c.watched_skip.new.arch) c.ends_early-is_over.result c.in-Ok.skipped.end c.args.plan.now.max_inst c.args.plan.now.max_cycles in (
      omega (arith, most, c.limited-to_skip.ensures, c.requires.count.0),
      subst (λ (l : Limits). l.max_inst ≤ 10 ^ 15) (sym {b = limits_for u c.ends_early-is_over.result c.in-Ok.skipped.end c.args.plan.now.max_inst c.args.plan.now.max_cycles} c.limits-limits.ensures) few,
      subst (λ (l : Limits). l.max_cycles ≤ 10 ^ 13) (sym {b = limits_for u c.ends_early-is_over.result c.in-Ok.skipped.end c.args.plan.now.max_inst c.args.plan.now.max_cycles} c.limits-limits.ensures) c.requires.count.1,
    )

pub returns-in-Ok-timed_part-clause-writes : goal.returns-in-Ok-timed_part-clause-writes
returns-in-Ok-timed_part-clause-writes g c =
    let s = state_of c.args.arch in
    let u = state_of c.watched_skip.new.arch in
    let asked = asked_by c.args.plan.now in
    let m = c.limited-to_skip.result in
    let is = made c.args.config.now c.args.trace.now s asked m u c.in-Ok.skipped.done c.in-Ok.skipped.end c.ends_early-is_over.result c.limits-limits.result c.limited-to_skip.ensures c.in-Ok.ensures.ends.state c.in-Ok.ensures.ends.count c.in-Ok.ensures.ends.end c.ends_early-is_over.ensures c.limits-limits.ensures in
    wrote_whole c.args.config.now c.args.trace.now s asked g.O.Outside.view c.args.outside.now c.watched_skip.new.outside c.timed_part.new.outside m u c.in-Ok.skipped.done c.limits-limits.result is c.in-Ok.ensures.writes c.in-Ok-timed_part.ensures.writes

pub returns-in-Ok-timed_part-clause-comes : goal.returns-in-Ok-timed_part-clause-comes
returns-in-Ok-timed_part-clause-comes g c =
    let s = state_of c.args.arch in
    let u = state_of c.watched_skip.new.arch in
    let asked = asked_by c.args.plan.now in
    let m = c.limited-to_skip.result in
    let is = made c.args.config.now c.args.trace.now s asked m u c.in-Ok.skipped.done c.in-Ok.skipped.end c.ends_early-is_over.result c.limits-limits.result c.limited-to_skip.ensures c.in-Ok.ensures.ends.state c.in-Ok.ensures.ends.count c.in-Ok.ensures.ends.end c.ends_early-is_over.ensures c.limits-limits.ensures in
    run_made c.args.config.now c.args.trace.now s asked m u c.in-Ok.skipped.done c.limits-limits.result c.in-Ok-timed_part.timed is c.in-Ok-timed_part.ensures.comes

pub returns-in-Err-timed_part-clause-writes : goal.returns-in-Err-timed_part-clause-writes
returns-in-Err-timed_part-clause-writes g c =
    let s = state_of c.args.arch in
    let u = state_of c.watched_skip.new.arch in
    let asked = asked_by c.args.plan.now in
    let m = c.limited-to_skip.result in
    let is = made c.args.config.now c.args.trace.now s asked m u c.in-Ok.skipped.done c.in-Ok.skipped.end c.ends_early-is_over.result c.limits-limits.result c.limited-to_skip.ensures c.in-Ok.ensures.ends.state c.in-Ok.ensures.ends.count c.in-Ok.ensures.ends.end c.ends_early-is_over.ensures c.limits-limits.ensures in
    cut_in_timed c.args.config.now c.args.trace.now s asked g.O.Outside.view c.args.outside.now c.watched_skip.new.outside c.timed_part.new.outside m u c.in-Ok.skipped.done c.limits-limits.result c.in-Err-timed_part.fault is c.in-Ok.ensures.writes c.in-Err-timed_part.ensures.writes
