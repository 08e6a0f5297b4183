use Rattle.sim_safe.specs.State.{state_of}
use Rattle.cut_run.specs.Parts.{point_of_part}
use Rattle.cut_run.specs.Comes.{asked_by}
use Rattle.cut_run.proofs.Rounds.{count_most}
use Rattle.cut_run.proofs.Whole.{made, most_left, wrote_front, cut_in_front, wrote_whole, cut_in_timed}
use Rattle.cut_run.proofs.cut.cut_run.Goals as goal

pub returns-in-Ok-None-clause-writes : goal.returns-in-Ok-None-clause-writes
returns-in-Ok-None-clause-writes g c =
    let short = rw c.in-Ok-None.field-0-is at c.in-Ok-None.ensures.comes in
    wrote_front g.O.Outside.view c.args.outside.now c.skip_part.new.outside c.args.trace.now (state_of c.args.arch.now) (asked_by c.args.plan.now) c.limited-to_skip.result (point_of_part c.skipped_point-point.result) c.limited-to_skip.ensures c.skipped_point-point.ensures short c.in-Ok-None.ensures.writes

pub returns-in-Err-clause-writes : goal.returns-in-Err-clause-writes
returns-in-Err-clause-writes g c =
    cut_in_front g.O.Outside.view c.args.outside.now c.skip_part.new.outside c.args.trace.now (state_of c.args.arch.now) (asked_by c.args.plan.now) c.limited-to_skip.result (point_of_part c.skipped_point-point.result) c.in-Err.fault c.limited-to_skip.ensures c.skipped_point-point.ensures c.in-Err.ensures.writes

pub timed_part-requires-clause-count : goal.timed_part-requires-clause-count
timed_part-requires-clause-count g c =
    let s = state_of c.args.arch.now in
    let u = state_of c.skip_part.new.arch in
    let skipped = rw c.in-Ok-Some.field-0-is at c.in-Ok-Some.ensures.comes in
    let most = count_most c.steps_keep.ensures c.args.trace.now c.limited-to_skip.result s u skipped.run.state in
    most_left c.limited-to_skip.result c.args.plan.now.skip s u c.ends_early-is_over.result c.left_to_do-to_do.result c.args.plan.now.most c.limited-to_skip.ensures most c.requires.count c.left_to_do-to_do.ensures

pub returns-then-is_over-clause-writes : goal.returns-then-is_over-clause-writes
returns-then-is_over-clause-writes g c =
    let v = g.O.Outside.view in
    let trace = c.args.trace.now in
    let s = state_of c.args.arch.now in
    let u = state_of c.skip_part.new.arch in
    let asked = asked_by c.args.plan.now in
    let m = c.limited-to_skip.result in
    let p = point_of_part c.skipped_point-point.result in
    let n = c.left_to_do-to_do.result in
    let q = point_of_part c.timed_point-point.result in
    let skipped = rw c.in-Ok-Some.field-0-is at c.in-Ok-Some.ensures.comes in
    let is = made trace s asked m p u c.in-Ok-Some.skipped.done c.ends_early-is_over.result n q c.limited-to_skip.ensures c.skipped_point-point.ensures skipped.run.state skipped.run.count c.ends_early-is_over.ensures c.left_to_do-to_do.ensures c.timed_point-point.ensures in
    wrote_whole v c.args.outside.now c.skip_part.new.outside c.timed_part.new.outside trace s asked m p u n q is skipped.fits c.in-Ok-Some.ensures.writes c.in-Ok-Some-timed_part.ensures.writes

pub returns-else-is_over-clause-writes : goal.returns-else-is_over-clause-writes
returns-else-is_over-clause-writes g c =
    let v = g.O.Outside.view in
    let trace = c.args.trace.now in
    let s = state_of c.args.arch.now in
    let u = state_of c.skip_part.new.arch in
    let asked = asked_by c.args.plan.now in
    let m = c.limited-to_skip.result in
    let p = point_of_part c.skipped_point-point.result in
    let n = c.left_to_do-to_do.result in
    let q = point_of_part c.timed_point-point.result in
    let skipped = rw c.in-Ok-Some.field-0-is at c.in-Ok-Some.ensures.comes in
    let is = made trace s asked m p u c.in-Ok-Some.skipped.done c.ends_early-is_over.result n q c.limited-to_skip.ensures c.skipped_point-point.ensures skipped.run.state skipped.run.count c.ends_early-is_over.ensures c.left_to_do-to_do.ensures c.timed_point-point.ensures in
    wrote_whole v c.args.outside.now c.skip_part.new.outside c.timed_part.new.outside trace s asked m p u n q is skipped.fits c.in-Ok-Some.ensures.writes c.in-Ok-Some-timed_part.ensures.writes

pub returns-in-Ok-None-timed_part-clause-writes : goal.returns-in-Ok-None-timed_part-clause-writes
returns-in-Ok-None-timed_part-clause-writes g c =
    let v = g.O.Outside.view in
    let trace = c.args.trace.now in
    let s = state_of c.args.arch.now in
    let u = state_of c.skip_part.new.arch in
    let asked = asked_by c.args.plan.now in
    let m = c.limited-to_skip.result in
    let p = point_of_part c.skipped_point-point.result in
    let n = c.left_to_do-to_do.result in
    let q = point_of_part c.timed_point-point.result in
    let skipped = rw c.in-Ok-Some.field-0-is at c.in-Ok-Some.ensures.comes in
    let is = made trace s asked m p u c.in-Ok-Some.skipped.done c.ends_early-is_over.result n q c.limited-to_skip.ensures c.skipped_point-point.ensures skipped.run.state skipped.run.count c.ends_early-is_over.ensures c.left_to_do-to_do.ensures c.timed_point-point.ensures in
    wrote_whole v c.args.outside.now c.skip_part.new.outside c.timed_part.new.outside trace s asked m p u n q is skipped.fits c.in-Ok-Some.ensures.writes c.in-Ok-None-timed_part.ensures.writes

pub returns-in-Err-timed_part-clause-writes : goal.returns-in-Err-timed_part-clause-writes
returns-in-Err-timed_part-clause-writes g c =
    let v = g.O.Outside.view in
    let trace = c.args.trace.now in
    let s = state_of c.args.arch.now in
    let u = state_of c.skip_part.new.arch in
    let asked = asked_by c.args.plan.now in
    let m = c.limited-to_skip.result in
    let p = point_of_part c.skipped_point-point.result in
    let n = c.left_to_do-to_do.result in
    let q = point_of_part c.timed_point-point.result in
    let skipped = rw c.in-Ok-Some.field-0-is at c.in-Ok-Some.ensures.comes in
    let is = made trace s asked m p u c.in-Ok-Some.skipped.done c.ends_early-is_over.result n q c.limited-to_skip.ensures c.skipped_point-point.ensures skipped.run.state skipped.run.count c.ends_early-is_over.ensures c.left_to_do-to_do.ensures c.timed_point-point.ensures in
    cut_in_timed v c.args.outside.now c.skip_part.new.outside c.timed_part.new.outside trace s asked m p u n q c.in-Err-timed_part.fault is skipped.fits c.in-Ok-Some.ensures.writes c.in-Err-timed_part.ensures.writes
