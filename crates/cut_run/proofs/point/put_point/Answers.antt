use Rattle.std.proofs.Common.{◌∙◌}
use Rattle.journal.specs.Laws.{cut_none}
use Rattle.sim_safe.specs.State.{state_of}
use Rattle.cut_run.specs.Parts.{point_writes}
use Rattle.cut_run.proofs.Points.{held, is_large, is_small, nothing_wrote, point_wrote, point_cut}
use Rattle.cut_run.proofs.point.put_point.Goals as goal

pub returns-in_default-clause-writes : goal.returns-in_default-clause-writes
returns-in_default-clause-writes g c = cut_none g.O.Outside.view c.args.outside.now (point_writes (state_of c.args.arch.now) c.args.file.now)

pub returns-then-page_count-gt-MOST_PAGES-clause-large :
    goal.returns-then-page_count-gt-MOST_PAGES-clause-large
returns-then-page_count-gt-MOST_PAGES-clause-large g c =
    is_large c.args.arch.now c.in-Ok.point c.page_count.result c.in-Ok.ensures (held _ c.in-Ok.point c.point.view_is c.point.invariant).0 (held _ c.in-Ok.point c.point.view_is c.point.invariant).1 c.page_count.ensures c.if-page_count-gt-MOST_PAGES.true

pub returns-then-page_count-gt-MOST_PAGES-clause-writes :
    goal.returns-then-page_count-gt-MOST_PAGES-clause-writes
returns-then-page_count-gt-MOST_PAGES-clause-writes g c =
    let large = is_large c.args.arch.now c.in-Ok.point c.page_count.result c.in-Ok.ensures (held _ c.in-Ok.point c.point.view_is c.point.invariant).0 (held _ c.in-Ok.point c.point.view_is c.point.invariant).1 c.page_count.ensures c.if-page_count-gt-MOST_PAGES.true in
    nothing_wrote g.O.Outside.view c.args.outside.now (state_of c.args.arch.now) c.args.file.now large

pub returns-in_default-write-clause-writes : goal.returns-in_default-write-clause-writes
returns-in_default-write-clause-writes g c = cut_none g.O.Outside.view c.args.outside.now (point_writes (state_of c.args.arch.now) c.args.file.now)

pub returns-in-Ok-append-clause-large : goal.returns-in-Ok-append-clause-large
returns-in-Ok-append-clause-large g c =
    is_small c.args.arch.now c.in-Ok.point c.page_count.result c.in-Ok.ensures (held _ c.in-Ok.point c.point.view_is c.point.invariant).0 (held _ c.in-Ok.point c.point.view_is c.point.invariant).1 c.page_count.ensures c.if-page_count-gt-MOST_PAGES.false

pub returns-in-Ok-append-clause-writes : goal.returns-in-Ok-append-clause-writes
returns-in-Ok-append-clause-writes g c =
    let m = c.args.arch.now in
    let p = c.in-Ok.point in
    let small = is_small m p c.page_count.result c.in-Ok.ensures (held _ c.in-Ok.point c.point.view_is c.point.invariant).0 (held _ c.in-Ok.point c.point.view_is c.point.invariant).1 c.page_count.ensures c.if-page_count-gt-MOST_PAGES.false in
    point_wrote g.O.Outside.view c.args.outside.now c.append.new.self m p c.args.file.now c.as_slice.result.now c.in-Ok.ensures (held _ c.in-Ok.point c.point.view_is c.point.invariant).0 (held _ c.in-Ok.point c.point.view_is c.point.invariant).1 (c.as_slice.ensures.value ∙ c.in-Ok-write.ensures.bytes) small c.in-Ok-append.ensures

pub returns-clause-writes : goal.returns-clause-writes
returns-clause-writes g c =
    let m = c.args.arch.now in
    let p = c.in-Ok.point in
    let small = is_small m p c.page_count.result c.in-Ok.ensures (held _ c.in-Ok.point c.point.view_is c.point.invariant).0 (held _ c.in-Ok.point c.point.view_is c.point.invariant).1 c.page_count.ensures c.if-page_count-gt-MOST_PAGES.false in
    point_cut g.O.Outside.view c.args.outside.now c.append.new.self m p c.args.file.now c.as_slice.result.now c.in-Err.fault c.in-Ok.ensures (held _ c.in-Ok.point c.point.view_is c.point.invariant).0 (held _ c.in-Ok.point c.point.view_is c.point.invariant).1 (c.as_slice.ensures.value ∙ c.in-Ok-write.ensures.bytes) small c.in-Err.ensures
