use Rattle.std.specs.Prelude.{not, ℕ, ◌+◌, ◌-◌}
use Rattle.std.proofs.Common.{arith, refl, ap, ◌∙◌}
use Rattle.journal.specs.Write.{Journal}
use Rattle.sim_safe.specs.State.{State, state_of}
use Rattle.sim_safe.specs.Run.{items_count}
use Rattle.sim_watch.specs.Skip.{skip_journal}
use Rattle.cut_run.proofs.Rounds.{cut_first, cut_point, cut_behind, wrote_round, count_most, some_left, part_skipped, skipped_end, skipped_same}
use Rattle.cut_run.proofs.skipped.skip_round.Goals as goal

pub returns-in-Err-clause-writes : goal.returns-in-Err-clause-writes
returns-in-Err-clause-writes g c =
    let v = g.O.Outside.view in
    let a = c.args.outside.now in
    let writes : ℕ → State → Journal = (skip_journal c.args.trace.now) in
    let trace = c.args.trace.now in
    let n = c.args.n in
    let k = c.args.point.at in
    let s = state_of c.args.arch.now in
    let file = c.args.point.file.now in
    cut_first v a c.watched_skip.new.outside writes trace n k s file c.in-Err.fault c.in-Err.ensures.writes

pub put_point-requires : goal.put_point-requires
put_point-requires g c =
    let most = count_most c.steps_keep.ensures c.args.trace.now c.args.point.at (state_of c.args.arch.now) (state_of c.watched_skip.new.arch) c.in-Ok.ensures.ends.state in
    omega (arith, most, c.requires.count, c.requires.within)

pub returns-in-Err-put_point-clause-writes : goal.returns-in-Err-put_point-clause-writes
returns-in-Err-put_point-clause-writes g c =
    let v = g.O.Outside.view in
    let a = c.args.outside.now in
    let writes : ℕ → State → Journal = (skip_journal c.args.trace.now) in
    let trace = c.args.trace.now in
    let n = c.args.n in
    let k = c.args.point.at in
    let s = state_of c.args.arch.now in
    let file = c.args.point.file.now in
    let t = state_of c.watched_skip.new.arch in
    let b = c.watched_skip.new.outside in
    cut_point v a b c.put_point.new.outside writes trace n k s t file c.in-Err-put_point.fault c.in-Ok.ensures.ends.state c.in-Ok.ensures.writes c.in-Err-put_point.ensures.writes

pub watched_skip-requires-2-clause-count : goal.watched_skip-requires-2-clause-count
watched_skip-requires-2-clause-count g c =
    let most = count_most c.steps_keep.ensures c.args.trace.now c.args.point.at (state_of c.args.arch.now) (state_of c.watched_skip.new.arch) c.in-Ok.ensures.ends.state in
    omega (arith, most, c.requires.count, c.requires.within)

pub returns-in-Err-watched_skip-clause-writes : goal.returns-in-Err-watched_skip-clause-writes
returns-in-Err-watched_skip-clause-writes g c =
    let v = g.O.Outside.view in
    let a = c.args.outside.now in
    let writes : ℕ → State → Journal = (skip_journal c.args.trace.now) in
    let trace = c.args.trace.now in
    let n = c.args.n in
    let k = c.args.point.at in
    let s = state_of c.args.arch.now in
    let file = c.args.point.file.now in
    let t = state_of c.watched_skip.new.arch in
    let b = c.watched_skip.new.outside in
    cut_behind v a b c.put_point.new.outside c.watched_skip-2.new.outside writes trace n k s t file c.in-Err-watched_skip.fault c.in-Ok.ensures.ends.state (c.in-Ok-true.ensures.large ∙ ap not c.in-Ok-true.field-0-test) c.in-Ok.ensures.writes c.in-Ok-true.ensures.writes c.in-Err-watched_skip.ensures.writes

pub overflow_add-done : goal.overflow_add-done
overflow_add-done g c =
    let one = c.in-Ok.ensures.ends.count in
    let two = c.in-Ok-watched_skip.ensures.ends.count in
    let s = state_of c.args.arch.now in
    let t = state_of c.watched_skip.new.arch in
    omega (arith, one, two, items_count c.args.trace.now c.args.point.at s, items_count c.args.trace.now (c.args.n - c.args.point.at) t, c.requires.count, c.requires.within)

pub returns-then-left-eq0-clause-writes : goal.returns-then-left-eq0-clause-writes
returns-then-left-eq0-clause-writes g c =
    let v = g.O.Outside.view in
    let a = c.args.outside.now in
    let writes : ℕ → State → Journal = (skip_journal c.args.trace.now) in
    let trace = c.args.trace.now in
    let n = c.args.n in
    let k = c.args.point.at in
    let s = state_of c.args.arch.now in
    let file = c.args.point.file.now in
    let t = state_of c.watched_skip.new.arch in
    let b = c.watched_skip.new.outside in
    wrote_round v a b c.put_point.new.outside c.watched_skip-2.new.outside writes trace n k s t file c.in-Ok.ensures.ends.state (c.in-Ok-true.ensures.large ∙ ap not c.in-Ok-true.field-0-test) c.in-Ok.ensures.writes c.in-Ok-true.ensures.writes c.in-Ok-watched_skip.ensures.writes

pub returns-then-left-eq0-clause-comes : goal.returns-then-left-eq0-clause-comes
returns-then-left-eq0-clause-comes g c =
    let v = g.O.Outside.view in
    let a = c.args.outside.now in
    let writes : ℕ → State → Journal = (skip_journal c.args.trace.now) in
    let trace = c.args.trace.now in
    let n = c.args.n in
    let k = c.args.point.at in
    let s = state_of c.args.arch.now in
    let file = c.args.point.file.now in
    let t = state_of c.watched_skip.new.arch in
    let b = c.watched_skip.new.outside in
    let u = state_of c.watched_skip-2.new.arch in
    part_skipped c.runs_go_on.ensures trace n k s t u file c.in-Ok.first c.in-Ok-watched_skip.rest c.in-Ok.first.end (c.in-Ok.first.done + c.in-Ok-watched_skip.rest.done) c.requires.within (c.in-Ok-true.ensures.large ∙ ap not c.in-Ok-true.field-0-test) c.in-Ok.ensures.ends c.in-Ok-watched_skip.ensures.ends refl (skipped_same trace n k s t c.in-Ok.first c.requires.within c.in-Ok.ensures.ends c.if-left-eq0.true)

pub returns-else-left-eq0-clause-writes : goal.returns-else-left-eq0-clause-writes
returns-else-left-eq0-clause-writes g c =
    let v = g.O.Outside.view in
    let a = c.args.outside.now in
    let writes : ℕ → State → Journal = (skip_journal c.args.trace.now) in
    let trace = c.args.trace.now in
    let n = c.args.n in
    let k = c.args.point.at in
    let s = state_of c.args.arch.now in
    let file = c.args.point.file.now in
    let t = state_of c.watched_skip.new.arch in
    let b = c.watched_skip.new.outside in
    wrote_round v a b c.put_point.new.outside c.watched_skip-2.new.outside writes trace n k s t file c.in-Ok.ensures.ends.state (c.in-Ok-true.ensures.large ∙ ap not c.in-Ok-true.field-0-test) c.in-Ok.ensures.writes c.in-Ok-true.ensures.writes c.in-Ok-watched_skip.ensures.writes

pub returns-else-left-eq0-clause-comes : goal.returns-else-left-eq0-clause-comes
returns-else-left-eq0-clause-comes g c =
    let v = g.O.Outside.view in
    let a = c.args.outside.now in
    let writes : ℕ → State → Journal = (skip_journal c.args.trace.now) in
    let trace = c.args.trace.now in
    let n = c.args.n in
    let k = c.args.point.at in
    let s = state_of c.args.arch.now in
    let file = c.args.point.file.now in
    let t = state_of c.watched_skip.new.arch in
    let b = c.watched_skip.new.outside in
    let u = state_of c.watched_skip-2.new.arch in
    part_skipped c.runs_go_on.ensures trace n k s t u file c.in-Ok.first c.in-Ok-watched_skip.rest c.in-Ok-watched_skip.rest.end (c.in-Ok.first.done + c.in-Ok-watched_skip.rest.done) c.requires.within (c.in-Ok-true.ensures.large ∙ ap not c.in-Ok-true.field-0-test) c.in-Ok.ensures.ends c.in-Ok-watched_skip.ensures.ends refl (skipped_end c.runs_go_on.ensures trace n k s t u c.in-Ok.first c.in-Ok-watched_skip.rest c.requires.within c.in-Ok.ensures.ends c.in-Ok-watched_skip.ensures.ends (some_left n k c.if-left-eq0.false))
