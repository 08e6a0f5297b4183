use Rattle.std.specs.Prelude.{not, ℕ, ◌-◌}
use Rattle.std.specs.Option.{option_copied}
use Rattle.std.proofs.Common.{arith, subst, ap, sym, ◌∙◌}
use Rattle.journal.specs.Write.{Journal}
use Rattle.sim_safe.specs.State.{State, state_of}
use Rattle.sim_safe.specs.Run.{items_of}
use Rattle.sim_safe.specs.Statistics.{IsCountable}
use Rattle.sim_watch.specs.Watch.{run_journal}
use Rattle.cut_run.proofs.Rounds.{cut_first, cut_point, cut_behind, wrote_round, count_most, some_left, countable, part_timed, timed_end, timed_same}
use Rattle.cut_run.proofs.timed.time_round.Goals as goal

pub returns-in-Err-clause-writes : goal.returns-in-Err-clause-writes
returns-in-Err-clause-writes g c =
    let v = g.O.Outside.view in
    let a = c.args.outside.now in
    let writes : ℕ → State → Journal = (λ k t. run_journal (option_copied c.args.commits) (items_of c.args.trace.now k t)) in
    let trace = c.args.trace.now in
    let n = c.args.n in
    let k = c.args.point.at in
    let s = state_of c.args.arch.now in
    let file = c.args.point.file.now in
    cut_first v a c.watched_run.new.outside writes trace n k s file c.in-Err.fault c.in-Err.ensures.writes

pub put_point-requires : goal.put_point-requires
put_point-requires g c =
    let most = count_most c.steps_keep.ensures c.args.trace.now c.args.point.at (state_of c.args.arch.now) (state_of c.watched_run.new.arch) c.in-Ok.ensures.ends.state in
    omega (arith, most, c.requires.count, c.requires.within)

pub returns-in-Err-put_point-clause-writes : goal.returns-in-Err-put_point-clause-writes
returns-in-Err-put_point-clause-writes g c =
    let v = g.O.Outside.view in
    let a = c.args.outside.now in
    let writes : ℕ → State → Journal = (λ k t. run_journal (option_copied c.args.commits) (items_of c.args.trace.now k t)) in
    let trace = c.args.trace.now in
    let n = c.args.n in
    let k = c.args.point.at in
    let s = state_of c.args.arch.now in
    let file = c.args.point.file.now in
    let t = state_of c.watched_run.new.arch in
    let b = c.watched_run.new.outside in
    cut_point v a b c.put_point.new.outside writes trace n k s t file c.in-Err-put_point.fault c.in-Ok.ensures.ends.state c.in-Ok.ensures.writes c.in-Err-put_point.ensures.writes

pub watched_run-requires-2-clause-count : goal.watched_run-requires-2-clause-count
watched_run-requires-2-clause-count g c =
    let most = count_most c.steps_keep.ensures c.args.trace.now c.args.point.at (state_of c.args.arch.now) (state_of c.watched_run.new.arch) c.in-Ok.ensures.ends.state in
    omega (arith, most, c.requires.count, c.requires.within)

pub returns-in-Err-watched_run-clause-writes : goal.returns-in-Err-watched_run-clause-writes
returns-in-Err-watched_run-clause-writes g c =
    let v = g.O.Outside.view in
    let a = c.args.outside.now in
    let writes : ℕ → State → Journal = (λ k t. run_journal (option_copied c.args.commits) (items_of c.args.trace.now k t)) in
    let trace = c.args.trace.now in
    let n = c.args.n in
    let k = c.args.point.at in
    let s = state_of c.args.arch.now in
    let file = c.args.point.file.now in
    let t = state_of c.watched_run.new.arch in
    let b = c.watched_run.new.outside in
    cut_behind v a b c.put_point.new.outside c.watched_run-2.new.outside writes trace n k s t file c.in-Err-watched_run.fault c.in-Ok.ensures.ends.state (c.in-Ok-true.ensures.large ∙ ap not c.in-Ok-true.field-0-test) c.in-Ok.ensures.writes c.in-Ok-true.ensures.writes c.in-Err-watched_run.ensures.writes

pub returns-then-left-eq0-clause-writes : goal.returns-then-left-eq0-clause-writes
returns-then-left-eq0-clause-writes g c =
    let v = g.O.Outside.view in
    let a = c.args.outside.now in
    let writes : ℕ → State → Journal = (λ k t. run_journal (option_copied c.args.commits) (items_of c.args.trace.now k t)) in
    let trace = c.args.trace.now in
    let n = c.args.n in
    let k = c.args.point.at in
    let s = state_of c.args.arch.now in
    let file = c.args.point.file.now in
    let t = state_of c.watched_run.new.arch in
    let b = c.watched_run.new.outside in
    wrote_round v a b c.put_point.new.outside c.watched_run-2.new.outside writes trace n k s t file c.in-Ok.ensures.ends.state (c.in-Ok-true.ensures.large ∙ ap not c.in-Ok-true.field-0-test) c.in-Ok.ensures.writes c.in-Ok-true.ensures.writes c.in-Ok-watched_run.ensures.writes

pub returns-then-left-eq0-clause-comes : goal.returns-then-left-eq0-clause-comes
returns-then-left-eq0-clause-comes g c =
    let v = g.O.Outside.view in
    let a = c.args.outside.now in
    let writes : ℕ → State → Journal = (λ k t. run_journal (option_copied c.args.commits) (items_of c.args.trace.now k t)) in
    let trace = c.args.trace.now in
    let n = c.args.n in
    let k = c.args.point.at in
    let s = state_of c.args.arch.now in
    let file = c.args.point.file.now in
    let t = state_of c.watched_run.new.arch in
    let b = c.watched_run.new.outside in
    let u = state_of c.watched_run-2.new.arch in
    part_timed c.runs_go_on.ensures trace n k s t u file c.in-Ok.first c.in-Ok-watched_run.rest c.in-Ok.first.end c.joined-statistics.result c.requires.within (c.in-Ok-true.ensures.large ∙ ap not c.in-Ok-true.field-0-test) c.in-Ok.ensures.ends c.in-Ok-watched_run.ensures.ends c.joined-statistics.ensures (timed_same trace n k s t c.in-Ok.first c.requires.within c.in-Ok.ensures.ends c.if-left-eq0.true)

pub returns-else-left-eq0-clause-writes : goal.returns-else-left-eq0-clause-writes
returns-else-left-eq0-clause-writes g c =
    let v = g.O.Outside.view in
    let a = c.args.outside.now in
    let writes : ℕ → State → Journal = (λ k t. run_journal (option_copied c.args.commits) (items_of c.args.trace.now k t)) in
    let trace = c.args.trace.now in
    let n = c.args.n in
    let k = c.args.point.at in
    let s = state_of c.args.arch.now in
    let file = c.args.point.file.now in
    let t = state_of c.watched_run.new.arch in
    let b = c.watched_run.new.outside in
    wrote_round v a b c.put_point.new.outside c.watched_run-2.new.outside writes trace n k s t file c.in-Ok.ensures.ends.state (c.in-Ok-true.ensures.large ∙ ap not c.in-Ok-true.field-0-test) c.in-Ok.ensures.writes c.in-Ok-true.ensures.writes c.in-Ok-watched_run.ensures.writes

pub returns-else-left-eq0-clause-comes : goal.returns-else-left-eq0-clause-comes
returns-else-left-eq0-clause-comes g c =
    let v = g.O.Outside.view in
    let a = c.args.outside.now in
    let writes : ℕ → State → Journal = (λ k t. run_journal (option_copied c.args.commits) (items_of c.args.trace.now k t)) in
    let trace = c.args.trace.now in
    let n = c.args.n in
    let k = c.args.point.at in
    let s = state_of c.args.arch.now in
    let file = c.args.point.file.now in
    let t = state_of c.watched_run.new.arch in
    let b = c.watched_run.new.outside in
    let u = state_of c.watched_run-2.new.arch in
    part_timed c.runs_go_on.ensures trace n k s t u file c.in-Ok.first c.in-Ok-watched_run.rest c.in-Ok-watched_run.rest.end c.joined-statistics.result c.requires.within (c.in-Ok-true.ensures.large ∙ ap not c.in-Ok-true.field-0-test) c.in-Ok.ensures.ends c.in-Ok-watched_run.ensures.ends c.joined-statistics.ensures (timed_end c.runs_go_on.ensures trace n k s t u c.in-Ok.first c.in-Ok-watched_run.rest c.requires.within c.in-Ok.ensures.ends c.in-Ok-watched_run.ensures.ends (some_left n k c.if-left-eq0.false))

pub joined-statistics-requires : goal.joined-statistics-requires
joined-statistics-requires g c =
    let trace = c.args.trace.now in
    let k = c.args.point.at in
    let first = countable trace k (state_of c.args.arch.now) (omega (arith, c.requires.count, c.requires.within)) in
    let rest = countable trace (c.args.n - k) (state_of c.watched_run.new.arch) (omega (arith, c.requires.count, c.requires.within)) in
    (subst IsCountable (sym c.in-Ok.ensures.ends.statistics) first, subst IsCountable (sym c.in-Ok-watched_run.ensures.ends.statistics) rest)
