use Rattle.std.specs.Prelude.{[], Ok, Err, unwrap_or}
use Rattle.std.proofs.Common.{refl, ap, ◌∙◌, subst, ◌≡◌}
use Rattle.core_watch.specs.Shown.{behind}
use Rattle.core_statistics.specs.declared.stats.CoreStats.{CoreStats}
use Rattle.shown_run.specs.Headline.{shown_in, cycles_taken}
use Rattle.machine_watch.specs.Watch.{Pending, names_of, pending_of, Taken, CutByKept}
use Rattle.machine_watch.specs.Laws.{taken_none}
use Rattle.machine_run.specs.Timed.{timed_finish, timed_word}
use Rattle.machine_run.proofs.Watched.{watch_cut, watch_wants, watch_finished, was_cut, where_cut, cycles_counted}
use Rattle.machine_run.proofs.timed.observe.Goals as goal

-- the watch couldn't go on
pub returns-in-Err-Watch-clause-same : goal.returns-in-Err-Watch-clause-same
returns-in-Err-Watch-clause-same g c =
    let run = c.requires.some.0 in
    let k = rw c.in-Err-Watch.field-0-is at ((c.in-Err-Watch.ensures.run c.requires.some.0 c.requires.some.1 c.requires.some.2 c.requires.some.3).shown c.args.watch.now [] (record { outside_same = refl; names = refl; taken = taken_none g.O.Outside.view (names_of c.args.watch.now) c.args.watch.now.outside.now (pending_of c.args.watch.now) })) in
    where_cut (was_cut g.O.Outside.view) c.args.watch.now c.timed_run.new.watch (shown_in run (timed_finish run c.args.limits.now)) [] k (c.timed_run.new.watch.outside.ghost_name ≡ c.args.watch.now.outside.ghost_name)
    (λ front q. q.outside_same)

pub returns-in-Err-Watch-clause-writes : goal.returns-in-Err-Watch-clause-writes
returns-in-Err-Watch-clause-writes g c = λ run sound trace stands.
    let v = g.O.Outside.view in
    let names = names_of c.args.watch.now in
    let a = c.args.watch.now.outside.now in
    let b = c.timed_run.new.watch.outside.now in
    let now = pending_of c.timed_run.new.watch in
    let xs = shown_in run (timed_finish run c.args.limits.now) in
    let cycles = cycles_taken run (timed_finish run c.args.limits.now) in
    let end = timed_word run c.args.limits.now in
    let k = rw c.in-Err-Watch.field-0-is at ((c.in-Err-Watch.ensures.run run sound trace stands).shown c.args.watch.now [] (record { outside_same = refl; names = refl; taken = taken_none g.O.Outside.view (names_of c.args.watch.now) c.args.watch.now.outside.now (pending_of c.args.watch.now) })) in
    watch_cut v names a b xs cycles end (was_cut g.O.Outside.view) c.args.watch.now c.timed_run.new.watch c.timed_run.new.watch.fault c.in-Err-Watch.fault c.unwrap_or.result k
    (λ front q. subst (λ (p : Pending). CutByKept v names a p front c.timed_run.new.watch.fault b) c.requires.pending q.cut) c.unwrap_or.ensures

-- memory was wanted
pub returns-in-Err-OutOfMemory-clause-same : goal.returns-in-Err-OutOfMemory-clause-same
returns-in-Err-OutOfMemory-clause-same g c =
    let t = rw c.in-Err-OutOfMemory.field-0-is at ((c.in-Err-OutOfMemory.ensures.run c.requires.some.0 c.requires.some.1 c.requires.some.2 c.requires.some.3).shown c.args.watch.now [] (record { outside_same = refl; names = refl; taken = taken_none g.O.Outside.view (names_of c.args.watch.now) c.args.watch.now.outside.now (pending_of c.args.watch.now) })) in
    t.3.outside_same

pub returns-in-Err-OutOfMemory-clause-writes : goal.returns-in-Err-OutOfMemory-clause-writes
returns-in-Err-OutOfMemory-clause-writes g c = λ run sound trace stands.
    let v = g.O.Outside.view in
    let names = names_of c.args.watch.now in
    let a = c.args.watch.now.outside.now in
    let b = c.timed_run.new.watch.outside.now in
    let now = pending_of c.timed_run.new.watch in
    let xs = shown_in run (timed_finish run c.args.limits.now) in
    let cycles = cycles_taken run (timed_finish run c.args.limits.now) in
    let end = timed_word run c.args.limits.now in
    let t = rw c.in-Err-OutOfMemory.field-0-is at ((c.in-Err-OutOfMemory.ensures.run run sound trace stands).shown c.args.watch.now [] (record { outside_same = refl; names = refl; taken = taken_none g.O.Outside.view (names_of c.args.watch.now) c.args.watch.now.outside.now (pending_of c.args.watch.now) })) in
    watch_wants v names a b xs cycles end now t.0 t.1 t.2 (subst (λ (p : Pending). Taken v names a p (behind t.0 []) b now) c.requires.pending t.3.taken)

-- the run came to its end
pub returns-in-Ok-finish-clause-same : goal.returns-in-Ok-finish-clause-same
returns-in-Ok-finish-clause-same g c =
    let t = (c.in-Ok.ensures.run c.requires.some.0 c.requires.some.1 c.requires.some.2 c.requires.some.3).shown c.args.watch.now [] (record { outside_same = refl; names = refl; taken = taken_none g.O.Outside.view (names_of c.args.watch.now) c.args.watch.now.outside.now (pending_of c.args.watch.now) }) in
    c.in-Ok-finish.ensures.same ∙ t.outside_same

pub returns-in-Ok-finish-clause-writes : goal.returns-in-Ok-finish-clause-writes
returns-in-Ok-finish-clause-writes g c = λ run sound trace stands.
    let v = g.O.Outside.view in
    let names = names_of c.args.watch.now in
    let a = c.args.watch.now.outside.now in
    let b = c.timed_run.new.watch.outside.now in
    let now = pending_of c.timed_run.new.watch in
    let xs = shown_in run (timed_finish run c.args.limits.now) in
    let cycles = cycles_taken run (timed_finish run c.args.limits.now) in
    let end = timed_word run c.args.limits.now in
    let part = c.in-Ok.ensures.run run sound trace stands in
    let t = part.shown c.args.watch.now [] (record { outside_same = refl; names = refl; taken = taken_none g.O.Outside.view (names_of c.args.watch.now) c.args.watch.now.outside.now (pending_of c.args.watch.now) }) in
    let taken = subst (λ (p : Pending). Taken v names a p (behind xs []) b now) c.requires.pending t.taken in
    let within = (c.runs_keep_the_headline.ensures run c.args.limits.now.max_inst c.args.limits.now.max_cycles sound).within.1 in
    let counted = ap (λ (o : CoreStats). o.cycles) c.stats-cycles.ensures ∙ cycles_counted run (timed_finish run c.args.limits.now) c.args.limits.now.max_cycles c.timed_run.new.core.stats part.ends.stats within c.requires.ready.3 in
    let is = c.unwrap_or-end.ensures ∙ ap (unwrap_or c.args.limits.now.over) part.ends.word_is in
    watch_finished v names a b xs cycles end {T = Unit {0}} c.finish.new.self.outside.now (names_of c.timed_run.new.watch) now c.stats-cycles.result.cycles c.unwrap_or-end.result (Ok tt) t.names counted is taken c.in-Ok-finish.ensures.writes

pub returns-in-Err-clause-same : goal.returns-in-Err-clause-same
returns-in-Err-clause-same g c =
    let t = (c.in-Ok.ensures.run c.requires.some.0 c.requires.some.1 c.requires.some.2 c.requires.some.3).shown c.args.watch.now [] (record { outside_same = refl; names = refl; taken = taken_none g.O.Outside.view (names_of c.args.watch.now) c.args.watch.now.outside.now (pending_of c.args.watch.now) }) in
    c.in-Err.ensures.same ∙ t.outside_same

pub returns-in-Err-clause-writes : goal.returns-in-Err-clause-writes
returns-in-Err-clause-writes g c = λ run sound trace stands.
    let v = g.O.Outside.view in
    let names = names_of c.args.watch.now in
    let a = c.args.watch.now.outside.now in
    let b = c.timed_run.new.watch.outside.now in
    let now = pending_of c.timed_run.new.watch in
    let xs = shown_in run (timed_finish run c.args.limits.now) in
    let cycles = cycles_taken run (timed_finish run c.args.limits.now) in
    let end = timed_word run c.args.limits.now in
    let part = c.in-Ok.ensures.run run sound trace stands in
    let t = part.shown c.args.watch.now [] (record { outside_same = refl; names = refl; taken = taken_none g.O.Outside.view (names_of c.args.watch.now) c.args.watch.now.outside.now (pending_of c.args.watch.now) }) in
    let taken = subst (λ (p : Pending). Taken v names a p (behind xs []) b now) c.requires.pending t.taken in
    let within = (c.runs_keep_the_headline.ensures run c.args.limits.now.max_inst c.args.limits.now.max_cycles sound).within.1 in
    let counted = ap (λ (o : CoreStats). o.cycles) c.stats-cycles.ensures ∙ cycles_counted run (timed_finish run c.args.limits.now) c.args.limits.now.max_cycles c.timed_run.new.core.stats part.ends.stats within c.requires.ready.3 in
    let is = c.unwrap_or-end.ensures ∙ ap (unwrap_or c.args.limits.now.over) part.ends.word_is in
    watch_finished v names a b xs cycles end {T = Unit {0}} c.finish.new.self.outside.now (names_of c.timed_run.new.watch) now c.stats-cycles.result.cycles c.unwrap_or-end.result (Err c.in-Err.fault) t.names counted is taken c.in-Err.ensures.writes
