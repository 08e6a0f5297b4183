use Rattle.std.proofs.Common.{◌<◌, None, sym, ap, ◌∙◌, subst}
use Rattle.core_recovery.proofs.Named.{recovers_at}
use Rattle.core_events.specs.Recoveries.{squashes_behind}
use Rattle.core_statistics.specs.StageCounts.{with_recovery_of}
use Rattle.watched_stages.specs.Watched.{Shows, completions_above}
use Rattle.watched_stages.proofs.Showing.{shows_both, shows_first}
use Rattle.watched_stages.proofs.Recoveries.{recovering_below, watched_recovery}
use Rattle.watched_stages.proofs.recovering.recover.Goals as goal

pub show_squashes-requires : goal.show_squashes-requires
show_squashes-requires g c =
    λ row e.
    subst (λ n. row < n) (sym c.next_number-next.ensures)
    (recovering_below c.args.cycle c.args.parts.now.unit.last c.args.parts.now.front c.args.parts.now.unit.rows row c.room-room.ensures.rises c.requires.agree.behind (sym c.recover-behind.ensures.row ∙ e))

pub count_recovery-requires : goal.count_recovery-requires
count_recovery-requires g c =
    λ row e.
    subst (λ n. row < n) (sym c.next_number-next.ensures)
    (recovering_below c.args.cycle c.args.parts.now.unit.last c.args.parts.now.front c.args.parts.now.unit.rows row c.room-room.ensures.rises c.requires.agree.behind (sym c.recover-behind.ensures.row ∙ e))

pub count_recovery-requires-in-Err : goal.count_recovery-requires-in-Err
count_recovery-requires-in-Err g c =
    λ row e.
    subst (λ n. row < n) (sym c.next_number-next.ensures)
    (recovering_below c.args.cycle c.args.parts.now.unit.last c.args.parts.now.front c.args.parts.now.unit.rows row c.room-room.ensures.rises c.requires.agree.behind (sym c.recover-behind-in-Err.ensures.row ∙ e))

pub returns-in-Ok-clause-recovers : goal.returns-in-Ok-clause-recovers
returns-in-Ok-clause-recovers g c =
    watched_recovery g.W.Watch.took g.W.Watch.cut c.args.cycle c.args.parts.now c.recover-behind.new.parts c.recover-behind.result c.args.stats.now c.count_recovery.new.stats c.args.watch.now c.show_squashes.new.watch c.show_squashes.result
    (recovers_at c.args.cycle c.args.parts.now c.recover-behind.result c.recover-behind.ensures.row) c.recover-behind.ensures.stands c.recover-behind.ensures.turn
    (c.count_recovery.ensures ∙ ap (λ n. with_recovery_of c.recover-behind.result n c.args.stats.now) c.next_number-next.ensures)
    (shows_both g.W.Watch.took g.W.Watch.cut (completions_above c.args.cycle None c.args.parts.now.unit.rows) (squashes_behind c.args.cycle c.recover-behind.result c.args.parts.now.front.row) c.args.watch.now c.show_completions.new.watch c.show_squashes.new.watch c.show_squashes.result
    c.in-Ok.ensures.took
    (subst (λ n. Shows g.W.Watch.took g.W.Watch.cut (squashes_behind c.args.cycle c.recover-behind.result n) c.show_completions.new.watch c.show_squashes.new.watch c.show_squashes.result) c.next_number-next.ensures c.show_squashes.ensures.took))

pub returns-in-Err-clause-recovers : goal.returns-in-Err-clause-recovers
returns-in-Err-clause-recovers g c =
    watched_recovery g.W.Watch.took g.W.Watch.cut c.args.cycle c.args.parts.now c.recover-behind-in-Err.new.parts c.recover-behind-in-Err.result c.args.stats.now c.count_recovery-in-Err.new.stats c.args.watch.now c.show_completions.new.watch _
    (recovers_at c.args.cycle c.args.parts.now c.recover-behind-in-Err.result c.recover-behind-in-Err.ensures.row) c.recover-behind-in-Err.ensures.stands c.recover-behind-in-Err.ensures.turn
    (c.count_recovery-in-Err.ensures ∙ ap (λ n. with_recovery_of c.recover-behind-in-Err.result n c.args.stats.now) c.next_number-next.ensures)
    (shows_first g.W.Watch.took g.W.Watch.cut (completions_above c.args.cycle None c.args.parts.now.unit.rows) (squashes_behind c.args.cycle c.recover-behind-in-Err.result c.args.parts.now.front.row) c.args.watch.now c.show_completions.new.watch
    c.in-Err.ensures.took)
