use Rattle.std.proofs.Common.{◌≡◌, ◌∙◌, true, ap, sym, subst}
use Rattle.ruu_core.specs.Window.{is_by, written_of}
use Rattle.lsq_core.specs.Queue.{Queue, holds_store}
use Rattle.core_recovery.specs.Recovery.{address_noted, data_noted}
use Rattle.core_recovery.proofs.Learns.{still_held}
use Rattle.core_recovery.proofs.learn.learn_store.Goals as goal

pub note_data-requires : goal.note_data-requires
note_data-requires c =
    subst (λ (q : Queue). holds_store c.args.row q.entries ≡ true) (sym c.note_address.ensures)
    (still_held c.args.row c.args.row c.args.cycle c.is_by-known.result c.args.queue.now c.requires.held)

pub returns : goal.returns
returns c =
    c.note_data.ensures
    ∙ (ap (λ q. data_noted c.data_done-done.result c.args.row c.args.cycle q) c.note_address.ensures
    ∙ (ap (λ b. data_noted c.data_done-done.result c.args.row c.args.cycle (address_noted b c.args.row c.args.cycle c.args.queue.now)) (c.is_by-known.ensures ∙ ap (is_by c.args.cycle) c.written_at.ensures)
    ∙ ap (λ d. data_noted d c.args.row c.args.cycle (address_noted (is_by c.args.cycle (written_of c.args.row c.args.unit.now.rows)) c.args.row c.args.cycle c.args.queue.now)) c.data_done-done.ensures))
