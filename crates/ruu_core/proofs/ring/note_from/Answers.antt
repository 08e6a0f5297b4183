use Rattle.std.proofs.Common.{◌∙◌, ◌++◌, ap, sym, take, drop, arith}
use Rattle.std.specs.Prelude.{map}
use Rattle.circular_buffer.specs.Buffer.{buffer}
use Rattle.ruu_core.proofs.Walks.{step_all}
use Rattle.ruu_core.proofs.Places.{start_there}
use Rattle.ruu_core.proofs.Stays.{after_from}
use Rattle.ruu_core.proofs.ring.note_from.Goals as goal

pub loop-at-init : goal.loop-at-init
loop-at-init c =
    ap (λ l. buffer l c.args.slots.now.capacity) (start_there c.args.row c.args.event.now c.args.slots.now.items)
    ∙ ap (λ n. buffer (map (after_from c.args.row c.args.event.now) (take n c.args.slots.now.items) ++ drop n c.args.slots.now.items) c.args.slots.now.capacity) (sym c.place_of-from.ensures)

pub loop-at-preserved : goal.loop-at-preserved
loop-at-preserved c =
    step_all (after_from c.args.row c.args.event.now) c.args.slots.now c.loop-at.slots c.note_from_at.new.slots c.loop-at.at (omega arith) c.loop-at.invariant c.note_from_at.ensures
