use Rattle.std.proofs.Common.{◌∙◌, sym, refl}
use Rattle.core_commit.proofs.Due.{due_leaves}
use Rattle.core_commit.proofs.turn.take_turn.Goals as goal

-- the oldest row leaves
pub returns : goal.returns
returns c = (
  due_leaves c.args.cycle c.args.commits c.args.parts.now c.retire-station.result (sym c.is_due.ensures ∙ c.if-not-is_due.false) c.retire-station.ensures.station,
  record {
    same = refl;
    unit = c.retire-station.ensures.rows;
    queue = c.leave_queue.ensures.queue;
    addresses = c.leave_queue.ensures.addresses;
    refers = c.refer.ensures;
    teaches = c.teach.ensures.teaches;
    cells = c.teach.ensures.cells;
  },
)
