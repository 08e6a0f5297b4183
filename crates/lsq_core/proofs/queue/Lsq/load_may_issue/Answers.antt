use Rattle.std.proofs.Common.{◌∙◌, ap}
use Rattle.lsq_core.specs.Queue.{Queue, load_answer}
use Rattle.lsq_core.specs.Slots.{entries_of, answer_for}
use Rattle.lsq_core.proofs.Walks.{load_looks_up}
use Rattle.lsq_core.proofs.queue.Lsq.load_may_issue.Goals as goal

pub returns : goal.returns
returns c =
    c.answer_for.ensures
    ∙ (ap (λ block. answer_for c.args.cycle block c.args.row (entries_of c.self.inside.slots.items)) c.block_of-block.ensures
    ∙ (load_looks_up c.args.cycle c.args.row (entries_of c.self.inside.slots.items)
    ∙ ap (λ (q : Queue). load_answer c.args.cycle c.args.row q.entries) c.self.view_is))
