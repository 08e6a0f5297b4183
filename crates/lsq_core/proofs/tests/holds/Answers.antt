use Rattle.std.proofs.Common.{◌∙◌, ap}
use Rattle.lsq_core.specs.Queue.{Queue}
use Rattle.lsq_core.specs.Slots.{holds_of}
use Rattle.lsq_core.proofs.tests.holds.Goals as goal

pub returns : goal.returns
returns c = c.is_among.ensures ∙ ap (λ (q : Queue). holds_of c.args.store c.args.row q.entries) c.queue.view_is
