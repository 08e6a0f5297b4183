use Rattle.std.proofs.Common.{◌∙◌, ap, refl}
use Rattle.lsq_core.specs.Queue.{Queue, is_above}
use Rattle.lsq_core.proofs.Rises.{add_rises}
use Rattle.lsq_core.proofs.queue.Lsq.add.Goals as goal

pub invariant_of-self : goal.invariant_of-self
invariant_of-self c =
    let above = ap (λ (q : Queue). is_above q.last c.args.row) c.self.view_is ∙ c.requires.rises in
    add_rises c.self.inside.slots c.try_push_back.new.self c.self.inside.last c.args.row _ refl c.self.invariant above c.in-Ok.ensures.ok
