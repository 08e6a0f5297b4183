use Rattle.lsq_core.proofs.Rises.{squash_rises, squash_returns}
use Rattle.lsq_core.proofs.queue.Lsq.squash_after.Goals as goal

pub invariant_of-self : goal.invariant_of-self
invariant_of-self c = squash_rises c.self.inside.slots c.truncate_back.new.self c.self.inside.last c.args.row c.count_up_to-count.result c.self.invariant c.count_up_to-count.ensures.entries c.truncate_back.ensures

pub returns : goal.returns
returns c = squash_returns c.self.inside.slots c.truncate_back.new.self c.args.self.now c.self.inside.last c.args.row c.count_up_to-count.result c.self.view_is c.self.invariant c.count_up_to-count.ensures.entries c.truncate_back.ensures
