use Rattle.lsq_core.proofs.Rises.{retire_rises, retire_returns}
use Rattle.lsq_core.proofs.queue.Lsq.retire.Goals as goal

pub invariant_of-self : goal.invariant_of-self
invariant_of-self c = retire_rises c.self.inside.slots c.pop_front-oldest.new.self c.self.inside.last c.self.invariant c.pop_front-oldest.ensures.items

pub returns : goal.returns
returns c = retire_returns c.self.inside.slots c.pop_front-oldest.new.self c.args.self.now c.self.inside.last c.self.view_is c.pop_front-oldest.ensures.items
