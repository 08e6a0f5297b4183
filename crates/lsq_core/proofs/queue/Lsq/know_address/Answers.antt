use Rattle.lsq_core.proofs.Rises.{address_rises, address_returns}
use Rattle.lsq_core.proofs.Places.{rows_rise}
use Rattle.lsq_core.proofs.queue.Lsq.know_address.Goals as goal

pub learn-requires : goal.learn-requires
learn-requires c = rows_rise c.self.inside.last c.self.inside.slots.items c.self.invariant

pub invariant_of-self : goal.invariant_of-self
invariant_of-self c = address_rises c.self.inside.slots c.learn.new.slots c.self.inside.last c.args.row c.args.cycle c.self.invariant c.learn.ensures

pub returns : goal.returns
returns c = address_returns c.self.inside.slots c.learn.new.slots c.args.self.now c.self.inside.last c.args.row c.args.cycle c.self.view_is c.learn.ensures
