use Rattle.ooo_front.proofs.Calls.{pop_sound}
use Rattle.ooo_front.proofs.front.Front.pop.Goals as goal

pub invariant_of-self : goal.invariant_of-self
invariant_of-self c =
    pop_sound c.self.inside.queue c.pop_front.new.self c.self.inside.width c.self.inside.row c.self.inside.pc c.self.inside.earliest c.self.inside.cycle c.self.invariant c.pop_front.ensures.items
