use Rattle.ooo_front.proofs.Calls.{put_sound}
use Rattle.ooo_front.proofs.front.Front.put.Goals as goal

pub invariant_of-self : goal.invariant_of-self
invariant_of-self c =
    put_sound c.self.inside.queue c.try_push_back.new.self c.self.inside.width c.self.inside.row c.self.inside.pc c.self.inside.earliest c.self.inside.cycle
    c.earliest_after-self-inside.result c.args.row c.args.self.now c.self.view_is c.self.invariant c.in-Ok.ensures.ok c.earliest_after-self-inside.ensures
    c.requires.room c.requires.next c.requires.early
