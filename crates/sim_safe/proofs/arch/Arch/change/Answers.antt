use Rattle.sim_safe.proofs.Rooms.{proper_room}
use Rattle.sim_safe.proofs.arch.Arch.change.Goals as goal

pub apply-requires-clause-room : goal.apply-requires-clause-room
apply-requires-clause-room c = proper_room c.args.self.now c.args.e.now c.requires.proper c.requires.held
