use Rattle.std.proofs.Common.{sym}
use Rattle.ruu_core.specs.Window.{may_access}
use Rattle.ruu_core.proofs.LawProofs.{answers_the_least}
use Rattle.ruu_core.proofs.tests.reads.Goals as goal

pub access-requires-clause-ready : goal.access-requires-clause-ready
access-requires-clause-ready c =
    ((answers_the_least (may_access c.args.cycle) c.before-2.result c.args.unit.now c.room-room.ensures.rises).found c.in-Some.found (sym c.in-Some.ensures)).1
