use Rattle.std.proofs.Common.{sym}
use Rattle.ruu_core.specs.Window.{is_ready}
use Rattle.ruu_core.proofs.LawProofs.{answers_the_least}
use Rattle.ruu_core.proofs.tests.issues.Goals as goal

pub issue-requires-clause-ready : goal.issue-requires-clause-ready
issue-requires-clause-ready c =
    ((answers_the_least (is_ready c.args.cycle) c.before-2.result c.args.unit.now c.room-room.ensures.rises).found c.in-Some.found (sym c.in-Some.ensures)).1
