use Rattle.core_dispatch.proofs.Entry.{number_of}
use Rattle.core_dispatch.proofs.enter.leave_front.Goals as goal

pub returns-clause-number : goal.returns-clause-number
returns-clause-number c = number_of c.args.front.now c.pop.new.self c.pop.result c.pop.ensures c.head-head.ensures.path
