use Rattle.std.proofs.Common.{[]}
use Rattle.machine_agreement.proofs.Started.{started_holds}
use Rattle.machine_agreement.proofs.pairs.started.Goals as goal

pub returns-in-Ok : goal.returns-in-Ok
returns-in-Ok c = started_holds c.args.image [] c.in-Ok.arch c.in-Ok.ensures.state (c.text_stays.ensures.start c.args.image [] c.requires)
