use Rattle.sim_safe.proofs.Records.{record_fits}
use Rattle.sim_safe.proofs.arch.Arch.call.Goals as goal

pub replay-requires-clause-record : goal.replay-requires-clause-record
replay-requires-clause-record c = record_fits c.args.trace.now c.args.self.now.used c.in-Some.r.now c.requires.trace c.if-not-trace.false c.in-Some.ensures.next
