use Rattle.sim_safe.proofs.Records.{record_fits}
use Rattle.sim_safe.proofs.arch.Arch.peek_call.Goals as goal

pub peek_record-requires : goal.peek_record-requires
peek_record-requires c = record_fits c.args.trace.now c.args.self.now.used c.in-Some.r.now c.requires c.if-not-trace.false c.in-Some.ensures.next
