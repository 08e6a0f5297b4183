use Rattle.std.proofs.Common.{slice_index}
use Rattle.paged_mem.specs.Memory.{byte_of}
use Rattle.event_trace.proofs.ServedRecord.{held_by}
use Rattle.event_trace.proofs.world.World.serve.Goals as goal

pub returns-clause-held : goal.returns-clause-held
returns-clause-held c = held_by c.args.icnt c.args.pc (slice_index c.args.regs.now) (byte_of c.args.mem.now) c.args.self.now c.answer.new.self c.answer.result c.ranges.pc.fits c.fits-regs c.answer.ensures.ok
