use Rattle.std.proofs.Common.{length}
use Rattle.sim_safe.specs.State.{reader_of}
use Rattle.spec_state.proofs.Blocks.{block_is_short}
use Rattle.spec_state.proofs.view.SpecViewMachine.set_bytes.Goals as goal

pub returns-clause-reads : goal.returns-clause-reads
returns-clause-reads c = c.set_bytes.ensures.reads (reader_of c.args.self.now.base.now)

pub set_bytes-requires-clause-short : goal.set_bytes-requires-clause-short
set_bytes-requires-clause-short c = block_is_short c.args.addr (length c.args.bytes.now) c.requires.room.block
