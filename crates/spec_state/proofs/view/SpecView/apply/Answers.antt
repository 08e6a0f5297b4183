use Rattle.std.proofs.Common.{length}
use Rattle.sim_safe.specs.State.{reader_of}
use Rattle.spec_state.proofs.Blocks.{block_is_short}
use Rattle.spec_state.proofs.view.SpecView.apply.Goals as goal

pub apply-requires-clause-short : goal.apply-requires-clause-short
apply-requires-clause-short c = λ w is. block_is_short w.addr (length w.bytes.items) (c.requires.block w is)

pub returns-clause-reads : goal.returns-clause-reads
returns-clause-reads c = c.apply.ensures.reads (reader_of c.args.self.now.base.now)
