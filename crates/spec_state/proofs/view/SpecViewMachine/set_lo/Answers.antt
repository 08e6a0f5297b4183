use Rattle.sim_safe.specs.State.{reader_of}
use Rattle.spec_state.proofs.view.SpecViewMachine.set_lo.Goals as goal

pub returns-clause-reads : goal.returns-clause-reads
returns-clause-reads c = c.set_lo.ensures.reads (reader_of c.args.self.now.base.now)
