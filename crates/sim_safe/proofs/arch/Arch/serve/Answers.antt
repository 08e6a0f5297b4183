use Rattle.std.proofs.Common.{List, subst, sym}
use Rattle.event_trace.specs.declared.trace.Block.{Block}
use Rattle.sim_safe.specs.Step.{AreBlocksReserved}
use Rattle.sim_safe.proofs.Serving.{blocks_kept, same_reserved}
use Rattle.sim_safe.proofs.arch.Arch.serve.Goals as goal

pub write_blocks-requires-clause-held : goal.write_blocks-requires-clause-held
write_blocks-requires-clause-held c =
    subst (λ (bs : List Block). AreBlocksReserved c.write_registers.new.self.pages bs) (sym c.as_slice-3.ensures)
    (blocks_kept c.args.self.now.pages c.write_registers.new.self.pages c.args.r.now.out_blocks (same_reserved c.args.self.now.pages c.write_registers.new.self.pages c.write_registers.ensures.agrees.reserved) c.requires.held)
