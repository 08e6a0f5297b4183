use Rattle.spec_state.proofs.Over.{writes_in_order}
use Rattle.spec_state.proofs.overlay.Overlay.apply.Goals as goal

pub returns : goal.returns
returns c =
    writes_in_order c.args.self.now c.apply_write.new.self c.apply_hi.new.self c.apply_lo.new.self c.set_regs.new.self c.args.e.now c.as_slice.result.now c.as_slice.ensures.value c.apply_write.ensures c.apply_hi.ensures c.apply_lo.ensures c.set_regs.ensures
