use Rattle.std.proofs.Common.{◌≡◌, drop}
use Rattle.pisa_step.specs.Reader.{Reader, with_regs}
use Rattle.spec_state.specs.Overlay.{seen}
use Rattle.spec_state.proofs.overlay.Overlay.set_regs.Given as goal

-- what is left to be written makes of what is read now what the whole list makes of what was read
abbrev pub invariant-loop-register : goal.invariant-loop-register
invariant-loop-register l = record {
  reads : (s : Reader) → with_regs (seen s l.self) (drop l.register-index l.regs) ≡ with_regs (seen s l.initial.self) l.regs;
  counted : l.self.applied ≡ l.initial.self.applied;
  sized : l.self.size ≡ l.initial.self.size;
}
