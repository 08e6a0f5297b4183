-- the text so far and that of the registers that are left are the text of all
use Rattle.std.proofs.Common.{◌≡◌, ◌++◌, drop}
use Rattle.ss_base.specs.Outside.{BeginsWith}
use Rattle.sim_safe.specs.Commit.{regs_text}
use Rattle.sim_safe.proofs.commit.push_regs.Given as goal

abbrev pub invariant-loop-register : goal.invariant-loop-register
invariant-loop-register l = record {
  text : l.into.items ++ regs_text (drop l.register-index l.regs) ≡ l.fn.into.items ++ regs_text l.regs;
  begins : BeginsWith l.into.items l.fn.into.items;
}
