use Rattle.std.proofs.Common.{refl}
use Rattle.spec_state.proofs.Over.{seen_bare}
use Rattle.spec_state.proofs.overlay.Overlay.rollback.Goals as goal

pub returns-clause-nothing : goal.returns-clause-nothing
returns-clause-nothing c = record {
  applied = refl;
  reads = λ s. seen_bare s c.self.inside.size 0 c.clear.new.self.items c.clear.ensures.items;
}
