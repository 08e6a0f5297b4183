use Rattle.std.proofs.Common.{refl}
use Rattle.spec_state.proofs.Over.{seen_bare}
use Rattle.spec_state.proofs.overlay.Overlay.new.Goals as goal

pub returns-clause-nothing : goal.returns-clause-nothing
returns-clause-nothing c = record {
  applied = refl;
  reads = λ s. seen_bare s c.args.size 0 c.in_ok-with_capacity.field-0.items c.in_ok-with_capacity.ensures.items;
}
