-- What is read of a view, and what stays.
use Rattle.std.specs.Prelude.{◌≡◌, ℕ}
use Rattle.pisa_step.specs.Reader.{Reader}
use Rattle.sim_safe.specs.State.{reader_of}
use Rattle.spec_state.specs.declared.view.SpecView.{SpecView}
use Rattle.spec_state.specs.Overlay.{seen}

-- the state that the view lies on, under its overlay
abbrev pub view_of : SpecView → Reader
view_of v = seen (reader_of v.base.now) v.over.now

-- how many effects were applied since the last rollback
abbrev pub applied_in : SpecView → ℕ
applied_in v = v.over.now.applied

-- two views lie on the same state, and have one overlay of the same size
pub record Agrees (a b : SpecView) : Type 0 where
  pub base : b.base.now ≡ a.base.now
  pub over : b.over.ghost_name ≡ a.over.ghost_name
  pub size : b.over.now.size ≡ a.over.now.size
