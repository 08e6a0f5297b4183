-- A program's text stands in memory at its start.
use Rattle.std.specs.Prelude.{◌≡◌, ℕ, List}
use Rattle.std.proofs.Common.{sym, subst}
use Rattle.ecoff_load.specs.declared.image.Image.{Image}
use Rattle.sim_safe.specs.State.{State, Storage, HoldsText, state_of, start_state}
use Rattle.plain_machine.specs.Fits.{HoldsItsText}

pub started_holds : (image : Image) (args : List (List ℕ)) (m : Storage) → state_of m ≡ start_state image args → HoldsText (start_state image args).reads.bytes image.text → HoldsItsText m
unfolding start_state
started_holds image args m e h = subst (λ (s : State). HoldsText s.reads.bytes s.text) (sym e) h
