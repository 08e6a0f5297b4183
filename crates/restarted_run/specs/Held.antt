-- A point that holds the state of which it was taken, as a file.
use Rattle.std.specs.Prelude.{◌≡◌, Ok}
use Rattle.sim_safe.specs.State.{State}
use Rattle.checkpoint.specs.Grammar.{point_bytes}
use Rattle.checkpoint.specs.Held.{state_held, fit}
use Rattle.checkpoint.specs.Reading.{checked}
use Rattle.cut_run.specs.Point.{point_of}

-- the bytes of a state's point are read as that point, it belongs to the program's object, and what is restored from it is the state
pub record HoldsState (s : State) : Type 0 where
  pub read : checked (point_bytes (point_of s)) ≡ Ok (point_of s)
  pub fits : fit (point_of s) s.text ≡ Ok tt
  pub state : state_held (point_of s) s.text ≡ s
