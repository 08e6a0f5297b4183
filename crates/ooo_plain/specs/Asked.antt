-- How often the hierarchy was asked, and of what.
use Rattle.std.specs.Prelude.{ℕ, ◌+◌, ◌≤◌, Bool, List, ◌∷◌, if◌then◌else◌}
use Rattle.mem_hier.specs.Replay.{Reference}
use Rattle.mem_hier.specs.Stands.{Held, last_cycle_of, references_of}

-- it got at most so many references, none of a later cycle
pub record Asked (old new : Held) (cycle count : ℕ) : Type 0 where
  pub last : last_cycle_of new ≤ cycle
  pub references : references_of new ≤ references_of old + count

-- a forwarded access makes no reference
abbrev pub referred_if : Bool → Reference → List Reference → List Reference
referred_if forwarded r h = if forwarded then h else r ∷ h
