-- What holds of the changes of every instruction, so that they can be made.
use Rattle.std.specs.Prelude.{ℕ, ◌+◌, ◌<◌, ◌≤◌, ◌^◌, List, [], ◌∷◌, All, length}
use Rattle.std.specs.Option.{ForSome}
use Rattle.pisa_step.specs.declared.changes.Changes.{Changes}
use Rattle.pisa_step.specs.declared.changes.TextRange.{TextRange}

-- the register numbers are above one number and below 32, and rise
abbrev pub IsRising : ℕ → List (ℕ × ℕ) → Type 0
IsRising above [] = Unit {0}
IsRising above (w ∷ rest) = (above < w.0) × (w.0 < 32) × IsRising w.0 rest

-- registers but 0 are written, in rising order; the write ends at or below 2^32, and none of its
-- bytes lies in text
pub record IsProper (text : TextRange) (e : Changes) : Type 0 where
  pub rising : IsRising 0 e.regs.items
  pub registers : All (λ w. w.0 < 32) e.regs.items
  pub range : ForSome e.mem (λ w. w.addr + length w.bytes.items ≤ 2 ^ 32)
  pub outside : ForSome e.mem (λ w. (a : ℕ) → w.addr ≤ a → a < w.addr + length w.bytes.items → text.start ≤ a → text.end ≤ a)
