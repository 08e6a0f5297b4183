-- What is read of a machine with an overlay on it, and which effects an overlay stands for.
use Rattle.std.specs.Prelude.{◌≡◌, ℕ, ◌+◌, ◌/◌, ◌<◌, ◌≤◌, List, [], ◌∷◌, length, Option, None, unwrap_or, slice_index_or}
use Rattle.std.specs.Option.{ForSome}
use Rattle.pisa_step.specs.declared.changes.Changes.{Changes}
use Rattle.pisa_step.specs.declared.changes.MemWrite.{MemWrite}
use Rattle.pisa_step.specs.Reader.{Reader, bytes_with}
use Rattle.pisa_step.specs.Effect.{changed}

-- what was written since the last rollback
pub record Overlaid : Type 0 where
  -- how many effects there may be, and how many there were
  pub size : ℕ
  pub applied : ℕ
  -- writes of memory, the newest first
  pub writes : List MemWrite
  -- registers 1 to 31, HI and LO, each with its newest value where it was written
  pub regs : List (Option ℕ)
  pub hi : Option ℕ
  pub lo : Option ℕ

-- memory with writes over it, the newest first
abbrev pub bytes_over : (ℕ → ℕ) → List MemWrite → ℕ → ℕ
bytes_over bytes [] = bytes
bytes_over bytes (w ∷ older) = bytes_with (bytes_over bytes older) w.addr w.bytes.items

-- registers with written ones over them; register 0 is never written
abbrev pub regs_over : (ℕ → ℕ) → List (Option ℕ) → ℕ → ℕ
regs_over regs written q = unwrap_or (slice_index_or (None ∷ written) q None) (regs q)

-- what is read of a machine with an overlay on it
abbrev pub seen : Reader → Overlaid → Reader
seen s o = record {
  regs = regs_over s.regs o.regs;
  hi = unwrap_or o.hi s.hi;
  lo = unwrap_or o.lo s.lo;
  bytes = bytes_over s.bytes o.writes;
  big = s.big;
}

-- what is read of a copy of a machine after these effects, the newest first
abbrev pub after : Reader → List Changes → Reader
after s [] = s
after s (e ∷ older) = changed (after s older) e

-- an overlay stands for these effects, the newest first: on any machine it reads as a copy with them
pub record StandsFor (o : Overlaid) (effects : List Changes) : Type 0 where
  pub applied : o.applied ≡ length effects
  pub reads : (s : Reader) → seen s o ≡ after s effects

-- on any machine what is read changes in one way, and so many effects are counted
pub record Writes (change : Reader → Reader) (count : ℕ) (old new : Overlaid) : Type 0 where
  pub reads : (s : Reader) → seen s new ≡ change (seen s old)
  pub applied : new.applied ≡ old.applied + count
  pub size : new.size ≡ old.size

-- a range of addresses lies in one aligned block of 8 bytes
abbrev pub IsInBlock : ℕ → ℕ → Type 0
IsInBlock addr len = (a : ℕ) → addr ≤ a → a < addr + len → a / 8 ≡ addr / 8

-- so does the write of an instruction, if it has one
abbrev pub WritesInBlock : Changes → Type 0
WritesInBlock e = ForSome e.mem (λ w. IsInBlock w.addr (length w.bytes.items))

-- another effect may be applied, and the range lies in one block
pub record HasRoom (o : Overlaid) (addr len : ℕ) : Type 0 where
  pub count : o.applied < o.size
  pub block : IsInBlock addr len
