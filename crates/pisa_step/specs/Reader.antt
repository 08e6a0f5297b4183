-- What a machine's registers and memory read, as functions of the number, and what reads after a write.
use Rattle.std.specs.Prelude.{ℕ, ◌+◌, ◌-◌, Bool, List, [], ◌∷◌, length, slice_index, nat_eq, nat_lt, if◌then◌else◌}

pub record Reader : Type 0 where
  -- each general register by its number
  pub regs : ℕ → ℕ
  pub hi : ℕ
  pub lo : ℕ
  -- each byte of memory by its address
  pub bytes : ℕ → ℕ
  -- words and halves have their highest byte first
  pub big : Bool

-- registers after a write of one; register 0 can't be written
abbrev pub regs_with : (ℕ → ℕ) → ℕ → ℕ → ℕ → ℕ
regs_with regs r value q =
    if nat_eq r 0 then regs q else
    if nat_eq q r then value else regs q

-- registers after writes in this order
abbrev pub regs_after : (ℕ → ℕ) → List (ℕ × ℕ) → ℕ → ℕ
regs_after regs [] = regs
regs_after regs (w ∷ rest) = regs_after (regs_with regs w.0 w.1) rest

-- memory after a write of these bytes from an address on
abbrev pub bytes_with : (ℕ → ℕ) → ℕ → List ℕ → ℕ → ℕ
bytes_with bytes addr content a =
    if nat_lt a addr then bytes a else
    if nat_lt a (addr + length content) then slice_index content (a - addr) else bytes a

abbrev pub with_reg : Reader → ℕ → ℕ → Reader
with_reg s r value = record s { regs = regs_with s.regs r value }

abbrev pub with_hi : Reader → ℕ → Reader
with_hi s value = record s { hi = value }

abbrev pub with_lo : Reader → ℕ → Reader
with_lo s value = record s { lo = value }

abbrev pub with_bytes : Reader → ℕ → List ℕ → Reader
with_bytes s addr content = record s { bytes = bytes_with s.bytes addr content }

-- writes of registers in this order
abbrev pub with_regs : Reader → List (ℕ × ℕ) → Reader
with_regs s regs = record s { regs = regs_after s.regs regs }
