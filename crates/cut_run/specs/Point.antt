-- The point of a state: what is kept of it in a file.
use Rattle.std.specs.Prelude.{◌≡◌, ◌≤◌, ◌+◌, ◌*◌, ◌^◌, ℕ, zero, suc, Bool, false, List, [], ◌∷◌, length, not, ◌||◌, nat_eq, if◌then◌else◌}
use Rattle.paged_mem.specs.Memory.{Pages}
use Rattle.sim_safe.specs.State.{State}
use Rattle.checkpoint.specs.State.{PointState}

-- what a function gives from a number on, so many times
unfoldable pub listed : (ℕ → ℕ) → (count from : ℕ) → List ℕ
listed f zero from = []
listed f (suc more) from = f from ∷ listed f more (from + 1)

-- some byte isn't 0
abbrev pub has_some : List ℕ → Bool
has_some [] = false
has_some (byte ∷ bytes) = not (nat_eq byte 0) || has_some bytes

-- the bytes of a page of memory
abbrev pub page_at : (ℕ → ℕ) → ℕ → List ℕ
page_at memory number = listed memory 4096 (4096 * number)

-- so many pages from a number on, of which those are kept that have a byte other than 0
unfoldable pub pages_from : (ℕ → ℕ) → (count number : ℕ) → Pages
pages_from memory zero number = []
pages_from memory (suc more) number =
    if has_some (page_at memory number) then (number, page_at memory number) ∷ pages_from memory more (number + 1) else pages_from memory more (number + 1)

-- a point of version 2
unfoldable pub point_of : State → PointState
point_of s = record {
  head = record {
    version = 2;
    big = s.reads.big;
    icnt = s.icnt;
    pc = s.pc;
    regs = listed s.reads.regs 31 1;
    hi = s.reads.hi;
    lo = s.reads.lo;
    used = s.used;
    ended = s.ended;
    text_start = s.text.start;
    text_length = length s.text.bytes;
  };
  pages = pages_from s.reads.bytes (2 ^ 20) 0;
}

-- a point has at most so many pages
abbrev pub most_pages : ℕ
most_pages = 65536

-- registers and memory have no other places: register 0 is 0, there are 32 registers, and addresses are below 2^32
pub record HasNoOthers (s : State) : Type 0 where
  pub zero : s.reads.regs 0 ≡ 0
  pub registers : (n : ℕ) → 32 ≤ n → s.reads.regs n ≡ 0
  pub addresses : (a : ℕ) → 2 ^ 32 ≤ a → s.reads.bytes a ≡ 0
