-- Bytes of a range, written page by page.
use Rattle.std.proofs.Common.{◌≡◌, ℕ, ◌+◌, ◌*◌, ◌/◌, ◌%◌, ◌<◌, ◌≤◌, List, length, ◌++◌, sym, ◌∙◌, ap, refl, arith, length-append}
use Rattle.paged_mem.specs.Memory.{Pages, byte_of, is_reserved, IsReserved, IsRangeReserved, overlaid}
use Rattle.paged_mem.proofs.Overlaid.{overlaid-append, overlaid-none}

-- what is left to be written, from `at` on, makes of the memory what the whole write makes of the old one
pub record Writing (old now : Pages) (address : ℕ) (bytes : List ℕ) (at : ℕ) (rest : List ℕ) : Type 0 where
  pub goal : overlaid (byte_of now) at rest ≡ overlaid (byte_of old) address bytes
  pub pages : is_reserved now ≡ is_reserved old
  pub low : address ≤ at
  pub high : at + length rest ≡ address + length bytes

pub writing_start : (memory : Pages) (address : ℕ) (bytes : List ℕ) → Writing memory memory address bytes address bytes
writing_start memory address bytes = record { goal = refl; pages = refl; low = omega arith; high = refl }

-- the page where the rest begins is reserved
pub held_at : (old now : Pages) (address : ℕ) (bytes : List ℕ) (at : ℕ) (rest : List ℕ) → Writing old now address bytes at rest → IsRangeReserved old address (length bytes) → 0 < length rest → IsReserved now (at / 4096)
held_at old now address bytes at rest w held some =
    let low : address ≤ at = w.low in
    let high : at < address + length bytes = omega (arith, w.high) in
    ap (λ f. f (at / 4096)) w.pages ∙ held (at / 4096) (at, low, high, refl)

pub writing_next : (old now new : Pages) (address : ℕ) (bytes : List ℕ) (at : ℕ) (rest here later : List ℕ) → Writing old now address bytes at rest → here ++ later ≡ rest → byte_of new ≡ overlaid (byte_of now) (4096 * (at / 4096) + at % 4096) here → is_reserved new ≡ is_reserved now → Writing old new address bytes (at + length here) later
writing_next old now new address bytes at rest here later w parts written same =
    let place : 4096 * (at / 4096) + at % 4096 ≡ at = omega arith in
    let whole : length here + length later ≡ length rest = sym (length-append here later) ∙ ap length parts in
    record {
      goal = ap (λ f. overlaid f (at + length here) later) (written ∙ ap (λ a. overlaid (byte_of now) a here) place) ∙ overlaid-append (byte_of now) at here later ∙ ap (overlaid (byte_of now) at) parts ∙ w.goal;
      pages = same ∙ w.pages;
      low = omega (arith, w.low);
      high = omega (arith, w.high);
    }

pub writing_end : (old now : Pages) (address : ℕ) (bytes : List ℕ) (at : ℕ) (rest : List ℕ) → Writing old now address bytes at rest → length rest ≡ 0 → byte_of now ≡ overlaid (byte_of old) address bytes
writing_end old now address bytes at rest w none = sym (overlaid-none (byte_of now) at rest none) ∙ w.goal
