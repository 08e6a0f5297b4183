-- Where there is room for a write.
use Rattle.std.specs.Prelude.{◌≡◌, ◌+◌, ◌<◌, ◌≤◌, ◌⊎◌, ℕ, Bool, true, false, length, max, nat_lt}
use Rattle.std.specs.Option.{ForSome}
use Rattle.std.proofs.lemmas.Bool.{ltb-true, ltb-false}
use Rattle.pisa_step.specs.declared.changes.Changes.{Changes}
use Rattle.pisa_step.specs.Proper.{IsProper}
use Rattle.std.proofs.Common.{refl, arith, inl, inr}
use Rattle.std.proofs.lemmas.Bool.Decides.{nat_tests}
use Rattle.ecoff_load.specs.declared.image.Text.{Text}
use Rattle.pisa_step.specs.Memory.{meets}
use Rattle.paged_mem.specs.Memory.{IsRangeReserved}
use Rattle.sim_safe.specs.State.{Storage, range_of, IsOutside, HasRoom}

outside : (start end addr len a : ℕ) → meets (record { start = start; end = end }) addr len ≡ false → addr ≤ a → a < addr + len → (a < start) ⊎ (end ≤ a)
outside start end addr len a misses = grind (arith, nat_tests)

-- a range that doesn't meet text lies outside
pub is_outside : (text : Text) (addr len : ℕ) → meets (range_of text) addr len ≡ false → IsOutside text addr len
is_outside text addr len misses a = outside text.start (text.start + length text.bytes) addr len a misses

inside : (start end addr len : ℕ) → meets (record { start = start; end = end }) addr len ≡ true → (max addr start < start) ⊎ (end ≤ max addr start) → ⊥
inside start end addr len meet = grind (arith, nat_tests)

at_least : (addr start : ℕ) → addr ≤ max addr start
at_least addr start = omega arith

below_end : (start end addr len : ℕ) → meets (record { start = start; end = end }) addr len ≡ true → max addr start < addr + len
below_end start end addr len meet = grind (arith, nat_tests)

-- and one that meets it doesn't
pub not_outside : (text : Text) (addr len : ℕ) → meets (range_of text) addr len ≡ true → IsOutside text addr len → ⊥
not_outside text addr len meet out =
    inside text.start (text.start + length text.bytes) addr len meet
    (out (max addr text.start) (at_least addr text.start) (below_end text.start (text.start + length text.bytes) addr len meet))

pub no_room : (m : Storage) (addr len : ℕ) → meets (range_of m.text) addr len ≡ true → HasRoom m addr len → ⊥
no_room m addr len meet room = not_outside m.text addr len meet room.outside

pub has_room : (m : Storage) (addr len : ℕ) → meets (range_of m.text) addr len ≡ false → IsRangeReserved m.pages addr len → HasRoom m addr len
has_room m addr len misses held = record { reserved = held; outside = is_outside m.text addr len misses }

cases_of : (a start end : ℕ) (below : Bool) → nat_lt a start ≡ below → (start ≤ a → end ≤ a) → (a < start) ⊎ (end ≤ a)
cases_of a start end true is h = inl (ltb-true a start is)
cases_of a start end false is h = inr (h (ltb-false a start is))

-- there is room for a write that an instruction makes, in reserved pages
pub proper_room : (m : Storage) (e : Changes) → IsProper (range_of m.text) e → ForSome e.mem (λ w. IsRangeReserved m.pages w.addr (length w.bytes.items)) → ForSome e.mem (λ w. HasRoom m w.addr (length w.bytes.items))
proper_room m e proper held = λ w is. record {
  reserved = held w is;
  outside = λ a low high. cases_of a m.text.start (m.text.start + length m.text.bytes) (nat_lt a m.text.start) refl (proper.outside w is a low high);
}
