-- The states that points hold which were read from bytes.
use Rattle.std.proofs.Common.{◌≡◌, ◌<◌, ◌≤◌, ◌/◌, ◌%◌, ◌^◌, ℕ, zero, suc, Bool, true, false, List, [], ◌∷◌, length, Option, Some, None, Ok, refl, ap, subst, arith, if◌then◌else◌}
use Rattle.std.specs.Prelude.{slice_index, unwrap_or, nat_eq}
use Rattle.std.specs.List.{AllByRecursion, flat_map}
use Rattle.std.specs.Int.{w32, to_le_bytes}
use Rattle.std.proofs.lemmas.Bool.{eqb-true}
use Rattle.ecoff_load.specs.declared.image.Text.{Text}
use Rattle.ecoff_load.specs.Object.{IsText}
use Rattle.event_trace.specs.Grammar.{InTurn}
use Rattle.paged_mem.specs.Memory.{Pages, page_of, byte_of}
use Rattle.checkpoint.specs.State.{PointState}
use Rattle.checkpoint.specs.Grammar.{IsPoint, IsPage, next_page, page_bytes, head_bytes, point_bytes}
use Rattle.checkpoint.specs.Held.{state_held, Fits}
use Rattle.checkpoint.specs.Reading.{checked}
use Rattle.checkpoint.proofs.WholePoint.{is_found}
use Rattle.restarted_run.specs.Within.{IsWithin, HoldsProgram, AreBytes}
use Rattle.restarted_run.proofs.Bytes.{front_bytes, back_bytes, no_bytes}

-- ---- registers

words_below : (xs : List ℕ) → AllByRecursion (λ (x : ℕ). x < 2 ^ 32) xs → (n : ℕ) → slice_index xs n < 2 ^ 32
words_below [] all n = omega arith
words_below (x ∷ xs) all zero = all.0
words_below (x ∷ xs) all (suc n) = words_below xs all.1 n

nothing_behind : (xs : List ℕ) (n : ℕ) → length xs ≤ n → slice_index xs n ≡ 0
nothing_behind [] n h = refl
nothing_behind (x ∷ xs) zero h = absurd (omega (arith, h))
nothing_behind (x ∷ xs) (suc n) h = nothing_behind xs n (omega (arith, h))

-- ---- pages

pages_bytes : (pages : Pages) → AreBytes (flat_map page_bytes pages) → AllByRecursion (λ (p : ℕ × List ℕ). AreBytes p.1) pages
pages_bytes [] h = tt
pages_bytes (p ∷ ps) h = (back_bytes (to_le_bytes w32 p.0) p.1 (front_bytes (page_bytes p) (flat_map page_bytes ps) h), pages_bytes ps (back_bytes (page_bytes p) (flat_map page_bytes ps) h))

page_if : (test : Bool) (bytes : List ℕ) (other : Option (List ℕ)) → AreBytes bytes → AreBytes (unwrap_or other []) → AreBytes (unwrap_or (if test then Some bytes else other) [])
page_if true bytes other h g = h
page_if false bytes other h g = g

found_bytes : (pages : Pages) (number : ℕ) → AllByRecursion (λ (p : ℕ × List ℕ). AreBytes p.1) pages → AreBytes (unwrap_or (page_of pages number) [])
unfolding page_of
found_bytes [] number all = no_bytes
found_bytes (p ∷ ps) number all = page_if (nat_eq number p.0) p.1 (page_of ps number) all.0 (found_bytes ps number all.1)

pub byte_below : (pages : Pages) (a : ℕ) → AllByRecursion (λ (p : ℕ × List ℕ). AreBytes p.1) pages → byte_of pages a < 2 ^ 8
unfolding byte_of
byte_below pages a all = found_bytes pages (a / 4096) all (a % 4096)

none_if : (test : Bool) (number n : ℕ) (bytes : List ℕ) (other : Option (List ℕ)) → nat_eq number n ≡ test → n < 2 ^ 20 → 2 ^ 20 ≤ number → other ≡ None → (if test then Some bytes else other) ≡ None
none_if true number n bytes other is low high e = absurd (omega (arith, eqb-true number n is))
none_if false number n bytes other is low high e = e

none_above : (least : ℕ) (pages : Pages) (number : ℕ) → InTurn IsPage next_page least pages → 2 ^ 20 ≤ number → page_of pages number ≡ None
unfolding page_of
none_above least [] number h high = refl
none_above least (p ∷ ps) number h high = none_if (nat_eq number p.0) number p.0 p.1 (page_of ps number) refl h.0.number high (none_above (next_page p) ps number h.1 high)

byte_above : (least : ℕ) (pages : Pages) (a : ℕ) → InTurn IsPage next_page least pages → 2 ^ 32 ≤ a → byte_of pages a ≡ 0
unfolding byte_of
byte_above least pages a h high = ap (λ (o : Option (List ℕ)). slice_index (unwrap_or o []) (a % 4096)) (none_above least pages (a / 4096) h (omega arith))

-- ---- the states

held_within : (p : PointState) (text : Text) → IsPoint p → AreBytes (point_bytes p) → IsWithin (state_held p text)
held_within p text is h =
    let pages = pages_bytes p.pages (back_bytes (head_bytes p.head (length p.pages)) (flat_map page_bytes p.pages) h) in
    record {
      pc = is.head.pc;
      registers = λ n. words_below (0 ∷ p.head.regs) (omega arith, is.head.regs) n;
      hi = is.head.hi;
      lo = is.head.lo;
      bytes = λ a. byte_below p.pages a pages;
      others = record {
        zero = refl;
        registers = λ n high. nothing_behind (0 ∷ p.head.regs) n (omega (arith, is.head.count, high));
        addresses = λ a high. byte_above 0 p.pages a is.pages high;
      };
      used = is.head.used;
      code = is.head.code;
    }

pub restored_within : (bytes : List ℕ) (p : PointState) (text : Text) → AreBytes bytes → checked bytes ≡ Ok p → IsWithin (state_held p text)
restored_within bytes p text h e =
    let found = is_found bytes (Ok p) h e in
    held_within p text found.0 (subst AreBytes found.1 h)

pub restored_program : (p : PointState) (text : Text) → IsText text → Fits p text → HoldsProgram (state_held p text)
restored_program p text is fits = record { fits = is; order = fits.order; content = fits.content }
