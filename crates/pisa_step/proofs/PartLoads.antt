-- Two part loads at the ends of a word give the word.
use Rattle.std.proofs.Common.{◌≡◌, ◌+◌, ◌-◌, ◌%◌, ◌<◌, ◌^◌, ℕ, zero, suc, true, false, refl, sym, ap, subst, arith, ◌∙◌}
use Rattle.pisa_step.specs.declared.action.Side.{Side}
use Rattle.pisa_step.specs.declared.action.Side.TheVariants as side
use Rattle.pisa_step.specs.Reader.{Reader}
use Rattle.pisa_step.specs.Memory.{over_low, over_high, part_loaded, part_loaded_at, word_at, word_in}

-- the bytes c0 to c7 of two words of memory, the second behind the first: the part of the first is
-- loaded, and then that of the second, for a word that begins at each place of the first
module _ (c0 c1 c2 c3 c4 c5 c6 c7 old : ℕ) (h0 : c0 < 256) (h1 : c1 < 256) (h2 : c2 < 256) (h3 : c3 < 256) (h4 : c4 < 256) (h5 : c5 < 256) (h6 : c6 < 256) (h7 : c7 < 256) (h : old < 4294967296) where
  little_0 : over_low 0 (word_in false c0 c1 c2 c3) (over_high 0 (word_in false c0 c1 c2 c3) old) ≡ word_in false c0 c1 c2 c3
  little_0 = omega arith

  big_0 : over_high 0 (word_in true c0 c1 c2 c3) (over_low 0 (word_in true c0 c1 c2 c3) old) ≡ word_in true c0 c1 c2 c3
  big_0 = omega arith

  little_1 : over_low 3 (word_in false c4 c5 c6 c7) (over_high 1 (word_in false c0 c1 c2 c3) old) ≡ word_in false c1 c2 c3 c4
  little_1 = omega arith

  big_1 : over_high 3 (word_in true c4 c5 c6 c7) (over_low 1 (word_in true c0 c1 c2 c3) old) ≡ word_in true c1 c2 c3 c4
  big_1 = omega arith

  little_2 : over_low 2 (word_in false c4 c5 c6 c7) (over_high 2 (word_in false c0 c1 c2 c3) old) ≡ word_in false c2 c3 c4 c5
  little_2 = omega arith

  big_2 : over_high 2 (word_in true c4 c5 c6 c7) (over_low 2 (word_in true c0 c1 c2 c3) old) ≡ word_in true c2 c3 c4 c5
  big_2 = omega arith

  little_3 : over_low 1 (word_in false c4 c5 c6 c7) (over_high 3 (word_in false c0 c1 c2 c3) old) ≡ word_in false c3 c4 c5 c6
  little_3 = omega arith

  big_3 : over_high 1 (word_in true c4 c5 c6 c7) (over_low 3 (word_in true c0 c1 c2 c3) old) ≡ word_in true c3 c4 c5 c6
  big_3 = omega arith

-- a part load, where the addresses of its word's bytes are known by other terms
loaded_as : (t : Reader) (part : Side) (a old place x0 x1 x2 x3 : ℕ) → a % 4 ≡ place → a - a % 4 ≡ x0 → a - a % 4 + 1 ≡ x1 → a - a % 4 + 2 ≡ x2 → a - a % 4 + 3 ≡ x3 → part_loaded_at part t a old ≡ part_loaded part t.big place (word_in t.big (t.bytes x0) (t.bytes x1) (t.bytes x2) (t.bytes x3)) old
loaded_as t part a old place x0 x1 x2 x3 p e0 e1 e2 e3 =
    let w = a - a % 4 in
    let f : ℕ → ℕ = t.bytes in
    ap (λ y. part_loaded part t.big y (word_in t.big (f w) (f (w + 1)) (f (w + 2)) (f (w + 3))) old) p
    ∙ ap (λ y. part_loaded part t.big place (word_in t.big (f y) (f (w + 1)) (f (w + 2)) (f (w + 3))) old) e0
    ∙ ap (λ y. part_loaded part t.big place (word_in t.big (f x0) (f y) (f (w + 2)) (f (w + 3))) old) e1
    ∙ ap (λ y. part_loaded part t.big place (word_in t.big (f x0) (f x1) (f y) (f (w + 3))) old) e2
    ∙ ap (λ y. part_loaded part t.big place (word_in t.big (f x0) (f x1) (f x2) (f y)) old) e3

module _ (regs : ℕ → ℕ) (hi lo : ℕ) (f : ℕ → ℕ) (a old : ℕ) (small : (k : ℕ) → f k < 256) (below : old < 4294967296) where
  abbrev little_machine : Reader
  little_machine = record { regs = regs; hi = hi; lo = lo; bytes = f; big = false }

  little_by : (place : ℕ) → a % 4 ≡ place → part_loaded_at side.Left little_machine (a + 3) (part_loaded_at side.Right little_machine a old) ≡ word_at little_machine a
  little_by zero p =
      ap (λ v. part_loaded_at side.Left little_machine (a + 3) v) (loaded_as little_machine side.Right a old 0 a (a + 1) (a + 2) (a + 3) p (omega arith) (omega arith) (omega arith) (omega arith))
      ∙ loaded_as little_machine side.Left (a + 3) (part_loaded side.Right false 0 (word_in false (f a) (f (a + 1)) (f (a + 2)) (f (a + 3))) old) 3 a (a + 1) (a + 2) (a + 3) (omega arith) (omega arith) (omega arith) (omega arith) (omega arith)
      ∙ little_0 (f a) (f (a + 1)) (f (a + 2)) (f (a + 3)) (f a) (f (a + 1)) (f (a + 2)) (f (a + 3)) old (small a) (small (a + 1)) (small (a + 2)) (small (a + 3)) (small a) (small (a + 1)) (small (a + 2)) (small (a + 3)) below
  little_by (suc zero) p =
      ap (λ v. part_loaded_at side.Left little_machine (a + 3) v) (loaded_as little_machine side.Right a old 1 (a - 1) a (a + 1) (a + 2) p (omega arith) (omega arith) (omega arith) (omega arith))
      ∙ loaded_as little_machine side.Left (a + 3) (part_loaded side.Right false 1 (word_in false (f (a - 1)) (f a) (f (a + 1)) (f (a + 2))) old) 0 (a + 3) (a + 4) (a + 5) (a + 6) (omega arith) (omega arith) (omega arith) (omega arith) (omega arith)
      ∙ little_1 (f (a - 1)) (f a) (f (a + 1)) (f (a + 2)) (f (a + 3)) (f (a + 4)) (f (a + 5)) (f (a + 6)) old (small (a - 1)) (small a) (small (a + 1)) (small (a + 2)) (small (a + 3)) (small (a + 4)) (small (a + 5)) (small (a + 6)) below
  little_by (suc (suc zero)) p =
      ap (λ v. part_loaded_at side.Left little_machine (a + 3) v) (loaded_as little_machine side.Right a old 2 (a - 2) (a - 1) a (a + 1) p (omega arith) (omega arith) (omega arith) (omega arith))
      ∙ loaded_as little_machine side.Left (a + 3) (part_loaded side.Right false 2 (word_in false (f (a - 2)) (f (a - 1)) (f a) (f (a + 1))) old) 1 (a + 2) (a + 3) (a + 4) (a + 5) (omega arith) (omega arith) (omega arith) (omega arith) (omega arith)
      ∙ little_2 (f (a - 2)) (f (a - 1)) (f a) (f (a + 1)) (f (a + 2)) (f (a + 3)) (f (a + 4)) (f (a + 5)) old (small (a - 2)) (small (a - 1)) (small a) (small (a + 1)) (small (a + 2)) (small (a + 3)) (small (a + 4)) (small (a + 5)) below
  little_by (suc (suc (suc zero))) p =
      ap (λ v. part_loaded_at side.Left little_machine (a + 3) v) (loaded_as little_machine side.Right a old 3 (a - 3) (a - 2) (a - 1) a p (omega arith) (omega arith) (omega arith) (omega arith))
      ∙ loaded_as little_machine side.Left (a + 3) (part_loaded side.Right false 3 (word_in false (f (a - 3)) (f (a - 2)) (f (a - 1)) (f a)) old) 2 (a + 1) (a + 2) (a + 3) (a + 4) (omega arith) (omega arith) (omega arith) (omega arith) (omega arith)
      ∙ little_3 (f (a - 3)) (f (a - 2)) (f (a - 1)) (f a) (f (a + 1)) (f (a + 2)) (f (a + 3)) (f (a + 4)) old (small (a - 3)) (small (a - 2)) (small (a - 1)) (small a) (small (a + 1)) (small (a + 2)) (small (a + 3)) (small (a + 4)) below
  little_by (suc (suc (suc (suc n)))) p = absurd (omega arith)

module _ (regs : ℕ → ℕ) (hi lo : ℕ) (f : ℕ → ℕ) (a old : ℕ) (small : (k : ℕ) → f k < 256) (below : old < 4294967296) where
  abbrev big_machine : Reader
  big_machine = record { regs = regs; hi = hi; lo = lo; bytes = f; big = true }

  big_by : (place : ℕ) → a % 4 ≡ place → part_loaded_at side.Right big_machine (a + 3) (part_loaded_at side.Left big_machine a old) ≡ word_at big_machine a
  big_by zero p =
      ap (λ v. part_loaded_at side.Right big_machine (a + 3) v) (loaded_as big_machine side.Left a old 0 a (a + 1) (a + 2) (a + 3) p (omega arith) (omega arith) (omega arith) (omega arith))
      ∙ loaded_as big_machine side.Right (a + 3) (part_loaded side.Left true 0 (word_in true (f a) (f (a + 1)) (f (a + 2)) (f (a + 3))) old) 3 a (a + 1) (a + 2) (a + 3) (omega arith) (omega arith) (omega arith) (omega arith) (omega arith)
      ∙ big_0 (f a) (f (a + 1)) (f (a + 2)) (f (a + 3)) (f a) (f (a + 1)) (f (a + 2)) (f (a + 3)) old (small a) (small (a + 1)) (small (a + 2)) (small (a + 3)) (small a) (small (a + 1)) (small (a + 2)) (small (a + 3)) below
  big_by (suc zero) p =
      ap (λ v. part_loaded_at side.Right big_machine (a + 3) v) (loaded_as big_machine side.Left a old 1 (a - 1) a (a + 1) (a + 2) p (omega arith) (omega arith) (omega arith) (omega arith))
      ∙ loaded_as big_machine side.Right (a + 3) (part_loaded side.Left true 1 (word_in true (f (a - 1)) (f a) (f (a + 1)) (f (a + 2))) old) 0 (a + 3) (a + 4) (a + 5) (a + 6) (omega arith) (omega arith) (omega arith) (omega arith) (omega arith)
      ∙ big_1 (f (a - 1)) (f a) (f (a + 1)) (f (a + 2)) (f (a + 3)) (f (a + 4)) (f (a + 5)) (f (a + 6)) old (small (a - 1)) (small a) (small (a + 1)) (small (a + 2)) (small (a + 3)) (small (a + 4)) (small (a + 5)) (small (a + 6)) below
  big_by (suc (suc zero)) p =
      ap (λ v. part_loaded_at side.Right big_machine (a + 3) v) (loaded_as big_machine side.Left a old 2 (a - 2) (a - 1) a (a + 1) p (omega arith) (omega arith) (omega arith) (omega arith))
      ∙ loaded_as big_machine side.Right (a + 3) (part_loaded side.Left true 2 (word_in true (f (a - 2)) (f (a - 1)) (f a) (f (a + 1))) old) 1 (a + 2) (a + 3) (a + 4) (a + 5) (omega arith) (omega arith) (omega arith) (omega arith) (omega arith)
      ∙ big_2 (f (a - 2)) (f (a - 1)) (f a) (f (a + 1)) (f (a + 2)) (f (a + 3)) (f (a + 4)) (f (a + 5)) old (small (a - 2)) (small (a - 1)) (small a) (small (a + 1)) (small (a + 2)) (small (a + 3)) (small (a + 4)) (small (a + 5)) below
  big_by (suc (suc (suc zero))) p =
      ap (λ v. part_loaded_at side.Right big_machine (a + 3) v) (loaded_as big_machine side.Left a old 3 (a - 3) (a - 2) (a - 1) a p (omega arith) (omega arith) (omega arith) (omega arith))
      ∙ loaded_as big_machine side.Right (a + 3) (part_loaded side.Left true 3 (word_in true (f (a - 3)) (f (a - 2)) (f (a - 1)) (f a)) old) 2 (a + 1) (a + 2) (a + 3) (a + 4) (omega arith) (omega arith) (omega arith) (omega arith) (omega arith)
      ∙ big_3 (f (a - 3)) (f (a - 2)) (f (a - 1)) (f a) (f (a + 1)) (f (a + 2)) (f (a + 3)) (f (a + 4)) old (small (a - 3)) (small (a - 2)) (small (a - 1)) (small a) (small (a + 1)) (small (a + 2)) (small (a + 3)) (small (a + 4)) below
  big_by (suc (suc (suc (suc n)))) p = absurd (omega arith)

pub little_words : (s : Reader) (a old : ℕ) → s.big ≡ false → ((k : ℕ) → s.bytes k < 2 ^ 8) → old < 2 ^ 32 → part_loaded_at side.Left s (a + 3) (part_loaded_at side.Right s a old) ≡ word_at s a
little_words s a old is small below =
    let order : s ≡ record s { big = false } = ap (λ b. record s { big = b }) is in
    subst (λ (t : Reader). part_loaded_at side.Left t (a + 3) (part_loaded_at side.Right t a old) ≡ word_at t a) (sym order)
    (little_by s.regs s.hi s.lo s.bytes a old small below (a % 4) refl)

pub big_words : (s : Reader) (a old : ℕ) → s.big ≡ true → ((k : ℕ) → s.bytes k < 2 ^ 8) → old < 2 ^ 32 → part_loaded_at side.Right s (a + 3) (part_loaded_at side.Left s a old) ≡ word_at s a
big_words s a old is small below =
    let order : s ≡ record s { big = true } = ap (λ b. record s { big = b }) is in
    subst (λ (t : Reader). part_loaded_at side.Right t (a + 3) (part_loaded_at side.Left t a old) ≡ word_at t a) (sym order)
    (big_by s.regs s.hi s.lo s.bytes a old small below (a % 4) refl)
