-- In the issue stage no pool runs out.
use Rattle.std.proofs.Common.{◌≡◌, ℕ, ◌+◌, ◌<◌, ◌≤◌, Bool, true, false, cond, List, [], ◌∷◌, Option, Some, None, refl, sym, ap, ◌∙◌, arith}
use Rattle.std.specs.Prelude.{◌==◌, ◌&&◌, ◌||◌, count_by, option_map}
use Rattle.std.proofs.lemmas.Bool.{cond_both, and_parts, and_right, ltb-true, eq-eqb}
use Rattle.std.proofs.lemmas.Bool.Decides.{nat_tests}
use Rattle.std.proofs.lemmas.List.Sums.{sum_by-cons}
use Rattle.pisa_isa.specs.declared.classes.UnitClass.{UnitClass}
use Rattle.pisa_isa.specs.declared.classes.UnitClass.TheVariants.{Free, Alu, Multiply, Divide}
use Rattle.mem_hier.specs.Replay.{Reference}
use Rattle.ooo_table.specs.Row.{Row, is_at, sweep, MemoryAccess, accessed}
use Rattle.ooo_table.specs.Execution.{Pool, Alus, Multipliers, Ports, pool_size, is_of}
use Rattle.ooo_table.specs.Table.{Setting}
use Rattle.ooo_table.specs.Path.{execution, loads, stores}
use Rattle.ooo_table.specs.Issue.{issues, accesses, issue_row, access_of, holds, takes, has_unit, spans, has_unit_for}
use Rattle.ooo_table.specs.Later.{Each, Where}

abbrev pub one : Bool → ℕ
one b = cond b 1 0

-- a count is bounded where each row is
pub count_sweep : (f : List Row → Row → Row) (p q h : Row → Bool) (rows : List Row)
    → ((older : List Row) (r : Row) → cond (p (f older r)) 1 0 ≤ cond (q r) 1 0 + cond (h (f older r)) 1 0)
    → count_by p (sweep f rows) ≤ count_by q rows + count_by h (sweep f rows)
count_sweep f p q h [] le = omega arith
count_sweep f p q h (r ∷ older) le =
    omega (
      arith,
      count_sweep f p q h older le,
      le (sweep f older) r,
      sum_by-cons (λ x. cond (p x) 1 0) (f (sweep f older) r) (sweep f older),
      sum_by-cons (λ x. cond (q x) 1 0) r older,
      sum_by-cons (λ x. cond (h x) 1 0) (f (sweep f older) r) (sweep f older),
    )

pub not_at : (c : ℕ) (m : Option ℕ) → Where m (λ d. d < c) → is_at c m ≡ false
not_at c None h = refl
not_at c (Some d) h = grind (arith, nat_tests)

pub not_at_access : (c : ℕ) (m : Option MemoryAccess) → Where m (λ a. a.at < c) → is_at c (option_map (λ a. a.at) m) ≡ false
not_at_access c None h = refl
not_at_access c (Some a) h = grind (arith, nat_tests)

one_le : (b : Bool) → one b ≤ 1
one_le true = omega arith
one_le false = omega arith

some_of_both : (x y t : Bool) (n : ℕ) → t ≡ true → one (x && y) ≤ n + one (x && t)
some_of_both true y t n e = omega (arith, one_le y, ap one e)
some_of_both false y t n e = omega arith

some_of_either : (x y w z t : Bool) → t ≡ true → one ((x && y) || z) ≤ one ((x && w) || z) + one (x && t)
some_of_either true y w z t e = omega (arith, one_le (y || z), ap one e)
some_of_either false y w z t e = omega arith

module _ (set : Setting) where
  -- a main operation issues only where its unit is left
  pub unit_left : (p : Pool) (c : ℕ) (start older : List Row) (u : UnitClass) → is_of p u ≡ true → has_unit_for set c start older u ≡ true → has_unit set c start older p ≡ true
  unit_left Alus c start older Alu e h = h
  unit_left Multipliers c start older Multiply e h = h
  unit_left Multipliers c start older Divide e h = h
  unit_left Alus c start older Free e h = absurd cc
  unit_left Alus c start older Multiply e h = absurd cc
  unit_left Alus c start older Divide e h = absurd cc
  unit_left Multipliers c start older Free e h = absurd cc
  unit_left Multipliers c start older Alu e h = absurd cc
  unit_left Ports c start older Free e h = absurd cc
  unit_left Ports c start older Alu e h = absurd cc
  unit_left Ports c start older Multiply e h = absurd cc
  unit_left Ports c start older Divide e h = absurd cc

  -- a row without marks of c or later takes nothing at c
  pub takes_none : (p : Pool) (c : ℕ) (r : Row) → Where r.issued (λ d. d < c) → Where r.access (λ a. a.at < c) → takes set p c r ≡ false
  takes_none Alus c r i a = and_right _ _ (not_at c r.issued i)
  takes_none Multipliers c r i a = and_right _ _ (not_at c r.issued i)
  takes_none Ports c r i a = and_right _ _ (not_at_access c r.access a)

  -- with an issue it takes the unit that it found, and with an access a port
  pub issue_takes : (p : Pool) (c : ℕ) (start older : List Row) (r : Row) → Where r.access (λ a. a.at < c)
      → has_unit_for set c start older (execution set r).unit ≡ true → takes set p c (record r { issued = Some c }) ≡ true → has_unit set c start older p ≡ true
  issue_takes Alus c start older r a h t = unit_left Alus c start older _ (and_parts _ _ t).0 h
  issue_takes Multipliers c start older r a h t = unit_left Multipliers c start older _ (and_parts _ _ t).0 h
  issue_takes Ports c start older r a h t = absurd cc (sym (and_right _ _ (not_at_access c r.access a)) ∙ t)

  pub access_takes : (p : Pool) (c : ℕ) (start older : List Row) (r : Row) (a : MemoryAccess) → Where r.issued (λ d. d < c)
      → has_unit set c start older Ports ≡ true → takes set p c (record r { access = Some a }) ≡ true → has_unit set c start older p ≡ true
  access_takes Alus c start older r a i h t = absurd cc (sym (and_right _ _ (not_at c r.issued i)) ∙ t)
  access_takes Multipliers c start older r a i h t = absurd cc (sym (and_right _ _ (not_at c r.issued i)) ∙ t)
  access_takes Ports c start older r a i h t = h

  -- what a turn takes was left
  pub turn_takes : (p : Pool) (c : ℕ) (base : List Reference) (start older : List Row) (r : Row) → Where r.issued (λ d. d < c) → Where r.access (λ a. a.at < c)
      → takes set p c (issue_row set c base start older r) ≡ true → has_unit set c start older p ≡ true
  turn_takes p c base start older r i a =
      cond_both (issues set c start older r) (record r { issued = Some c }) _ (λ s. takes set p c s ≡ true → has_unit set c start older p ≡ true)
      (λ e t. issue_takes p c start older r a (and_parts _ _ e).1 t)
      (λ _. cond_both (accesses set c start older r) (record r { access = Some (access_of set c base older r) }) r (λ s. takes set p c s ≡ true → has_unit set c start older p ≡ true)
      (λ e t. access_takes p c start older r _ i (and_parts _ _ e).1 t)
      (λ _ t. absurd cc (sym (takes_none p c r i a) ∙ t)))

  -- one more turn
  within_step : (p : Pool) (c : ℕ) (base : List Reference) (start before : List Row) (r : Row)
      → Where r.issued (λ d. d < c) × Where r.access (λ a. a.at < c)
      → count_by (holds set p c) start + count_by (takes set p c) before ≤ pool_size set.config p
      → count_by (holds set p c) start + count_by (takes set p c) (issue_row set c base start before r ∷ before) ≤ pool_size set.config p
  within_step p c base start before r past ih = cases (takes set p c now) refl
    where
      now : Row
      now = issue_row set c base start before r

      cases : (b : Bool) → takes set p c now ≡ b → count_by (holds set p c) start + count_by (takes set p c) (now ∷ before) ≤ pool_size set.config p
      cases true e = omega (arith, ltb-true _ _ (turn_takes p c base start before r past.0 past.1 e), sum_by-cons (λ x. cond (takes set p c x) 1 0) now before, ap one e)
      cases false e = omega (arith, ih, sum_by-cons (λ x. cond (takes set p c x) 1 0) now before, ap one e)

  -- held at the start and taken since are together no more than there are
  pub within : (p : Pool) (c : ℕ) (base : List Reference) (start rows : List Row)
      → Each (λ _ r. Where r.issued (λ d. d < c) × Where r.access (λ a. a.at < c)) rows
      → count_by (holds set p c) start ≤ pool_size set.config p
      → count_by (holds set p c) start + count_by (takes set p c) (sweep (issue_row set c base start) rows) ≤ pool_size set.config p
  within p c base start [] past fits = omega arith
  within p c base start (r ∷ older) past fits =
      within_step p c base start (sweep (issue_row set c base start) older) r past.0 (within p c base start older past.1 fits)

  -- what a row holds at c it held before or took in its turn
  pub turn_holds : (p : Pool) (c : ℕ) (base : List Reference) (start older : List Row) (r : Row)
      → cond (holds set p c (issue_row set c base start older r)) 1 0 ≤ cond (holds set p c r) 1 0 + cond (takes set p c (issue_row set c base start older r)) 1 0
  turn_holds p c base start older r =
      cond_both (issues set c start older r) (record r { issued = Some c }) _ (λ s. Held p r s)
      (λ e. issue_holds p)
      (λ _. cond_both (accesses set c start older r) (record r { access = Some (access_of set c base older r) }) r (λ s. Held p r s)
      (λ e. access_holds p) (λ _. omega arith))
    where
      Held : Pool → Row → Row → Type 0
      Held p r s = cond (holds set p c s) 1 0 ≤ cond (holds set p c r) 1 0 + cond (takes set p c s) 1 0

      issue_holds : (p : Pool) → Held p r (record r { issued = Some c })
      issue_holds Alus = some_of_both _ _ _ (one (holds set Alus c r)) (eq-eqb c c refl)
      issue_holds Multipliers = some_of_both _ _ _ (one (holds set Multipliers c r)) (eq-eqb c c refl)
      issue_holds Ports = omega arith

      access_holds : (p : Pool) → Held p r (record r { access = Some (access_of set c base older r) })
      access_holds Alus = omega arith
      access_holds Multipliers = omega arith
      access_holds Ports = some_of_either (loads set r) (spans c 1 (Some c)) (spans c 1 (accessed r)) (stores set r && is_at c r.committed) (c == c) (eq-eqb c c refl)

  -- hence after the stage no pool has more held than it has
  pub issue_fits : (p : Pool) (c : ℕ) (base : List Reference) (rows : List Row)
      → Each (λ _ r. Where r.issued (λ d. d < c) × Where r.access (λ a. a.at < c)) rows
      → count_by (holds set p c) rows ≤ pool_size set.config p
      → count_by (holds set p c) (sweep (issue_row set c base rows) rows) ≤ pool_size set.config p
  issue_fits p c base rows past fits =
      omega (
        arith,
        within p c base rows rows past fits,
        count_sweep (issue_row set c base rows) (holds set p c) (holds set p c) (takes set p c) rows (turn_holds p c base rows),
      )
