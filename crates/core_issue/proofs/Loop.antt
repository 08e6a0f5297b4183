-- What the loop over the turns keeps.
use Rattle.std.proofs.Common.{◌≡◌, ℕ, ◌+◌, ◌<◌, ◌≤◌, Some, None, cond, Bool, true, false, List, [], ◌++◌, length, refl, sym, ap, ◌∙◌, subst, arith, length-append, inl, inr}
use Rattle.std.specs.Prelude.{Option, option_to_list, nat_lt, ◌&&◌, ◌||◌, ◌⊎◌, if◌then◌else◌}
use Rattle.std.proofs.lemmas.Bool.{ltb-true}
use Rattle.fu_pool.specs.declared.pools.Pool.TheVariants as pool
use Rattle.lsq_core.specs.Queue.{load_answer}
use Rattle.ruu_core.specs.Window.{Row, is_live, is_ready, may_access, rises_to}
use Rattle.core_parts.specs.declared.answers.Issued.{Issued}
use Rattle.core_parts.specs.declared.parts.Parts.{Parts}
use Rattle.core_parts.specs.Fits.{Fits}
use Rattle.core_parts.specs.Rows.{unit_class}
use Rattle.core_issue.specs.declared.turns.Turn.{Turn}
use Rattle.core_issue.specs.Turns.{pool_for, has_free, has_unit, is_ok, may_go, next_turn, MayTurn, TurnOf}
use Rattle.core_issue.specs.Stage.{rules_of, shared_of, is_ordered, main_issues, access_issues, StepBy, RanAll}
use Rattle.core_issue.proofs.Next.{IsNext, found, over, passes_live, held}
use Rattle.core_issue.proofs.Turned.{Step, Taken, Turned, taken, turned_start, turned_end, turned_spent}
use Rattle.core_issue.proofs.Stays.{fits_step, above_count, fewer}

-- what is known as a turn begins, and as the loop ends
pub record Going (c : ℕ) (start now : Parts) (after : Option ℕ) (all : List Issued) : Type 0 where
  pub turned : Turned c start now after all
  pub fits : Fits c (32 + length all) now
  pub wide : length all ≤ 32

pub starts : (c : ℕ) (p : Parts) → Fits c 32 p → Going c p p None []
starts c p fits = record { turned = turned_start c p; fits = fits; wide = omega arith }

fits_more : (c m n : ℕ) (p : Parts) → m ≤ n → Fits c m p → Fits c n p
fits_more c m n p le fits =
    record {
      sizes = fits.sizes;
      time = fits.time;
      numbers = record { references = (let h = fits.numbers.references in omega (arith, le, h)); rows = fits.numbers.rows; instructions = fits.numbers.instructions };
      agree = fits.agree;
    }

some_live : (c : ℕ) (after : Option ℕ) (rows : List Row) (t : Turn) → IsNext c after rows t → is_live t.row rows ≡ true
some_live c after rows t next = by_test t.main t.access refl refl next.some
  where
    by_test : (b d : Bool) → t.main ≡ b → t.access ≡ d → (b || d) ≡ true → is_live t.row rows ≡ true
    by_test true d e f h = passes_live (is_ready c) t.row rows (sym next.main ∙ e)
    by_test false true e f h = passes_live (may_access c) t.row rows (sym next.access ∙ f)
    by_test false false e f h = absurd cc

pub may_turn : (c used : ℕ) (after : Option ℕ) (p : Parts) (t : Turn) → Fits c used p → used ≤ 64 → rises_to p.unit.last p.unit.rows ≡ true → next_turn c after p.unit.rows ≡ Some t → MayTurn c t p
may_turn c used after p t fits few rises e =
    let next : IsNext c after p.unit.rows t = found c after p.unit rises t e in
    record {
      time = fits.time;
      references = (let a = fits.numbers.references in let b = fits.time.cycle in omega (arith, a, b, few));
      live = some_live c after p.unit.rows t next;
      main = λ h. sym next.main ∙ h;
      access = λ h. sym next.access ∙ h;
      held = λ h. held c t.row p.unit.rows p.queue.entries fits.agree.queue (sym next.access ∙ h);
    }

-- no more issues than the width allows
room : (c n : ℕ) (old new : Parts) (front before : List Row) (s : Row) (made : List Issued) → Step c n old new front before s made → (made ≡ []) ⊎ ((length made ≡ 1) × (n < old.config.issue))
room c n old new front before s made step = by_test (main_issues c n (rules_of old) old.pools before s) (access_issues c n (rules_of old) old.pools before s) refl refl step.step
  where
    wide : nat_lt n old.config.issue ≡ true → n < old.config.issue
    wide h = ltb-true n old.config.issue h

    fourth : (a b d w u : Bool) → (a && b && d && w && u) ≡ true → w ≡ true
    fourth true true true true u h = refl
    fourth true true true false u h = absurd cc
    fourth true true false w u h = absurd cc
    fourth true false d w u h = absurd cc
    fourth false b d w u h = absurd cc

    third : (a b w u : Bool) → (a && b && w && u) ≡ true → w ≡ true
    third true true true u h = refl
    third true true false u h = absurd cc
    third true false w u h = absurd cc
    third false b w u h = absurd cc

    by_test : (i d : Bool) → main_issues c n (rules_of old) old.pools before s ≡ i → access_issues c n (rules_of old) old.pools before s ≡ d
        → StepBy i d c (rules_of old) (shared_of old) s step.now made (shared_of new) → (made ≡ []) ⊎ ((length made ≡ 1) × (n < old.config.issue))
    by_test true d e f (is, made_is, pools, hier) = inr (ap length made_is, wide (fourth (is_ready c before s) (may_go old.config s.station) (is_ordered old.config before) (nat_lt n old.config.issue) (has_unit c old.pools (pool_for (unit_class s.station))) e))
    by_test false true e f (back, is, made_is, pools, returns) = inr (ap length made_is, wide (third (may_access c before s) (is_ok (load_answer c s.station.row old.queue.entries)) (nat_lt n old.config.issue) (has_free c old.pools pool.Port) f))
    by_test false false e f (is, none, same) = inl none

-- after a turn
pub record TurnDone (c : ℕ) (start old new : Parts) (after : Option ℕ) (all : List Issued) (t : Turn) (made : List Issued) : Type 0 where
  pub going : Going c start new (Some t.row) (all ++ made)
  pub fewer : above_count (Some t.row) new < above_count after old
  pub room : length all + length made ≤ 32

pub goes_on : (c : ℕ) (start old new : Parts) (after : Option ℕ) (all : List Issued) (t : Turn) (answer : Option Issued) → Going c start old after all → rises_to old.unit.last old.unit.rows ≡ true
    → next_turn c after old.unit.rows ≡ Some t → TurnOf c (length all) t old new answer → TurnDone c start old new after all t (option_to_list answer)
goes_on c start old new after all t answer going rises e turn =
    record {
      going = record { turned = both.1; fits = subst (λ n. Fits c n new) longer fits; wide = omega (arith, length-append all (option_to_list answer), few) };
      fewer = fewer c after t old new (length all) (option_to_list answer) both.0;
      room = few;
    }
  where
    next : IsNext c after old.unit.rows t
    next = found c after old.unit rises t e

    both : Taken c after t old new (length all) (option_to_list answer) × Turned c start new (Some t.row) (all ++ option_to_list answer)
    both = taken c start old new after all t answer going.turned rises (some_live c after old.unit.rows t next) next turn

    few : length all + length (option_to_list answer) ≤ 32
    few = by_room (room c (length all) old new both.0.front both.0.before both.0.row (option_to_list answer) both.0.step)
      where
        by_room : (option_to_list answer ≡ []) ⊎ ((length (option_to_list answer) ≡ 1) × (length all < old.config.issue)) → length all + length (option_to_list answer) ≤ 32
        by_room (inl none) = let n : length (option_to_list answer) ≡ 0 = ap length none in let w = going.wide in omega (arith, n, w)
        by_room (inr (one, less)) = let w = going.fits.sizes.allowed.widths.issue.most in omega (arith, one, less, w)

    fits : Fits c ((32 + length all) + length (option_to_list answer)) new
    fits = fits_step c (length all) (32 + length all) old new both.0.front both.0.before both.0.row (option_to_list answer) both.0.is going.fits both.0.step

    longer : (32 + length all) + length (option_to_list answer) ≡ 32 + length (all ++ option_to_list answer)
    longer = omega (arith, length-append all (option_to_list answer))

ends : (c : ℕ) (start now : Parts) (after : Option ℕ) (all : List Issued) → Going c start now after all → rises_to now.unit.last now.unit.rows ≡ true → next_turn c after now.unit.rows ≡ None
    → Fits c 64 now × RanAll c start now all
ends c start now after all going rises e = (
  fits_more c (32 + length all) 64 now (let w = going.wide in omega (arith, w)) going.fits,
  turned_end c start now after all going.turned rises (over c after now.unit rises e),
)

-- ---- turns within the width

within : (b : Bool) (o : Option Turn) (t : Turn) → Some t ≡ cond b o None → o ≡ Some t
within true o t e = sym e
within false o t e = absurd cc

pub next_is : (c n : ℕ) (now : Parts) (after : Option ℕ) (t : Turn) → Some t ≡ (if nat_lt n now.config.issue then next_turn c after now.unit.rows else None) → next_turn c after now.unit.rows ≡ Some t
next_is c n now after t e = within (nat_lt n now.config.issue) (next_turn c after now.unit.rows) t e

pub ends_within : (c n : ℕ) (start now : Parts) (after : Option ℕ) (all : List Issued) → Going c start now after all → rises_to now.unit.last now.unit.rows ≡ true → n ≡ length all
    → None ≡ (if nat_lt n now.config.issue then next_turn c after now.unit.rows else None) → Fits c 64 now × RanAll c start now all
ends_within c n start now after all going rises long e = by_width (nat_lt n now.config.issue) refl e
  where
    by_width : (b : Bool) → nat_lt n now.config.issue ≡ b → None ≡ cond b (next_turn c after now.unit.rows) None → Fits c 64 now × RanAll c start now all
    by_width true is f = ends c start now after all going rises (sym f)
    by_width false is f = (
      fits_more c (32 + length all) 64 now (let w = going.wide in omega (arith, w)) going.fits,
      turned_spent c start now after all going.turned (ap (λ k. nat_lt k now.config.issue) (sym long) ∙ is),
    )
