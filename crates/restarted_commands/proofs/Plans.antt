-- What a plan that skips nothing comes to.
use Rattle.std.proofs.Common.{◌≡◌, ◌-◌, ◌^◌, ◌<◌, ◌≤◌, ◌+◌, ◌++◌, ℕ, zero, suc, Bool, true, false, List, [], ◌∷◌, length, Option, Some, None, refl, sym, ap, ◌∙◌, subst, append-nil, arith}
use Rattle.std.specs.Prelude.{◌&&◌, ◌||◌, ◌⊎◌, min, is_some, nat_lt, nat_le, nat_eq, if◌then◌else◌}
use Rattle.std.proofs.lemmas.Bool.{lt-leb, lt-ltb}
use Rattle.event_trace.specs.declared.trace.Trace.{Trace}
use Rattle.sim_safe.specs.declared.observer.RunEnd.{RunEnd}
use Rattle.sim_safe.specs.State.{State}
use Rattle.sim_safe.specs.Record.{Item}
use Rattle.sim_safe.specs.Run.{items_of, after, end_of}
use Rattle.sim_safe.specs.Commit.{outputs_of}
use Rattle.sim_safe.proofs.Steps.{items_none}
use Rattle.cut_run.specs.Parts.{is_large_at, is_cut_short, skipped_writes, timed_writes}
use Rattle.cut_run.specs.Plan.{Asked, limited, filtered, to_skip, skipped, timed_start, ends_early, to_do, timed_items, cut_end, cut_state, skipped_point, timed_point, is_too_long, cut_journal}
use Rattle.journal.specs.Write.{Journal}
pub use Rattle.restarted_run.proofs.Plans.{unskipped, start_is, steps_are, items_are, end_is, state_is}

-- a limit for fewer steps
pub limited_min : (s : State) (k most : ℕ) → limited s (min k most) ≡ min k (limited s most)
limited_min s k most = omega arith

pub min_again : (k n : ℕ) → min k (min k n) ≡ min k n
min_again k n = omega arith

no_steps : (s : State) → limited s 0 ≡ 0
no_steps s = omega arith

pub skipped_output : (trace : Trace) (s : State) (most : ℕ) (commits : Option (List ℕ)) (point : Option (List ℕ × ℕ)) → outputs_of (items_of trace (to_skip trace s (unskipped most commits point)) s) ≡ []
skipped_output trace s most commits point = ap (λ (n : ℕ). outputs_of (items_of trace n s)) (no_steps s) ∙ ap outputs_of (items_none trace s)

-- ---- where the point is taken

-- in the skipped part behind no step, and else in the timed one
abbrev pub first_point : List ℕ → ℕ → Option (List ℕ × ℕ)
first_point file zero = Some (file, 0)
first_point file (suc j) = None

abbrev pub second_point : List ℕ → ℕ → ℕ → Option (List ℕ × ℕ)
second_point file n zero = None
second_point file n (suc j) = Some (file, min (suc j) n)

first_at : (file : List ℕ) (k : ℕ) → (if nat_le k 0 then Some (file, k) else None) ≡ first_point file k
first_at file zero = refl
first_at file (suc j) = ap (λ (b : Bool). if b then Some (file, suc j) else None) (lt-leb (suc j) 0 (omega arith))

second_at : (file : List ℕ) (k n : ℕ) → (if nat_lt 0 k then Some (file, min (k - 0) n) else None) ≡ second_point file n k
second_at file zero n = refl
second_at file (suc j) n =
    let e : min (suc j - 0) n ≡ min (suc j) n = omega arith in
    ap (λ (b : Bool). if b then Some (file, min (suc j - 0) n) else None) (lt-ltb 0 (suc j) (omega arith)) ∙ ap (λ (m : ℕ). Some (file, m)) e

-- what is written, by the values that a plan goes by
abbrev pub writes_by : Trace → State → Option (List ℕ) → ℕ → Option (List ℕ × ℕ) → ℕ → State → Option (List ℕ × ℕ) → Journal
writes_by trace s commits m sp n u tp = if is_cut_short trace s sp then skipped_writes trace m s sp else timed_writes trace commits n u tp ++ skipped_writes trace m s sp

abbrev pub short_by : Trace → State → Option (List ℕ × ℕ) → State → Option (List ℕ × ℕ) → Bool
short_by trace s sp u tp = is_cut_short trace s sp || is_cut_short trace u tp

module _ (trace : Trace) (s : State) (most : ℕ) (commits : Option (List ℕ)) (file : List ℕ) (k : ℕ) where
  abbrev plan : Asked
  plan = unskipped most commits (Some (file, k))

  pub skipped_point_is : skipped_point trace s plan ≡ first_point file k
  skipped_point_is = ap (λ (m : ℕ). if nat_le k m then Some (file, k) else None) (no_steps s) ∙ first_at file k

  pub timed_point_is : timed_point trace s plan ≡ second_point file (limited s most) k
  timed_point_is =
      ap (λ (m : ℕ). if nat_lt m k then Some (file, min (k - m) (to_do trace s plan)) else None) (no_steps s)
      ∙ ap (λ (n : ℕ). if nat_lt 0 k then Some (file, min (k - 0) n) else None) (steps_are trace s most commits (Some (file, k))) ∙ second_at file k (limited s most)

  pub journal_is : cut_journal trace s plan ≡ writes_by trace s commits 0 (first_point file k) (limited s most) s (second_point file (limited s most) k)
  unfolding cut_journal
  journal_is =
      let m = to_skip trace s plan in
      let n = limited s most in
      let sp = first_point file k in
      ap (λ (x : Option (List ℕ × ℕ)). writes_by trace s commits m x (to_do trace s plan) (timed_start trace s plan) (timed_point trace s plan)) skipped_point_is
      ∙ ap (λ (x : ℕ). writes_by trace s commits x sp (to_do trace s plan) (timed_start trace s plan) (timed_point trace s plan)) (no_steps s)
      ∙ ap (λ (x : ℕ). writes_by trace s commits 0 sp x (timed_start trace s plan) (timed_point trace s plan)) (steps_are trace s most commits (Some (file, k)))
      ∙ ap (λ (x : State). writes_by trace s commits 0 sp n x (timed_point trace s plan)) (start_is trace s most commits (Some (file, k)))
      ∙ ap (λ (x : Option (List ℕ × ℕ)). writes_by trace s commits 0 sp n s x) timed_point_is

  pub short_is : is_too_long trace s plan ≡ short_by trace s (first_point file k) s (second_point file (limited s most) k)
  short_is =
      ap (λ (x : Option (List ℕ × ℕ)). short_by trace s x (timed_start trace s plan) (timed_point trace s plan)) skipped_point_is
      ∙ ap (λ (x : State). short_by trace s (first_point file k) x (timed_point trace s plan)) (start_is trace s most commits (Some (file, k)))
      ∙ ap (λ (x : Option (List ℕ × ℕ)). short_by trace s (first_point file k) s x) timed_point_is
