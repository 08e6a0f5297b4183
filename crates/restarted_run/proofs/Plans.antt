-- What a plan that skips nothing comes to.
use Rattle.std.proofs.Common.{◌≡◌, ◌-◌, ℕ, zero, suc, Bool, false, List, Option, Some, None, refl, sym, ap, ◌∙◌, arith}
use Rattle.std.specs.Prelude.{◌&&◌, ◌||◌, min, is_some, nat_lt, nat_le, if◌then◌else◌}
use Rattle.std.proofs.lemmas.Bool.{lt-leb, lt-ltb}
use Rattle.event_trace.specs.declared.trace.Trace.{Trace}
use Rattle.sim_safe.specs.State.{State}
use Rattle.sim_safe.specs.Run.{items_of, after, end_of}
use Rattle.cut_run.specs.Plan.{Asked, limited, to_skip, skipped, timed_start, ends_early, to_do, timed_items, cut_end, cut_state, timed_point}
use Rattle.restarted_run.specs.Rest.{state_at, first_of, point_state}

-- to skip nothing
abbrev pub unskipped : ℕ → Option (List ℕ) → Option (List ℕ × ℕ) → Asked
unskipped most commits point = record { skip = 0; most = most; commits = commits; point = point }

no_steps : (s : State) → limited s 0 ≡ 0
no_steps s = omega arith

after_none : (trace : Trace) (s : State) → after trace 0 s ≡ s
unfolding after
after_none trace s = refl

module _ (trace : Trace) (s : State) (most : ℕ) (commits : Option (List ℕ)) (point : Option (List ℕ × ℕ)) where
  abbrev asked : Asked
  asked = unskipped most commits point

  pub start_is : timed_start trace s asked ≡ s
  start_is = ap (λ (n : ℕ). after trace n s) (no_steps s) ∙ after_none trace s

  goes_on : ends_early trace s asked ≡ false
  goes_on =
      let stops : Bool = nat_lt (skipped trace s asked) (to_skip trace s asked) || is_some (timed_start trace s asked).ended in
      ap (λ (n : ℕ). nat_lt 0 n && stops) (no_steps s)

  pub steps_are : to_do trace s asked ≡ limited s most
  steps_are =
      let u = timed_start trace s asked in
      ap (λ (b : Bool). if b then 0 else limited u most) goes_on ∙ ap (λ (x : State). limited x most) start_is

  pub items_are : timed_items trace s asked ≡ items_of trace (limited s most) s
  items_are =
      let u = timed_start trace s asked in
      ap (λ (n : ℕ). items_of trace n u) steps_are ∙ ap (λ (x : State). items_of trace (limited s most) x) start_is

  pub end_is : cut_end trace s asked ≡ end_of trace (limited s most) s
  end_is =
      let u = timed_start trace s asked in
      ap (λ (b : Bool). if b then end_of trace (to_skip trace s asked) s else end_of trace (to_do trace s asked) u) goes_on ∙ ap (λ (n : ℕ). end_of trace n u) steps_are
      ∙ ap (λ (x : State). end_of trace (limited s most) x) start_is

  pub state_is : cut_state trace s asked ≡ after trace (limited s most) s
  state_is =
      let u = timed_start trace s asked in
      ap (λ (n : ℕ). after trace n u) steps_are ∙ ap (λ (x : State). after trace (limited s most) x) start_is

-- ---- the state in which a point is taken

point_if : (trace : Trace) (s : State) (file : List ℕ) (k n : ℕ)
    → first_of (state_at trace s (if nat_le k 0 then Some (file, k) else None)) (state_at trace s (if nat_lt 0 k then Some (file, min (k - 0) n) else None)) ≡ Some (after trace (min k n) s)
point_if trace s file zero n = let e : min 0 n ≡ 0 = omega arith in ap (λ (m : ℕ). Some (after trace m s)) (sym e)
point_if trace s file (suc j) n =
    let e : min (suc j - 0) n ≡ min (suc j) n = omega arith in
    ap (λ (b : Bool). first_of (state_at trace s (if b then Some (file, suc j) else None)) (state_at trace s (if nat_lt 0 (suc j) then Some (file, min (suc j - 0) n) else None))) (lt-leb (suc j) 0 (omega arith))
    ∙ ap (λ (b : Bool). state_at trace s (if b then Some (file, min (suc j - 0) n) else None)) (lt-ltb 0 (suc j) (omega arith)) ∙ ap (λ (m : ℕ). Some (after trace m s)) e

pub point_is : (trace : Trace) (s : State) (most : ℕ) (commits : Option (List ℕ)) (file : List ℕ) (k : ℕ)
    → point_state trace s (unskipped most commits (Some (file, k))) ≡ Some (after trace (min k (limited s most)) s)
point_is trace s most commits file k =
    let plan = unskipped most commits (Some (file, k)) in
    let second = timed_point trace s plan in
    ap (λ (m : ℕ). first_of (state_at trace s (if nat_le k m then Some (file, k) else None)) (state_at trace (timed_start trace s plan) second)) (no_steps s)
    ∙ ap (λ (u : State). first_of (state_at trace s (if nat_le k 0 then Some (file, k) else None)) (state_at trace u second)) (start_is trace s most commits (Some (file, k)))
    ∙ ap (λ (m : ℕ). first_of (state_at trace s (if nat_le k 0 then Some (file, k) else None)) (state_at trace s (if nat_lt m k then Some (file, min (k - m) (to_do trace s plan)) else None))) (no_steps s)
    ∙ ap (λ (n : ℕ). first_of (state_at trace s (if nat_le k 0 then Some (file, k) else None)) (state_at trace s (if nat_lt 0 k then Some (file, min (k - 0) n) else None))) (steps_are trace s most commits (Some (file, k)))
    ∙ point_if trace s file k (limited s most)
