-- What commits is the front of the functional run, within its budgets.
use Rattle.std.specs.Prelude.{◌≡◌, ◌≤◌, ◌-◌, ◌^◌, ◌++◌, ℕ, Bool, true, false, List, [], ◌∷◌, min, if◌then◌else◌}
use Rattle.std.proofs.Common.{refl, ap, ◌∙◌, arith}
use Rattle.event_trace.specs.declared.trace.Trace.{Trace}
use Rattle.sim_safe.specs.State.{State}
use Rattle.sim_safe.specs.Record.{Item}
use Rattle.sim_safe.specs.Run.{items_front}
use Rattle.cut_run.specs.Plan.{timed_start, ends_early, to_do, timed_items}
use Rattle.core_watch.specs.Shown.{Shown, Happened, Committed}
use Rattle.shown_run.specs.Run.{records_among}
use Rattle.shown_run.specs.Headline.{KeepsHeadline, shown_in}
use Rattle.machine_watch.specs.Texts as watch
use Rattle.machine_run.specs.declared.plan.MachineConfig.{MachineConfig}
use Rattle.machine_run.specs.Plan.{Asked, functionally, plainly, machine_given, machine_finish}
use Rattle.machine_run.specs.Headline.{commits, first_steps}

-- both words for the records among what was shown say the same
pub same_records : (xs : List Shown) → watch.commits_among xs ≡ records_among xs
same_records [] = refl
same_records (Happened e ∷ xs) = same_records xs
same_records (Committed did ∷ xs) = ap (λ is. did ∷ is) (same_records xs)

-- a greater budget lets no less be done
more_to_do : (early : Bool) (most other left : ℕ) → most ≤ other → (if early then 0 else min most left) ≤ (if early then 0 else min other left)
more_to_do true most other left le = omega arith
more_to_do false most other left le = omega (arith, le)

module _ (c : MachineConfig) (trace : Trace) (s : State) (asked : Asked)
    (machine : KeepsHeadline (machine_given c trace s asked) (machine_finish c trace s asked) (to_do trace s (plainly asked)) asked.cycles) where
  -- what was shown to commit are the first steps
  pub shown_commits : watch.commits_among (shown_in (machine_given c trace s asked) (machine_finish c trace s asked)) ≡ first_steps c trace s asked
  shown_commits = same_records (shown_in (machine_given c trace s asked) (machine_finish c trace s asked)) ∙ (machine.records ∙ machine.run.items)

  pub at_least : (most : ℕ) → asked.most ≤ most → to_do trace s (plainly asked) ≤ to_do trace s (functionally asked most)
  at_least most le = more_to_do (ends_early trace s (plainly asked)) asked.most most (10 ^ 15 - (timed_start trace s (plainly asked)).icnt) le

  pub commits_within : (most : ℕ) → asked.most ≤ most → commits c trace s asked ≤ to_do trace s (functionally asked most)
  commits_within most le = omega (arith, machine.within.0, at_least most le)

  pub front_of : (most : ℕ) → asked.most ≤ most → (more : List Item) × (timed_items trace s (functionally asked most) ≡ first_steps c trace s asked ++ more)
  front_of most le = items_front trace (commits c trace s asked) (to_do trace s (functionally asked most)) (timed_start trace s (plainly asked)) (commits_within most le)
