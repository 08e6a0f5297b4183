-- A second run that is the rest of a first one.
use Rattle.std.specs.Prelude.{◌≡◌, ◌-◌, ◌<◌, ◌++◌, ℕ, List, Option, Some, None, min}
use Rattle.event_trace.specs.declared.trace.Trace.{Trace}
use Rattle.sim_safe.specs.State.{State}
use Rattle.sim_safe.specs.Run.{after}
use Rattle.sim_safe.specs.Commit.{text_of, outputs_of}
use Rattle.sim_watch.specs.Statistics.{statistics_of}
use Rattle.cut_run.specs.Parts.{joined}
use Rattle.cut_run.specs.Plan.{Asked, timed_start, skipped_point, timed_point, timed_items, to_do, cut_end, cut_state}

-- ---- where a point is taken

-- the state in which a part takes its point, if it takes one
abbrev pub state_at : Trace → State → Option (List ℕ × ℕ) → Option State
state_at trace s None = None
state_at trace s (Some p) = Some (after trace p.1 s)

abbrev pub first_of : Option State → Option State → Option State
first_of None second = second
first_of (Some s) second = Some s

-- the state in which a run takes its point, in the skipped part or in the timed one
abbrev pub point_state : Trace → State → Asked → Option State
point_state trace s asked =
    first_of (state_at trace s (skipped_point trace s asked)) (state_at trace (timed_start trace s asked) (timed_point trace s asked))

-- at most so many steps are timed before a point
abbrev pub most_before : Option (List ℕ × ℕ) → (skip most : ℕ) → ℕ
most_before None skip most = most
most_before (Some p) skip most = min (p.1 - skip) most

-- the run up to its point, as a run that is asked for no more
abbrev pub up_to_point : Asked → Asked
up_to_point asked = record asked { most = most_before asked.point asked.skip asked.most; point = None }

-- ---- the rest

-- a second run begins in the state in which a first one takes its point, behind so many instructions; neither skips any
pub record BeginsAtPoint (trace : Trace) (s : State) (first : Asked) (t : State) (second : Asked) (k : ℕ) : Type 0 where
  pub file : List ℕ
  pub point : first.point ≡ Some (file, k)
  pub first_skip : first.skip ≡ 0
  pub second_skip : second.skip ≡ 0
  pub start : point_state trace s first ≡ Some t

-- a second run is the rest of a first one behind its point
pub record IsRestOf (trace : Trace) (s : State) (first : Asked) (t : State) (second : Asked) : Type 0 where
  -- the instructions with their numbers, addresses and all else
  pub items : timed_items trace s first ≡ timed_items trace s (up_to_point first) ++ timed_items trace t second
  pub text : text_of (timed_items trace s first) ≡ text_of (timed_items trace s (up_to_point first)) ++ text_of (timed_items trace t second)
  pub output : outputs_of (timed_items trace s first) ≡ outputs_of (timed_items trace s (up_to_point first)) ++ outputs_of (timed_items trace t second)
  pub counts : statistics_of (timed_items trace s first) ≡ joined (statistics_of (timed_items trace s (up_to_point first))) (statistics_of (timed_items trace t second))
  pub state : cut_state trace s first ≡ cut_state trace t second
  -- and the end, where the second may do a step
  pub end : 0 < to_do trace t second → cut_end trace s first ≡ cut_end trace t second
