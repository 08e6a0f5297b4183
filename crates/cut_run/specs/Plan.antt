-- A run that skips its first steps, and leaves a point on its way.
use Rattle.std.specs.Prelude.{◌≡◌, ◌-◌, ◌^◌, ℕ, Bool, List, ◌++◌, length, min, Option, Some, None, is_some, nat_lt, nat_le, bytes_eq, false, ◌&&◌, ◌||◌, if◌then◌else◌}
use Rattle.event_trace.specs.declared.trace.Trace.{Trace}
use Rattle.journal.specs.Write.{Journal}
use Rattle.sim_safe.specs.declared.observer.RunEnd.{RunEnd}
use Rattle.sim_safe.specs.State.{State}
use Rattle.sim_safe.specs.Record.{Item}
use Rattle.sim_safe.specs.Run.{items_of, after, end_of}
use Rattle.cut_run.specs.Parts.{is_cut_short, skipped_writes, timed_writes}

-- the most instructions that a run of up to n does: it ends where 10^15 are done
abbrev pub limited : State → ℕ → ℕ
limited s n = min n (10 ^ 15 - s.icnt)

-- what is asked of a run: to skip so many steps, to do at most so many behind them, their commit text in a file that may be named, and
-- a point in a file once so many instructions are done, those that are skipped among them
pub record Asked : Type 0 where
  pub skip : ℕ
  pub most : ℕ
  pub commits : Option (List ℕ)
  pub point : Option (List ℕ × ℕ)

-- a point whose place passes a test, at a place that follows from it
abbrev pub filtered : (ℕ → Bool) → (ℕ → ℕ) → Option (List ℕ × ℕ) → Option (List ℕ × ℕ)
filtered test place None = None
filtered test place (Some p) = if test p.1 then Some (p.0, place p.1) else None

module _ (trace : Trace) (s : State) (asked : Asked) where
  -- ---- the skipped part

  abbrev pub to_skip : ℕ
  to_skip = limited s asked.skip

  abbrev pub skipped : ℕ
  skipped = length (items_of trace to_skip s)

  -- the state before the timed part
  abbrev pub timed_start : State
  timed_start = after trace to_skip s

  -- the run ends in the skipped part: fewer steps were done than were to be skipped, or the program has exited behind them
  abbrev pub ends_early : Bool
  ends_early = nat_lt 0 to_skip && (nat_lt skipped to_skip || is_some timed_start.ended)

  -- ---- the timed part

  abbrev pub to_do : ℕ
  to_do = if ends_early then 0 else limited timed_start asked.most

  abbrev pub timed_items : List Item
  timed_items = items_of trace to_do timed_start

  -- how the run ends, and the state that it leaves
  abbrev pub cut_end : RunEnd
  cut_end = if ends_early then end_of trace to_skip s else end_of trace to_do timed_start

  abbrev pub cut_state : State
  cut_state = after trace to_do timed_start

  -- ---- the point

  -- it is taken in the skipped part where it is asked for behind no more steps than are to be skipped
  abbrev pub skipped_point : Option (List ℕ × ℕ)
  skipped_point = filtered (λ at. nat_le at to_skip) (λ at. at) asked.point

  -- and else in the timed part, or at its end where that comes first
  abbrev pub timed_point : Option (List ℕ × ℕ)
  timed_point = filtered (λ at. nat_lt to_skip at) (λ at. min (at - to_skip) to_do) asked.point

  -- it has too many pages: then it is not taken, and ends the run
  abbrev pub is_too_long : Bool
  is_too_long = is_cut_short trace s skipped_point || is_cut_short trace timed_start timed_point

  -- ---- what is written

  -- the output of both parts, the commit text of the timed one, and the point where it is taken
  unfoldable pub cut_journal : Journal
  cut_journal =
      if is_cut_short trace s skipped_point then skipped_writes trace to_skip s skipped_point
      else timed_writes trace asked.commits to_do timed_start timed_point ++ skipped_writes trace to_skip s skipped_point

-- the point goes to another file
abbrev pub PointElsewhere : List ℕ → Option (List ℕ × ℕ) → Type 0
PointElsewhere file None = Unit {0}
PointElsewhere file (Some p) = bytes_eq file p.0 ≡ false
