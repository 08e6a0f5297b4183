-- The parts of a cut run: what each writes, and what it comes to.
use Rattle.std.specs.Prelude.{◌≡◌, ◌+◌, ◌-◌, ◌≤◌, ℕ, Bool, true, false, List, [], ◌∷◌, ◌++◌, length, not, Option, Some, None, Result, Ok, Err, nat_lt, if◌then◌else◌}
use Rattle.event_trace.specs.declared.trace.Trace.{Trace}
use Rattle.journal.specs.declared.fault.Fault.{Fault}
use Rattle.journal.specs.Write.{Journal, Append}
use Rattle.sim_safe.specs.State.{State}
use Rattle.sim_safe.specs.declared.statistics.Statistics.{Statistics}
use Rattle.sim_safe.specs.Run.{items_of, after}
use Rattle.sim_watch.specs.declared.run.Watched.{Watched}
use Rattle.sim_watch.specs.declared.skipping.Skipped.{Skipped}
use Rattle.sim_watch.specs.Run.{RunWatched}
use Rattle.sim_watch.specs.Watch.{run_journal}
use Rattle.sim_watch.specs.Skip.{skip_journal, RunSkipped}
use Rattle.checkpoint.specs.Grammar.{point_bytes}
use Rattle.cut_run.specs.declared.cut.PointFile.{PointFile}
use Rattle.cut_run.specs.Point.{point_of, most_pages}

-- ---- a point

abbrev pub is_large_at : State → Bool
is_large_at s = nat_lt most_pages (length (point_of s).pages)

-- a point that has too many pages is not written
abbrev pub point_writes : State → List ℕ → Journal
point_writes s file = if is_large_at s then [] else Append file (point_bytes (point_of s)) ∷ []

-- it was written unless it has too many pages
abbrev pub PutsPoint : State → Result Bool Fault → Type 0
PutsPoint s (Ok fits) = is_large_at s ≡ not fits
PutsPoint s (Err f) = Unit {0}

-- ---- a part that is cut where a point is taken

-- the file of a point, and behind how many steps it is taken
abbrev pub point_of_part : Option PointFile → Option (List ℕ × ℕ)
point_of_part None = None
point_of_part (Some p) = Some (p.file.now, p.at)

-- what was counted in two runs
abbrev pub joined : Statistics → Statistics → Statistics
joined a b = record {
  insn = a.insn + b.insn;
  loads = a.loads + b.loads;
  stores = a.stores + b.stores;
  branches = a.branches + b.branches;
  calls = a.calls + b.calls;
}

-- what a part of n steps writes whose first k steps end where a point is taken, by what runs of some steps write
abbrev pub cut_writes : (ℕ → State → Journal) → Trace → ℕ → State → Option (List ℕ × ℕ) → Journal
cut_writes writes trace n s None = writes n s
cut_writes writes trace n s (Some p) =
    if is_large_at (after trace p.1 s) then writes p.1 s
    else writes (n - p.1) (after trace p.1 s) ++ (point_writes (after trace p.1 s) p.0 ++ writes p.1 s)

abbrev pub skipped_writes : Trace → ℕ → State → Option (List ℕ × ℕ) → Journal
skipped_writes trace n s cut = cut_writes (skip_journal trace) trace n s cut

abbrev pub timed_writes : Trace → Option (List ℕ) → ℕ → State → Option (List ℕ × ℕ) → Journal
timed_writes trace commits n s cut = cut_writes (λ k t. run_journal commits (items_of trace k t)) trace n s cut

-- the point of a part has too many pages
abbrev pub is_cut_short : Trace → State → Option (List ℕ × ℕ) → Bool
is_cut_short trace s None = false
is_cut_short trace s (Some p) = is_large_at (after trace p.1 s)

-- the cut of a part lies in it
abbrev pub CutsWithin : ℕ → Option (List ℕ × ℕ) → Type 0
CutsWithin n None = Unit {0}
CutsWithin n (Some p) = p.1 ≤ n

-- a skipped part was done, or its point has too many pages; after a fault some of its steps were done
pub record PartSkipped (trace : Trace) (n : ℕ) (s t : State) (cut : Option (List ℕ × ℕ)) (skipped : Skipped) : Type 0 where
  pub fits : is_cut_short trace s cut ≡ false
  pub run : RunSkipped trace n s t skipped

abbrev pub SkippedComes : Trace → ℕ → State → State → Option (List ℕ × ℕ) → Result (Option Skipped) Fault → Type 0
SkippedComes trace n s t cut (Ok (Some skipped)) = PartSkipped trace n s t cut skipped
SkippedComes trace n s t cut (Ok None) = is_cut_short trace s cut ≡ true
SkippedComes trace n s t cut (Err f) = (done : ℕ) × (t ≡ after trace done s)

-- so it is of a timed part
pub record PartTimed (trace : Trace) (n : ℕ) (s t : State) (cut : Option (List ℕ × ℕ)) (w : Watched) : Type 0 where
  pub fits : is_cut_short trace s cut ≡ false
  pub run : RunWatched trace n s t w

abbrev pub TimedComes : Trace → ℕ → State → State → Option (List ℕ × ℕ) → Result (Option Watched) Fault → Type 0
TimedComes trace n s t cut (Ok (Some w)) = PartTimed trace n s t cut w
TimedComes trace n s t cut (Ok None) = is_cut_short trace s cut ≡ true
TimedComes trace n s t cut (Err f) = (done : ℕ) × (t ≡ after trace done s)
