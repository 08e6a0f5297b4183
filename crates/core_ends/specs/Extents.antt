-- What the parts of a core hold where a run has come so far, and where it is over.
use Rattle.std.specs.Prelude.{◌≡◌, ℕ, ◌+◌, ◌≤◌, true, false, List, [], ◌&&◌, count_by}
use Rattle.pisa_step.specs.declared.cause.Cause.{Cause}
use Rattle.sim_safe.specs.State.{state_of}
use Rattle.sim_safe.specs.Run.{after}
use Rattle.mem_hier.specs.Stands as hierarchy
use Rattle.bpred_unit.specs.Stands as predictor
use Rattle.ooo_table.specs.Row.{Row}
use Rattle.ooo_table.specs.Done.{live}
use Rattle.ooo_table.specs.Cycle.{table, after_dispatch}
use Rattle.ooo_table.specs.Ends.{Extent, Whole, AtCommit, AtStop, rows_at}
use Rattle.ooo_table.specs.Finish.{references_by, predictor_events_by}
use Rattle.ooo_table.specs.Machine.{Given, setting_of}
use Rattle.ooo_table.specs.RunLaws.{commits_among, IsWhole}
use Rattle.core_parts.specs.declared.parts.Parts.{Parts}
use Rattle.core_parts.specs.Stands.{Stands}

-- The parts stand for the table behind c whole cycles; in the next one, where it ends with the commit of this row; or behind
-- its dispatches, where the machine stops in it.
abbrev pub StandsAt : Given → Extent → ℕ → Parts → Type 0
StandsAt g Whole c parts = Stands g c false parts (table (setting_of g) c)
StandsAt g (AtCommit row) c parts = Stands g c false parts (record (table (setting_of g) c) { rows = rows_at (setting_of g) (AtCommit row) c })
StandsAt g AtStop c parts = Stands g c true parts (after_dispatch (setting_of g) c)

-- the right rows in flight
abbrev pub right_in_flight : List Row → ℕ
right_in_flight rows = count_by (λ r. r.fetched.right && live r) rows

-- the steps of the functional run that these rows have done: those of the rows that have committed, and of the right rows in
-- flight
abbrev pub steps_done : List Row → ℕ
steps_done rows = commits_among rows + right_in_flight rows

module _ (g : Given) (e : Extent) (c : ℕ) where
  -- the rows so far
  abbrev pub so_far : List Row
  so_far = rows_at (setting_of g) e c

  -- The state is that of the functional run behind those steps, and has counted them.
  pub record HasState (parts : Parts) : Type 0 where
    pub state : state_of parts.arch ≡ after g.trace (steps_done so_far) g.start
    pub instructions : parts.arch.icnt ≡ g.start.icnt + steps_done so_far

  -- The hierarchy and the predictor are those of all that the run has asked of them.
  pub record HasHistories (parts : Parts) : Type 0 where
    pub hierarchy : hierarchy.StandsFor parts.hier g.hier (references_by (setting_of g) e c)
    pub predictor : predictor.StandsFor parts.predictor g.pred (predictor_events_by (setting_of g) e c)

  -- The commits are the whole functional run, which ends for this cause, and the state is the one in which it ends. No row is
  -- live.
  pub record IsOver (why : Cause) (parts : Parts) : Type 0 where
    pub whole : IsWhole g so_far why
    pub state : (n : ℕ) → commits_among so_far ≤ n → after g.trace n g.start ≡ state_of parts.arch
    pub instructions : parts.arch.icnt ≡ g.start.icnt + commits_among so_far
    pub unit : parts.unit.rows ≡ []
