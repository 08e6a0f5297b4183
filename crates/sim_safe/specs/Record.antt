-- The record of what an instruction did, and what is observed of it.
use Rattle.std.specs.Prelude.{◌≡◌, ◌⊎◌, Option, Some, None, slice_get, if◌then◌else◌}
use Rattle.event_trace.specs.declared.trace.Record.{Record}
use Rattle.event_trace.specs.declared.trace.Trace.{Trace}
use Rattle.event_trace.specs.Grammar.{IsTrace, absent_trace}
use Rattle.sim_safe.specs.declared.record.CallNote.{CallNote}
use Rattle.sim_safe.specs.declared.record.CommitRecord.{CommitRecord}

-- the traces of runs: one that a file brought, or none
abbrev pub IsRunTrace : Trace → Type 0
IsRunTrace trace = (trace ≡ absent_trace) ⊎ IsTrace trace

-- an instruction that was done, and the recorded call that it used
pub record Item : Type 0 where
  pub did : CommitRecord
  pub by : Option Record

-- the recorded call that a note tells of
abbrev pub call_by : Trace → Option CallNote → Option Record
call_by trace None = None
call_by trace (Some note) = if trace.file then slice_get trace.records note.used else None

abbrev pub item_of : Trace → CommitRecord → Item
item_of trace r = record { did = r; by = call_by trace r.call }
