use Rattle.std.proofs.Common.{take}
use Rattle.journal.specs.View.{Wrote}
use Rattle.sim_watch.specs.Skip.{records_journal}
use Rattle.sim_watch.proofs.skipping.emit_records.Given as goal

abbrev pub invariant-loop-record : goal.invariant-loop-record
invariant-loop-record g l = Wrote g.O.Outside.view l.fn.outside (records_journal (take l.record-index l.records)) l.outside
