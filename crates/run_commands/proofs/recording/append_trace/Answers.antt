use Rattle.journal.specs.Laws.{gave_up_none}
use Rattle.run_commands.proofs.Named.{trace_added}
use Rattle.run_commands.proofs.recording.append_trace.Goals as goal

pub returns-in-Ok-clause-writes : goal.returns-in-Ok-clause-writes
returns-in-Ok-clause-writes g c =
    trace_added g.O.Outside.view c.args.outside.now c.append.new.self c.args.out.now c.as_slice.result.now c.in-Ok.bytes.items c.trace.result.now c.args.recorder.now.trace c.append.result c.as_slice.ensures.value c.in-Ok.ensures c.trace.ensures.same c.append.ensures

pub returns-in-Err-clause-writes : goal.returns-in-Err-clause-writes
returns-in-Err-clause-writes g c = gave_up_none _ _ _ _
