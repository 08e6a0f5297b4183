use Rattle.std.proofs.Common.{[], ◌∷◌}
use Rattle.std.specs.Prelude.{None}
use Rattle.sim_safe.specs.State.{state_of}
use Rattle.sim_safe.specs.Run.{items_of, after}
use Rattle.sim_watch.specs.Recorded.{made_of}
use Rattle.sim_watch.specs.Watch.{run_journal}
use Rattle.journal.specs.Write.{Report, Append}
use Rattle.run_commands.specs.Outcome.{end_report, recorded_end, trace_text}
use Rattle.run_commands.proofs.Runs.{recorded_ends, recorded_trace_is, cut_before, trace_gave_up}
use Rattle.run_commands.proofs.recording.record_from.Goals as goal

pub returns-in-Err-clause-ends : goal.returns-in-Err-clause-ends
returns-in-Err-clause-ends g c =
    let s = state_of c.args.arch in
    let n = c.args.n in
    let made = made_of c.args.recorder n s in
    cut_before g.O.Outside.view c.args.outside.now c.watched_record.new.outside (Report (end_report 0 (items_of made.0 n s) (recorded_end made n s) (after made.0 n s))) (Append c.args.out.now (trace_text made.0) ∷ []) (run_journal None (items_of made.0 n s)) c.in-Err.fault c.in-Err.ensures.writes

pub returns-in-Ok-append_trace-clause-ends : goal.returns-in-Ok-append_trace-clause-ends
returns-in-Ok-append_trace-clause-ends g c =
    let s = state_of c.args.arch in
    let run = c.in-Ok.run' in
    recorded_ends g.O.Outside.view c.args.outside.now c.watched_record.new.outside c.append_trace.new.outside c.report_run.new.outside c.args.recorder c.args.n s c.watched_record.new.recorder (state_of c.watched_record.new.arch) run c.run_end.result c.pc-pc.result c.icnt-icnt.result c.args.out.now c.report_run.result
    c.in-Ok.ensures.ends c.run_end.ensures c.pc-pc.ensures c.icnt-icnt.ensures c.in-Ok.ensures.writes c.in-Ok-append_trace.ensures.writes c.report_run.ensures

pub returns-clause-ends : goal.returns-clause-ends
returns-clause-ends g c =
    let s = state_of c.args.arch in
    let n = c.args.n in
    let made = made_of c.args.recorder n s in
    trace_gave_up g.O.Outside.view c.args.outside.now c.watched_record.new.outside c.append_trace.new.outside made.0 c.watched_record.new.recorder.trace c.args.out.now (Report (end_report 0 (items_of made.0 n s) (recorded_end made n s) (after made.0 n s))) (run_journal None (items_of made.0 n s)) c.in-Err-append_trace.fault
    (recorded_trace_is c.args.recorder n s c.watched_record.new.recorder (state_of c.watched_record.new.arch) c.in-Ok.run' c.in-Ok.ensures.ends) c.in-Ok.ensures.writes c.in-Err-append_trace.ensures.writes
