use Rattle.std.specs.Prelude.{map, string_bytes, [], ◌∷◌, None}
use Rattle.std.proofs.Common.{arith}
use Rattle.sim_safe.specs.State.{state_of, start_state}
use Rattle.sim_safe.specs.Run.{items_of, after}
use Rattle.sim_watch.specs.Watch.{run_journal}
use Rattle.cut_run.specs.Plan.{limited}
use Rattle.journal.specs.Write.{Report, Append, Start}
use Rattle.journal.specs.Laws.{gave_up_cut}
use Rattle.run_commands.specs.Outcome.{end_report, recorded_end, trace_text}
use Rattle.run_commands.specs.Parts.{made_for, recorded_of}
use Rattle.run_commands.proofs.Runs.{start_icnt, recorded_is, started_record_ends, cut_before, memory_before}
use Rattle.run_commands.proofs.recording.record_program.Goals as goal

pub returns-in-Err-clause-ends : goal.returns-in-Err-clause-ends
returns-in-Err-clause-ends g c =
    let r = c.args.request.now in
    let p = c.args.program in
    let s = start_state p.image (map string_bytes r.args.now) in
    let n = limited s r.max_inst in
    let made = made_for r p in
    cut_before g.O.Outside.view c.args.outside.now c.start.new.self (Report (end_report 0 (items_of made.0 n s) (recorded_end made n s) (after made.0 n s))) (Append r.out.now (trace_text made.0) ∷ run_journal None (items_of made.0 n s)) (Start r.out.now ∷ []) c.in-Err.fault
    (gave_up_cut g.O.Outside.view c.args.outside.now c.start.new.self (Start r.out.now ∷ []) c.in-Err.fault c.in-Err.ensures)

pub record_from-requires-clause-count : goal.record_from-requires-clause-count
record_from-requires-clause-count g c =
    omega (arith, start_icnt _ _ _ c.in-Ok-start.ensures.state, c.min-n.ensures, c.saturating_sub-room.ensures, c.icnt.ensures)

pub returns-in-Ok-start-clause-ends : goal.returns-in-Ok-start-clause-ends
returns-in-Ok-start-clause-ends g c =
    let r = c.args.request.now in
    let p = c.args.program in
    let s = state_of c.in-Ok-start.arch in
    let n = c.min-n.result in
    started_record_ends g.O.Outside.view c.args.outside.now c.start.new.self c.record_from.new.outside c.new-recorder.result n s r.out.now (recorded_of r p) c.record_from.result
    (recorded_is p.world p.image.text.big r.out.now c.new-recorder.result r.max_inst n c.icnt.result c.saturating_sub-room.result s (start_state p.image (map string_bytes r.args.now)) c.new-recorder.ensures c.in-Ok-start.ensures.state c.icnt.ensures c.saturating_sub-room.ensures c.min-n.ensures)
    c.in-Ok.ensures c.record_from.ensures.ends

pub returns-in-Err-TooLong-clause-ends : goal.returns-in-Err-TooLong-clause-ends
returns-in-Err-TooLong-clause-ends g c =
    let r = c.args.request.now in
    let p = c.args.program in
    let s = start_state p.image (map string_bytes r.args.now) in
    let n = limited s r.max_inst in
    let made = made_for r p in
    memory_before g.O.Outside.view c.args.outside.now c.start.new.self (Report (end_report 0 (items_of made.0 n s) (recorded_end made n s) (after made.0 n s))) (Append r.out.now (trace_text made.0) ∷ run_journal None (items_of made.0 n s)) (Start r.out.now ∷ []) c.in-Ok.ensures
