use Rattle.std.specs.Prelude.{[], map, string_bytes}
use Rattle.event_trace.specs.World.{files_of}
use Rattle.answers.specs.Judging.{JudgesObject}
use Rattle.answers.specs.JudgingLaws.{object_never, comes_refused, refuses_map}
use Rattle.run_commands.specs.Outcome.{world_of}
use Rattle.run_commands.specs.Replay.{IsRecorded}
use Rattle.run_commands.specs.Parts.{LoadedRecords}
use Rattle.run_commands.proofs.Recordings.{loaded_comes}
use Rattle.run_commands.proofs.recording.record_loaded.Goals as goal

pub returns-in-Ok : goal.returns-in-Ok
returns-in-Ok g c =
    loaded_comes g.O.Outside.view c.args.outside.now c.record_program.new.outside c.args.request.now c.args.object.now c.args.input.items (files_of c.args.files.items) c.in-Ok.image c.enclose-program.result c.record_program.result
    c.enclose-program.ensures c.in-Ok.ensures.judged c.record_program.ensures.valid c.record_program.ensures.ends

pub returns-in-Err : goal.returns-in-Err
returns-in-Err g c =
    let r = c.args.request.now in
    let object = c.args.object.now in
    let given = c.args.input.items in
    let files = files_of c.args.files.items in
    comes_refused g.O.Outside.view c.args.outside.now [] c.refuse.new.outside (λ _. LoadedRecords r object given files c.refuse.result) c.in-Err.refusal c.refuse.result
    (λ _. refuses_map c.in-Err.refusal (λ o. JudgesObject object o (λ _. ⊥)) (LoadedRecords r object given files c.refuse.result)
    (λ o. object_never object o (λ image. IsRecorded r.out.now r.max_inst r.object.now (map string_bytes r.args.now) c.refuse.result o object image (world_of given files image)))
    c.in-Err.ensures.judged)
    c.refuse.ensures
