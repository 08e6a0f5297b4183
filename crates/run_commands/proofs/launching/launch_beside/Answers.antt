use Rattle.std.proofs.Common.{[], Some, ap}
use Rattle.std.specs.Prelude.{map, string_bytes}
use Rattle.std.specs.Option.{option_copied}
use Rattle.run_commands.specs.Program.{trace_limit}
use Rattle.run_commands.specs.Launching.{LoadedProgram}
use Rattle.run_commands.proofs.Launches.{named_launch, unnamed_launch, launch_found, launch_long}
use Rattle.run_commands.proofs.launching.launch_beside.Goals as goal

pub returns-in_default-clause-launches : goal.returns-in_default-clause-launches
returns-in_default-clause-launches g c =
    let r = c.args.request in
    unnamed_launch g.O.Outside.view c.args.outside.now c.launch_loaded.new.outside trace_limit (option_copied r.trace) [] (λ calls fs. LoadedProgram c.args.object c.args.point calls (map string_bytes r.args.now)) c.launch_loaded.result
    (ap (λ t. option_copied t) c.in_default.is) c.launch_loaded.ensures.launches

pub returns-in-Ok-Whole-clause-launches : goal.returns-in-Ok-Whole-clause-launches
returns-in-Ok-Whole-clause-launches g c =
    let v = g.O.Outside.view in
    let r = c.args.request in
    let args = map string_bytes r.args.now in
    let bytes = c.in-Ok-Whole.calls in
    named_launch v c.args.outside.now c.launch_loaded-in-Ok-Whole.new.outside trace_limit (option_copied r.trace) c.in-Some.name.now [] (λ calls fs. LoadedProgram c.args.object c.args.point calls args) c.launch_loaded-in-Ok-Whole.result (ap (λ t. option_copied t) c.in-Some.is)
    (launch_found v c.args.outside.now c.find_file.new.outside c.launch_loaded-in-Ok-Whole.new.outside trace_limit c.in-Some.name.now bytes [] (λ x fs. LoadedProgram c.args.object c.args.point (Some x) args) c.launch_loaded-in-Ok-Whole.result
    (rw c.in-Ok-Whole.field-0-is at c.in-Ok-Whole.ensures) c.launch_loaded-in-Ok-Whole.ensures.launches)

pub returns-in-Ok-TooLong-clause-launches : goal.returns-in-Ok-TooLong-clause-launches
returns-in-Ok-TooLong-clause-launches g c =
    let v = g.O.Outside.view in
    let r = c.args.request in
    let args = map string_bytes r.args.now in
    named_launch v c.args.outside.now c.refuse_long.new.outside trace_limit (option_copied r.trace) c.in-Some.name.now [] (λ calls fs. LoadedProgram c.args.object c.args.point calls args) c.refused.result (ap (λ t. option_copied t) c.in-Some.is)
    (launch_long v c.args.outside.now c.find_file.new.outside c.refuse_long.new.outside trace_limit c.in-Some.name.now [] (λ x fs. LoadedProgram c.args.object c.args.point (Some x) args) c.refuse_long.result c.refused.result c.refused.ensures
    (rw c.in-Ok-TooLong.field-0-is at c.in-Ok-TooLong.ensures) c.refuse_long.ensures)
