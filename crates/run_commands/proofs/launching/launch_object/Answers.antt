use Rattle.std.proofs.Common.{[], Some, Result, Err, ap}
use Rattle.std.specs.Option.{option_copied}
use Rattle.sim_opts.specs.Borrowed.{run_in}
use Rattle.run_commands.specs.Program.{named_input, point_limit, trace_limit}
use Rattle.journal.specs.declared.fault.Fault.{Fault}
use Rattle.run_commands.specs.declared.launching.Launched.{Launched}
use Rattle.run_commands.specs.Launching.{BesideProgram}
use Rattle.run_commands.proofs.Launches.{named_launch, launch_found, launch_long, launch_unloaded}
use Rattle.run_commands.proofs.launching.launch_object.Goals as goal

pub returns-in-Ok-Whole-clause-launches : goal.returns-in-Ok-Whole-clause-launches
returns-in-Ok-Whole-clause-launches g c =
    let v = g.O.Outside.view in
    let r = c.args.request in
    let others = named_input trace_limit (option_copied r.trace) [] in
    let bytes = c.in-Ok-Whole.point in
    named_launch v c.args.outside.now c.launch_beside-in-Ok-Whole.new.outside point_limit (option_copied r.restart) c.in-Some.file.now others (λ point fs. BesideProgram (run_in r) c.args.object point fs) c.launch_beside-in-Ok-Whole.result (ap (λ t. option_copied t) c.in-Some.is)
    (launch_found v c.args.outside.now c.find_file.new.outside c.launch_beside-in-Ok-Whole.new.outside point_limit c.in-Some.file.now bytes others (λ x fs. BesideProgram (run_in r) c.args.object (Some x) fs) c.launch_beside-in-Ok-Whole.result
    (rw c.in-Ok-Whole.field-0-is at c.in-Ok-Whole.ensures) c.launch_beside-in-Ok-Whole.ensures.launches)

pub returns-in-Ok-TooLong-clause-launches : goal.returns-in-Ok-TooLong-clause-launches
returns-in-Ok-TooLong-clause-launches g c =
    let v = g.O.Outside.view in
    let r = c.args.request in
    let others = named_input trace_limit (option_copied r.trace) [] in
    named_launch v c.args.outside.now c.refuse_long.new.outside point_limit (option_copied r.restart) c.in-Some.file.now others (λ point fs. BesideProgram (run_in r) c.args.object point fs) c.refused.result (ap (λ t. option_copied t) c.in-Some.is)
    (launch_long v c.args.outside.now c.find_file.new.outside c.refuse_long.new.outside point_limit c.in-Some.file.now others (λ x fs. BesideProgram (run_in r) c.args.object (Some x) fs) c.refuse_long.result c.refused.result c.refused.ensures
    (rw c.in-Ok-TooLong.field-0-is at c.in-Ok-TooLong.ensures) c.refuse_long.ensures)

pub returns-in-Err-clause-launches : goal.returns-in-Err-clause-launches
returns-in-Err-clause-launches g c =
    let v = g.O.Outside.view in
    let r = c.args.request in
    let gave_up : Result Launched Fault = Err c.in-Err.fault in
    let others = named_input trace_limit (option_copied r.trace) [] in
    named_launch v c.args.outside.now c.find_file.new.outside point_limit (option_copied r.restart) c.in-Some.file.now others (λ point fs. BesideProgram (run_in r) c.args.object point fs) gave_up (ap (λ t. option_copied t) c.in-Some.is)
    (launch_unloaded v c.args.outside.now c.find_file.new.outside point_limit c.in-Some.file.now others (λ x fs. BesideProgram (run_in r) c.args.object (Some x) fs) c.in-Err.fault c.in-Err.ensures)
