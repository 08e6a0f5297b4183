use Rattle.std.proofs.Common.{[]}
use Rattle.std.specs.Option.{option_copied}
use Rattle.sim_opts.specs.Borrowed.{run_in}
use Rattle.run_commands.specs.Program.{named_input, object_limit, point_limit, trace_limit}
use Rattle.run_commands.specs.Launching.{ObjectProgram}
use Rattle.run_commands.proofs.Launches.{launch_found, launch_long, launch_unloaded}
use Rattle.run_commands.proofs.launching.launch.Goals as goal

pub returns-in-Ok-Whole-clause-launches : goal.returns-in-Ok-Whole-clause-launches
returns-in-Ok-Whole-clause-launches g c =
    let r = c.args.request in
    let others = named_input point_limit (option_copied r.restart) (named_input trace_limit (option_copied r.trace) []) in
    launch_found g.O.Outside.view c.args.outside.now c.find_file.new.outside c.launch_object.new.outside object_limit r.object.now c.in-Ok-Whole.object others (λ x fs. ObjectProgram (run_in r) x fs) c.launch_object.result
    (rw c.in-Ok-Whole.field-0-is at c.in-Ok-Whole.ensures) c.launch_object.ensures.launches

pub returns-in-Ok-TooLong-clause-launches : goal.returns-in-Ok-TooLong-clause-launches
returns-in-Ok-TooLong-clause-launches g c =
    let r = c.args.request in
    let others = named_input point_limit (option_copied r.restart) (named_input trace_limit (option_copied r.trace) []) in
    launch_long g.O.Outside.view c.args.outside.now c.find_file.new.outside c.refuse_long.new.outside object_limit r.object.now others (λ x fs. ObjectProgram (run_in r) x fs) c.refuse_long.result c.refused.result c.refused.ensures
    (rw c.in-Ok-TooLong.field-0-is at c.in-Ok-TooLong.ensures) c.refuse_long.ensures

pub returns-in-Err-clause-launches : goal.returns-in-Err-clause-launches
returns-in-Err-clause-launches g c =
    let r = c.args.request in
    let others = named_input point_limit (option_copied r.restart) (named_input trace_limit (option_copied r.trace) []) in
    launch_unloaded g.O.Outside.view c.args.outside.now c.find_file.new.outside object_limit r.object.now others (λ x fs. ObjectProgram (run_in r) x fs) c.in-Err.fault c.in-Err.ensures
