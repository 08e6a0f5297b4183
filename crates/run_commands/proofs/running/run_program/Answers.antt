use Rattle.sim_safe.specs.State.{state_of}
use Rattle.cut_run.specs.Comes.{asked_by}
use Rattle.sim_opts.specs.Borrowed.{run_in}
use Rattle.run_commands.specs.Outcome.{asked_of}
use Rattle.run_commands.proofs.Runs.{started_ends, unstarted}
use Rattle.run_commands.proofs.running.run_program.Goals as goal

pub returns-in-Err : goal.returns-in-Err
returns-in-Err g c =
    let p = c.args.program in
    unstarted g.O.Outside.view c.args.outside.now c.start_files.new.outside p.trace (asked_by c.plan_of-plan.result) (asked_of (run_in c.args.request)) (state_of p.arch) c.in-Err.fault c.plan_of-plan.ensures c.in-Err.ensures

pub returns : goal.returns
returns g c =
    let p = c.args.program in
    started_ends g.O.Outside.view c.args.outside.now c.start_files.new.outside c.run_planned.new.outside p.trace (asked_by c.plan_of-plan.result) (asked_of (run_in c.args.request)) (state_of p.arch) c.run_planned.result c.plan_of-plan.ensures
    c.in-Ok.ensures c.run_planned.ensures
