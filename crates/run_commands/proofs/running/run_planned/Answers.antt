use Rattle.sim_safe.specs.State.{state_of}
use Rattle.cut_run.specs.Comes.{asked_by}
use Rattle.run_commands.proofs.Runs.{run_reported, run_long, run_gave_up}
use Rattle.run_commands.proofs.running.run_planned.Goals as goal

pub returns-in-Ok-Whole : goal.returns-in-Ok-Whole
returns-in-Ok-Whole g c =
    let whole = rw c.in-Ok-Whole.field-0-is at c.in-Ok-Whole.ensures.comes in
    run_reported g.O.Outside.view c.args.outside.now c.cut_run.new.outside c.report_run.new.outside c.args.trace.now (asked_by c.args.plan.now) (state_of c.args.arch) (state_of c.cut_run.new.arch) c.in-Ok-Whole.cut c.pc-pc.result c.icnt-icnt.result c.report_run.result
    whole c.pc-pc.ensures c.icnt-icnt.ensures c.in-Ok-Whole.ensures.writes c.report_run.ensures

pub returns-in-Ok-TooLong : goal.returns-in-Ok-TooLong
returns-in-Ok-TooLong g c =
    let long = rw c.in-Ok-TooLong.field-0-is at c.in-Ok-TooLong.ensures.comes in
    run_long g.O.Outside.view c.args.outside.now c.cut_run.new.outside c.refuse_long.new.outside c.args.trace.now (asked_by c.args.plan.now) (state_of c.args.arch) c.point_name.result.now c.refuse_long.result long c.point_name.ensures
    c.in-Ok-TooLong.ensures.writes c.refuse_long.ensures

pub returns : goal.returns
returns g c =
    run_gave_up g.O.Outside.view c.args.outside.now c.cut_run.new.outside c.args.trace.now (asked_by c.args.plan.now) (state_of c.args.arch) c.in-Err.fault c.in-Err.ensures.writes
