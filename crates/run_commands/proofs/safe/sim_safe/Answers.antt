use Rattle.std.proofs.Common.{◌≡◌, refl}
use Rattle.event_trace.specs.declared.trace.Trace.{Trace}
use Rattle.sim_safe.specs.State.{State, state_of}
use Rattle.sim_opts.specs.Borrowed.{run_in}
use Rattle.journal.specs.Outcome.{Outcome}
use Rattle.answers.specs.declared.answer.Answer.{Answer}
use Rattle.run_commands.specs.Outcome.{asked_of, ran}
use Rattle.run_commands.specs.LaunchLaws.{ready_goes, refused_goes, gave_up_goes}
use Rattle.run_commands.proofs.safe.sim_safe.Goals as goal

pub returns-in-Ok-Ready : goal.returns-in-Ok-Ready
returns-in-Ok-Ready g c =
    let r = run_in c.args.request in
    let p = c.in-Ok-Ready.program in
    let Next : Outcome Answer → Trace → State → Type 0 = λ o given s. o ≡ ran given (asked_of r) s in
    let launched = rw c.in-Ok-Ready.field-0-is at c.in-Ok-Ready.ensures.launches in
    ready_goes g.O.Outside.view c.args.outside.now c.launch.new.outside c.run_program.new.outside r p Next (ran p.trace (asked_of r) (state_of p.arch)) c.run_program.result launched refl c.run_program.ensures

pub returns-in-Ok-Refused : goal.returns-in-Ok-Refused
returns-in-Ok-Refused g c =
    let r = run_in c.args.request in
    let Next : Outcome Answer → Trace → State → Type 0 = λ o given s. o ≡ ran given (asked_of r) s in
    refused_goes g.O.Outside.view c.args.outside.now c.launch.new.outside r c.in-Ok-Refused.answer Next (rw c.in-Ok-Refused.field-0-is at c.in-Ok-Refused.ensures.launches)

pub returns-in-Err : goal.returns-in-Err
returns-in-Err g c =
    let r = run_in c.args.request in
    let Next : Outcome Answer → Trace → State → Type 0 = λ o given s. o ≡ ran given (asked_of r) s in
    gave_up_goes g.O.Outside.view c.args.outside.now c.launch.new.outside r c.in-Err.fault Next c.in-Err.ensures.launches
