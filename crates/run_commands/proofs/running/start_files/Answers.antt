use Rattle.std.proofs.Common.{List, ℕ, Option, subst}
use Rattle.std.specs.Option.{option_copied}
use Rattle.sim_watch.specs.Watch.{WritesOrCut}
use Rattle.cut_run.specs.Comes.{asked_by}
use Rattle.journal.specs.Laws.{cut_within}
use Rattle.run_commands.specs.Outcome.{point_file, start_of}
use Rattle.run_commands.proofs.Runs.{written_behind}
use Rattle.run_commands.proofs.running.start_files.Goals as goal

pub returns-in-Ok : goal.returns-in-Ok
returns-in-Ok g c =
    let v = g.O.Outside.view in
    let b = c.start_named.new.outside in
    let P : Option (List ℕ) → Type 0 = λ x. WritesOrCut v b (start_of x) c.start_named-in-Ok.new.outside c.start_named-in-Ok.result in
    written_behind v c.args.outside.now b c.start_named-in-Ok.new.outside (start_of (option_copied c.args.plan.now.commits)) (start_of (point_file (asked_by c.args.plan.now).point)) c.start_named-in-Ok.result
    c.in-Ok.ensures (subst P c.point_file.ensures c.start_named-in-Ok.ensures)

pub returns-in-Err : goal.returns-in-Err
returns-in-Err g c =
    cut_within g.O.Outside.view c.args.outside.now c.start_named.new.outside (start_of (option_copied c.args.plan.now.commits)) (start_of (point_file (asked_by c.args.plan.now).point)) c.in-Err.fault c.in-Err.ensures
