use Rattle.journal.specs.Laws.{cut_none}
use Rattle.sim_safe.specs.Record.{item_of}
use Rattle.sim_safe.specs.Commit.{line_of}
use Rattle.sim_watch.proofs.Items.{line_by_piece}
use Rattle.sim_watch.proofs.watch.write_line.Goals as goal

pub returns-in-Err : goal.returns-in-Err
returns-in-Err g c = cut_none _ _ _

pub returns : goal.returns
returns g c =
    line_by_piece g.O.Outside.view c.args.outside.now c.write_long.new.outside c.args.file.now c.args.pending.now.items (line_of (item_of c.args.trace.now c.args.r.now)) c.commit_line.new.into.items c.write_long.new.pending.items c.write_long.result c.in-Ok.ensures.ok c.write_long.ensures
