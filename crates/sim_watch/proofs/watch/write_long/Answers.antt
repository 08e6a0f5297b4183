use Rattle.std.proofs.Common.{arith}
use Rattle.sim_watch.proofs.Items.{piece_cut}
use Rattle.sim_watch.proofs.watch.write_long.Goals as goal

pub returns-in-Err : goal.returns-in-Err
returns-in-Err g c =
    piece_cut g.O.Outside.view c.args.outside.now c.append.new.self c.args.file.now c.args.pending.now.items c.as_slice.result.now c.in-Err.fault (search arith) c.as_slice.ensures.value c.in-Err.ensures
