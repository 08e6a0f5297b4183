use Rattle.std.specs.Prelude.{[], ◌∷◌}
use Rattle.journal.specs.Write.{Append}
use Rattle.sim_watch.proofs.Runs.{written_or_cut}
use Rattle.sim_watch.proofs.run.write_rest.Goals as goal

pub returns-in-Some : goal.returns-in-Some
returns-in-Some g c = rw c.in-Some.is (written_or_cut g.O.Outside.view c.args.outside.now c.append.new.self (Append c.in-Some.name.now c.args.pending.now ∷ []) c.append.result c.append.ensures)
