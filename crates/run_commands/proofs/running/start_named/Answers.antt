use Rattle.std.specs.Prelude.{[], ◌∷◌}
use Rattle.journal.specs.Write.{Start}
use Rattle.run_commands.proofs.Runs.{written_or_cut}
use Rattle.run_commands.proofs.running.start_named.Goals as goal

pub returns-in-Some : goal.returns-in-Some
returns-in-Some g c = rw c.in-Some.is (written_or_cut g.O.Outside.view c.args.outside.now c.start.new.self (Start c.in-Some.name.now ∷ []) c.start.result c.start.ensures)
