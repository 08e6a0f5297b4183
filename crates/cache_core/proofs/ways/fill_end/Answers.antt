use Rattle.cache_core.proofs.Accesses.{fill_end_held, fill_end_none}
use Rattle.cache_core.proofs.ways.fill_end.Goals as goal

pub returns-in-Some : goal.returns-in-Some
returns-in-Some c = λ shape n sound. fill_end_held shape n c.args.block c.in-Some.place c.args.ways.now sound (rw c.in-Some.is at c.place_of.ensures)

pub returns-in-None : goal.returns-in-None
returns-in-None c = λ shape n sound. fill_end_none n c.args.block c.args.ways.now (rw c.in-None.is at c.place_of.ensures)
