use Rattle.cache_core.proofs.Accesses.{lines_of_fill, fill_sound, lines_unfilled}
use Rattle.cache_core.proofs.ways.fill.Goals as goal

pub returns-in-Some-clause-lines : goal.returns-in-Some-clause-lines
returns-in-Some-clause-lines c = λ shape n sound. lines_of_fill shape n c.args.block c.in-Some.place c.args.end c.args.ways.now sound (rw c.in-Some.is at c.place_near.ensures)

pub returns-in-Some-clause-sound : goal.returns-in-Some-clause-sound
returns-in-Some-clause-sound c = λ shape n sound. fill_sound shape n c.args.block c.in-Some.place c.args.end c.args.ways.now sound (rw c.in-Some.is at c.place_near.ensures)

pub returns-in_default-clause-lines : goal.returns-in_default-clause-lines
returns-in_default-clause-lines c = λ shape n sound. lines_unfilled n c.args.block c.args.end c.args.ways.now (rw c.in_default.is at c.place_near.ensures)
