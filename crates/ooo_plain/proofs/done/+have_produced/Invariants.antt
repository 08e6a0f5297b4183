use Rattle.std.proofs.Common.{length}
use Rattle.ooo_plain.proofs.done.+have_produced.Given as goal

abbrev pub decreases-have_produced : goal.decreases-have_produced
decreases-have_produced l = length l.places.now
