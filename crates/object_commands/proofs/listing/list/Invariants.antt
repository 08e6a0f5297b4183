use Rattle.journal.specs.View.{Wrote}
use Rattle.object_commands.specs.Listing.{pieces_put}
use Rattle.object_commands.proofs.listing.list.Given as goal

abbrev pub invariant-loop-k : goal.invariant-loop-k
invariant-loop-k g l = Wrote g.O.Outside.view l.fn.outside (pieces_put l.text l.k) l.outside
