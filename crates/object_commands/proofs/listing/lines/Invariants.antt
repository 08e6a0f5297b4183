use Rattle.std.proofs.Common.{◌≡◌, ◌-◌}
use Rattle.object_commands.specs.Listing.{lines_from}
use Rattle.object_commands.proofs.listing.lines.Given as goal

abbrev pub invariant-loop-k : goal.invariant-loop-k
invariant-loop-k l = l.piece.items ≡ lines_from l.text l.from (l.k - l.from)
