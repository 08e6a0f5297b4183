use Rattle.std.proofs.Common.{◌≡◌, take}
use Rattle.ooo_plain.proofs.row.Places.of.Given as goal

abbrev pub invariant-loop-place : goal.invariant-loop-place
invariant-loop-place l = l.items.items ≡ take l.place-index l.places
