use Rattle.std.proofs.Common.{◌≡◌, ◌≤◌, take}
use Rattle.run_commands.specs.Outcome.{greatest_end}
use Rattle.run_commands.proofs.world.greatest_end.Given as goal

abbrev pub invariant-loop-part : goal.invariant-loop-part
invariant-loop-part l = record { end : l.end ≡ greatest_end (take l.part-index l.parts); bound : l.end ≤ 0x7ff00000 }
