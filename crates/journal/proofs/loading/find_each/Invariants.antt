use Rattle.std.proofs.Common.{take}
use Rattle.std.specs.Prelude.{map}
use Rattle.journal.specs.Load.{inputs, FoundAll}
use Rattle.journal.proofs.loading.find_each.Given as goal

abbrev pub invariant-loop-at : goal.invariant-loop-at
invariant-loop-at g l = FoundAll g.O.Outside.view l.fn.outside (take l.at (inputs (map (λ n. n.now) l.names) l.limit)) l.outside l.files.items
