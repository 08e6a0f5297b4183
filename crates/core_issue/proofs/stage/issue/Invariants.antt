use Rattle.core_issue.proofs.Loop.{Going}
use Rattle.core_issue.proofs.Stays.{above_count}
use Rattle.core_issue.proofs.stage.issue.Given as goal

abbrev pub invariant-loop-t : goal.invariant-loop-t
invariant-loop-t l = Going l.cycle l.fn.parts l.parts l.after l.issued.items

abbrev pub decreases-loop-t : goal.decreases-loop-t
decreases-loop-t l = above_count l.after l.parts
