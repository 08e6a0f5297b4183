use Rattle.std.proofs.Common.{arith}
use Rattle.ooo_plain.proofs.IssueTurns.{issue_end, issue_next}
use Rattle.ooo_plain.proofs.issue_stage.+issue_from.Goals as goal

pub returns-then-at-rows-clause-swept : goal.returns-then-at-rows-clause-swept
returns-then-at-rows-clause-swept t c = λ g base start e h.
    issue_next g c.args.cycle base start c.args.at c.args.rows.now c.issue_from.new.rows c.issue_turn.new.rows c.args.hier.now c.issue_from.new.hier c.issue_turn.new.hier (omega arith)
    (c.issue_from.ensures.swept g base start e h) (c.issue_turn.ensures.turned g base start e h)

pub returns-else-at-rows-clause-swept : goal.returns-else-at-rows-clause-swept
returns-else-at-rows-clause-swept t c = λ g base start e h.
    issue_end g c.args.cycle base start c.args.at c.args.rows.now c.args.hier.now (omega arith)
