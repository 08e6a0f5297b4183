use Rattle.std.proofs.Common.{refl}
use Rattle.ooo_table.specs.Machine.{setting_of}
use Rattle.ooo_plain.proofs.IssueTurns.{issued_turn, accessed_turn, idle_turn}
use Rattle.ooo_plain.proofs.issue_stage.issue_turn.Goals as goal

pub returns-then-issues-clause-turned : goal.returns-then-issues-clause-turned
returns-then-issues-clause-turned c = λ g base start e h.
    issued_turn g c.args.cycle base start c.args.at c.args.rows.now _ c.args.hier.now c.index-all-at.result c.index-rows-at.result c.issues.result
    c.requires.at c.index-all-at.is (λ olds r k i. c.issues.ensures (setting_of g) start olds r e h k i) c.if-issues.true refl

pub returns-then-accesses-clause-turned : goal.returns-then-accesses-clause-turned
returns-then-accesses-clause-turned c = λ g base start e h.
    accessed_turn g c.args.cycle base start c.args.at c.args.rows.now c.access.new.rows c.args.hier.now c.access.new.hier c.index-all-at.result c.issues.result c.accesses.result
    c.requires.at c.index-all-at.is (λ olds r k i. c.issues.ensures (setting_of g) start olds r e h k i) c.if-issues.false
    (λ olds r k i. c.accesses.ensures (setting_of g) start olds r e h k i) c.if-accesses.true
    (λ olds r k s. c.access.ensures.left g base olds r k s) c.access.ensures.younger c.access.ensures.many

pub returns-else-accesses-clause-turned : goal.returns-else-accesses-clause-turned
returns-else-accesses-clause-turned c = λ g base start e h.
    idle_turn g c.args.cycle base start c.args.at c.args.rows.now c.args.hier.now c.index-all-at.result c.issues.result c.accesses.result
    c.requires.at c.index-all-at.is (λ olds r k i. c.issues.ensures (setting_of g) start olds r e h k i) c.if-issues.false
    (λ olds r k i. c.accesses.ensures (setting_of g) start olds r e h k i) c.if-accesses.false
