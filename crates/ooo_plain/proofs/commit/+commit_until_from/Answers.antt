use Rattle.std.proofs.Common.{arith}
use Rattle.ooo_plain.proofs.Untils.{until_end}
use Rattle.ooo_plain.proofs.commit.+commit_until_from.Goals as goal

pub returns-then-at-rows : goal.returns-then-at-rows
returns-then-at-rows t c = λ set e. c.until_turn.ensures set c.args.rows.now e (c.commit_until_from-ended.ensures set e)

pub returns-else-at-rows : goal.returns-else-at-rows
returns-else-at-rows t c = λ set e. until_end set c.args.cycle c.args.most c.args.at c.args.rows.now (omega arith)
