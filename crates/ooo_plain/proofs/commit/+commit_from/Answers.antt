use Rattle.std.proofs.Common.{arith}
use Rattle.ooo_table.specs.Commit.{commit_row}
use Rattle.ooo_plain.proofs.Sweeps.{swept_next, swept_end}
use Rattle.ooo_plain.proofs.commit.+commit_from.Goals as goal

pub returns-then-at-rows : goal.returns-then-at-rows
returns-then-at-rows t c = λ set e. swept_next set (commit_row set c.args.cycle) c.args.at c.args.rows.now c.commit_from.new.rows c.commit_turn.new.rows (omega arith) (c.commit_from.ensures set e) (c.commit_turn.ensures set e)

pub returns-else-at-rows : goal.returns-else-at-rows
returns-else-at-rows t c = λ set e. swept_end set (commit_row set c.args.cycle) c.args.at c.args.rows.now (omega arith)
