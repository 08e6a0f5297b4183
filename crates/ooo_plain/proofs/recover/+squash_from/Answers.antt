use Rattle.std.proofs.Common.{arith}
use Rattle.ooo_table.specs.Recovery.{squash_row}
use Rattle.ooo_plain.proofs.Sweeps.{swept_next, swept_end}
use Rattle.ooo_plain.proofs.recover.+squash_from.Goals as goal

pub returns-then-at-rows : goal.returns-then-at-rows
returns-then-at-rows t c = λ set. swept_next set (squash_row set c.args.cycle) c.args.at c.args.rows.now c.squash_from.new.rows c.squash_turn.new.rows (omega arith) (c.squash_from.ensures set) (c.squash_turn.ensures set)

pub returns-else-at-rows : goal.returns-else-at-rows
returns-else-at-rows t c = λ set. swept_end set (squash_row set c.args.cycle) c.args.at c.args.rows.now (omega arith)
