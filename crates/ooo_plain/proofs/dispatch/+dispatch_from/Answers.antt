use Rattle.std.proofs.Common.{arith}
use Rattle.ooo_table.specs.Dispatch.{dispatch_row}
use Rattle.ooo_plain.proofs.Sweeps.{swept_next, swept_end}
use Rattle.ooo_plain.proofs.dispatch.+dispatch_from.Goals as goal

pub returns-then-at-rows : goal.returns-then-at-rows
returns-then-at-rows t c = λ set e. swept_next set (dispatch_row set c.args.cycle) c.args.at c.args.rows.now c.dispatch_from.new.rows c.dispatch_turn.new.rows (omega arith) (c.dispatch_from.ensures set e) (c.dispatch_turn.ensures set e)

pub returns-else-at-rows : goal.returns-else-at-rows
returns-else-at-rows t c = λ set e. swept_end set (dispatch_row set c.args.cycle) c.args.at c.args.rows.now (omega arith)
