use Rattle.std.proofs.Common.{Some, refl}
use Rattle.ooo_table.specs.Recovery.{squash_row}
use Rattle.ooo_plain.proofs.Squashes.{squashes}
use Rattle.ooo_plain.proofs.Sweeps.{turned, stayed}
use Rattle.ooo_plain.proofs.recover.squash_turn.Goals as goal

pub returns-then-is_squashed : goal.returns-then-is_squashed
returns-then-is_squashed c = λ set.
    turned set c.args.at c.args.rows.now _ c.index-all-at.result (squashes set c.args.cycle) (λ r. record r { squashed = Some c.args.cycle }) (λ x. record x { squashed = Some c.args.cycle }) c.is_squashed.result c.index-rows-at.result
    c.requires c.index-all-at.is (λ olds r k i. c.is_squashed.ensures set olds r k i) c.if-is_squashed.true refl (λ r. refl)

pub returns-else-is_squashed : goal.returns-else-is_squashed
returns-else-is_squashed c = λ set.
    stayed set c.args.at c.args.rows.now c.index-all-at.result (squashes set c.args.cycle) (λ r. record r { squashed = Some c.args.cycle }) c.is_squashed.result
    c.requires c.index-all-at.is (λ olds r k i. c.is_squashed.ensures set olds r k i) c.if-is_squashed.false
