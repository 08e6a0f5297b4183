use Rattle.std.proofs.Common.{◌∷◌}
use Rattle.ooo_plain.proofs.Untils.{last_by}
use Rattle.ooo_plain.proofs.commit.is_last.Goals as goal

pub returns : goal.returns
returns c = λ set olds r i k.
    last_by set c.args.cycle c.args.most c.args.row.now olds r i c.is_at.result c.either.result c.both.result c.committed_rows.result
    c.is_at.ensures (c.committed_rows.ensures.count set (r ∷ olds) k) c.either.ensures c.both.ensures
