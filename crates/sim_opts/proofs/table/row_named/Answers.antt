use Rattle.std.proofs.Common.{ap}
use Rattle.std.specs.List.{find}
use Rattle.std.specs.Str.{bytes_eq}
use Rattle.sim_opts.specs.Table.{Row, row_named}
use Rattle.sim_opts.proofs.table.row_named.Goals as goal

pub loop-row-init : goal.loop-row-init
unfolding row_named
loop-row-init c = ap (find (λ (r : Row). bytes_eq r.name c.args.word.now)) c.table-row-items.ensures
