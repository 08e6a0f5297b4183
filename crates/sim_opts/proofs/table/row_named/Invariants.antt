use Rattle.std.proofs.Common.{◌≡◌, map, drop}
use Rattle.std.specs.List.{find}
use Rattle.std.specs.Str.{bytes_eq}
use Rattle.sim_opts.specs.Table.{row_in, row_named, Row}
use Rattle.sim_opts.proofs.table.row_named.Given as goal

abbrev pub invariant-loop-row : goal.invariant-loop-row
invariant-loop-row l = find (λ (r : Row). bytes_eq r.name l.fn.word) (map row_in (drop l.row-index l.row-items)) ≡ row_named l.fn.word
