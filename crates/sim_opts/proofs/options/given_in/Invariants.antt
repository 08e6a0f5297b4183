use Rattle.std.proofs.Common.{◌≡◌, ◌≤◌, length, map, take}
use Rattle.sim_opts.specs.Table.{row_in, table}
use Rattle.sim_opts.specs.Kept.{setting_in}
use Rattle.sim_opts.proofs.Saying.{given_of}
use Rattle.sim_opts.proofs.options.given_in.Given as goal

abbrev pub invariant-loop-row : goal.invariant-loop-row
invariant-loop-row l = record {
  so_far : l.given.items ≡ given_of (map setting_in l.fn.settings) (map row_in (take l.row-index l.row-items));
  few : length l.given.items ≤ l.row-index;
  all : map row_in l.row-items ≡ table;
}
