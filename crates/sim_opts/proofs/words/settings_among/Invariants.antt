use Rattle.std.proofs.Common.{◌≡◌, ◌+◌, [], length, map}
use Rattle.std.specs.Prelude.{string_bytes}
use Rattle.sim_opts.specs.Words.{walk}
use Rattle.sim_opts.specs.Kept.{setting_in}
use Rattle.sim_opts.proofs.words.settings_among.Given as goal

abbrev pub invariant-options : goal.invariant-options
invariant-options l = record {
  so_far : walk l.fn.tool (map setting_in l.settings.items) l.at 0 (map string_bytes l.rest) ≡ walk l.fn.tool [] 1 0 (map string_bytes l.fn.words);
  within : l.at + length l.rest ≡ 1 + length l.fn.words;
}

abbrev pub decreases-options : goal.decreases-options
decreases-options l = length l.rest
