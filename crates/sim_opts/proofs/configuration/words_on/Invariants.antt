use Rattle.std.proofs.Common.{◌≡◌, ◌++◌, true, length, map}
use Rattle.std.specs.Prelude.{string_bytes}
use Rattle.std.specs.List.{list_all}
use Rattle.text_lines.specs.Lines.{is_allowed, words_in, words_of}
use Rattle.sim_opts.proofs.configuration.words_on.Given as goal

abbrev pub invariant-words : goal.invariant-words
invariant-words l = record {
  so_far : map string_bytes l.words.items ++ words_in l.rest ≡ words_of l.fn.line;
  allowed : list_all is_allowed l.rest ≡ true;
}

abbrev pub decreases-words : goal.decreases-words
decreases-words l = length l.rest
