use Rattle.std.proofs.Common.{◌≡◌, ◌+◌, ◌-◌, ◌^◌, map, take, min, length}
use Rattle.std.specs.Prelude.{string_bytes}
use Rattle.ecoff_load.specs.Start.{words_length, ended_strings}
use Rattle.sim_opts.proofs.word.start_block_length.Given as goal

abbrev pub invariant-loop-arg : goal.invariant-loop-arg
invariant-loop-arg l = l.length ≡ min (words_length (map string_bytes l.args) + length (ended_strings (map string_bytes (take l.arg-index l.args)))) (2 ^ 64 - 1)
