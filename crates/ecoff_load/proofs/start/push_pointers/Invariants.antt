use Rattle.std.proofs.Common.{◌≡◌, ◌++◌, map}
use Rattle.std.specs.Prelude.{string_bytes}
use Rattle.std.specs.List.{flat_map, range_with_len}
use Rattle.ecoff_load.specs.Words.{word_bytes}
use Rattle.ecoff_load.specs.Start.{pointer_to}
use Rattle.ecoff_load.proofs.start.push_pointers.Given as goal

abbrev pub invariant-loop-arg : goal.invariant-loop-arg
invariant-loop-arg l = record {
  written : l.bytes.items ≡ l.initial.bytes.items ++ flat_map (word_bytes l.big) (map (pointer_to (map string_bytes l.args)) (range_with_len 0 l.arg-index));
  next : l.pointer ≡ pointer_to (map string_bytes l.args) l.arg-index;
}
