use Rattle.std.proofs.Common.{◌≡◌, ◌+◌, ◌*◌, ◌≤◌, take, length}
use Rattle.ecoff_load.specs.Layout.{headers_length, parts_bytes}
use Rattle.ecoff_load.proofs.writing.object_length.Given as goal

abbrev pub invariant-loop-part : goal.invariant-loop-part
invariant-loop-part l = record {
  sum : l.length ≡ headers_length l.image + length l.image.text.bytes + length (parts_bytes (take l.part-index l.image.parts));
  bound : length (parts_bytes (take l.part-index l.image.parts)) ≤ 0x7ff00000 * l.part-index;
}
