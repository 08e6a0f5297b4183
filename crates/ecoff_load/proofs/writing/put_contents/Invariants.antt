use Rattle.std.proofs.Common.{◌≡◌, ◌++◌, take}
use Rattle.ecoff_load.specs.Layout.{parts_bytes}
use Rattle.ecoff_load.proofs.writing.put_contents.Given as goal

abbrev pub invariant-loop-part : goal.invariant-loop-part
invariant-loop-part l = l.bytes.items ≡ l.fn.bytes.items ++ parts_bytes (take l.part-index l.parts)
