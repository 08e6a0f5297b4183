use Rattle.std.proofs.Common.{◌≡◌, ◌++◌, take}
use Rattle.std.specs.List.{flat_map}
use Rattle.event_trace.specs.Grammar.{block_bytes}
use Rattle.event_trace.proofs.writing.put_blocks.Given as goal

abbrev pub invariant-loop-block : goal.invariant-loop-block
invariant-loop-block l = l.into.items ≡ l.fn.into.items ++ flat_map block_bytes (take l.block-index l.blocks)
