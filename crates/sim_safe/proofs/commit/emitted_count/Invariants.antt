-- the bytes so far and those of the blocks that are left are all
use Rattle.std.proofs.Common.{◌≡◌, ◌+◌, drop, length}
use Rattle.std.specs.List.{flat_map}
use Rattle.sim_safe.specs.Commit.{block_bytes}
use Rattle.sim_safe.proofs.commit.emitted_count.Given as goal

abbrev pub invariant-loop-block : goal.invariant-loop-block
invariant-loop-block l = l.count + length (flat_map block_bytes (drop l.block-index l.blocks)) ≡ length (flat_map block_bytes l.blocks)
