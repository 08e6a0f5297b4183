-- the text so far and that of the blocks that are left are the text of all
use Rattle.std.proofs.Common.{◌≡◌, ◌++◌, drop}
use Rattle.std.specs.List.{flat_map}
use Rattle.ss_base.specs.Outside.{BeginsWith}
use Rattle.sim_safe.specs.Commit.{block_text}
use Rattle.sim_safe.proofs.commit.push_blocks.Given as goal

abbrev pub invariant-loop-block : goal.invariant-loop-block
invariant-loop-block l = record {
  text : l.into.items ++ flat_map block_text (drop l.block-index l.blocks) ≡ l.fn.into.items ++ flat_map block_text l.blocks;
  begins : BeginsWith l.into.items l.fn.into.items;
}
