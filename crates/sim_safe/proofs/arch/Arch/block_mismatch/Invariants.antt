use Rattle.std.proofs.Common.{◌≡◌, drop}
use Rattle.std.specs.List.{flat_map}
use Rattle.sim_safe.specs.State.{reader_of}
use Rattle.sim_safe.specs.Call.{mismatch, block_compared}
use Rattle.sim_safe.proofs.arch.Arch.block_mismatch.Given as goal

abbrev pub invariant-loop-block : goal.invariant-loop-block
invariant-loop-block l =
    mismatch (flat_map (block_compared (reader_of l.self)) (drop l.block-index l.blocks)) ≡ mismatch (flat_map (block_compared (reader_of l.self)) l.blocks)
