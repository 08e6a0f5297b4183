use Rattle.std.proofs.Common.{arith}
use Rattle.cache_core.specs.Limits.{IsWithinLimits}
use Rattle.mem_hier.proofs.config.HierConfig.last_timing.Goals as goal

pub memory_latency-requires-clause-block : goal.memory_latency-requires-clause-block
memory_latency-requires-clause-block c =
    let limits : IsWithinLimits c.in-Some.shape = c.requires.shape.fits _ c.in-Some.is in
    let low = limits.least_block in
    (omega arith, limits.most_block)
