use Rattle.std.proofs.Common.{◌*◌, ◌%◌, ◌∙◌, ap, arith}
use Rattle.cache_core.proofs.Powers.{masked}
use Rattle.cache_core.proofs.config.CacheConfig.first_way.Goals as goal

pub returns : goal.returns
returns c =
    let config = c.args.self.now in
    let most = c.requires.most_sets in
    ap (λ k. k * config.ways) (masked config.sets c.block_of-block.result c.requires.sets (omega arith) ∙ ap (λ b. b % config.sets) c.block_of-block.ensures)
