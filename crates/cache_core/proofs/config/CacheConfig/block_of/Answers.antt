use Rattle.std.proofs.Common.{◌/◌, ap, sym}
use Rattle.cache_core.proofs.Powers.{power_is}
use Rattle.cache_core.proofs.config.CacheConfig.block_of.Goals as goal

pub returns : goal.returns
returns c = ap (λ m. c.args.addr / m) (sym (power_is c.args.self.now.block c.ilog2.result c.requires.block c.ilog2.ensures.power_le c.ilog2.ensures.next_power_gt))
