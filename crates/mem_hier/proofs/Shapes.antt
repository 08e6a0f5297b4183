-- The shapes that a configuration gives.
use Rattle.std.proofs.Common.{◌≡◌, Option, sym, subst}
use Rattle.cache_core.specs.declared.config.CacheConfig.{CacheConfig}
use Rattle.mem_hier.specs.declared.config.Level.{Level}
use Rattle.mem_hier.specs.declared.config.Level.TheVariants.{Off, Own, Shared}
use Rattle.mem_hier.specs.declared.config.HierConfig.{HierConfig}
use Rattle.mem_hier.specs.Limits.{own, own_or, IsShape, HasShapes}

own_or_fits : (level : Level) (shared : Option CacheConfig) → IsShape (own level) → IsShape shared → IsShape (own_or level shared)
own_or_fits Off shared fits fits' = fits
own_or_fits (Own shape) shared fits fits' = fits
own_or_fits Shared shared fits fits' = fits'

pub behind_fits : (c : HierConfig) (shared behind : Option CacheConfig) → HasShapes c → shared ≡ own c.dl2 → behind ≡ own_or c.il2 shared → IsShape behind
behind_fits c shared behind shapes is is' = subst IsShape (sym is') (own_or_fits c.il2 shared shapes.il2 (subst IsShape (sym is) shapes.dl2))
