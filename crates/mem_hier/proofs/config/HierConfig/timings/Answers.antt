use Rattle.std.proofs.Common.{sym, subst}
use Rattle.mem_hier.specs.Limits.{IsShape}
use Rattle.mem_hier.proofs.Shapes.{behind_fits}
use Rattle.mem_hier.proofs.config.HierConfig.timings.Goals as goal

pub first_timing-requires-clause-shapes : goal.first_timing-requires-clause-shapes
first_timing-requires-clause-shapes c = (
  subst IsShape (sym c.own.ensures) c.requires.shapes.il1,
  behind_fits c.args.self.now _ _ c.requires.shapes c.own-shared.ensures c.own_or-behind.ensures,
)

pub last_timing-requires-clause-shape : goal.last_timing-requires-clause-shape
last_timing-requires-clause-shape c = behind_fits c.args.self.now _ _ c.requires.shapes c.own-shared.ensures c.own_or-behind.ensures
