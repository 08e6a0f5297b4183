use Rattle.core_recovery.proofs.Fitting.{joined}
use Rattle.core_recovery.proofs.stage.squash_after.Goals as goal

pub returns : goal.returns
returns c = (
  c.station-station.result.now,
  c.station-station.ensures,
  record {
    same =
        joined c.args.parts.now _ c.squash_after-dropped.new.self _ c.squash_after.new.self _ c.squash_after-2.new.self _ c.redirect-waited.new.self c.recover.new.self c.rollback.new.self
        c.squash_after-dropped.ensures.rows c.squash_after.ensures c.squash_after-2.ensures c.redirect-waited.ensures.front;
    events = c.recover.ensures.stands;
    cells = c.recover.ensures.cells;
    overlay = c.rollback.ensures.nothing;
    size = c.rollback.ensures.size;
  },
)
