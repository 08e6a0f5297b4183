use Rattle.std.proofs.Common.{◌∙◌, ◌&&◌, not, ap, sym}
use Rattle.std.specs.Prelude.{◌==◌}
use Rattle.ruu_core.specs.Window.{is_at}
use Rattle.core_recovery.proofs.Least.{recovers_by}
use Rattle.core_recovery.proofs.row.recovers.Goals as goal

pub returns : goal.returns
returns c =
    c.both.ensures
    ∙ (ap (λ b. b && c.is_at-written.result) c.is_mispredicted-mispredicted.ensures
    ∙ (ap (λ b. (not c.station.result.now.wrong && not (c.station.result.now.predicted == c.station.result.now.actual)) && b) (c.is_at-written.ensures ∙ ap (is_at c.args.cycle) c.written_at.ensures)
    ∙ sym (recovers_by c.args.cycle c.args.row c.args.unit.now.rows c.station.result.now c.station.ensures)))
