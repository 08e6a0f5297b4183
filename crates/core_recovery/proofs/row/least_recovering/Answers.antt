use Rattle.std.proofs.Common.{◌∙◌, refl, sym}
use Rattle.core_recovery.proofs.Least.{done_live, found, onward, over, fewer}
use Rattle.core_recovery.proofs.row.least_recovering.Goals as goal

pub loop-row-init : goal.loop-row-init
loop-row-init c = (c.room-room.ensures.rises, refl)

pub recovers-requires : goal.recovers-requires
recovers-requires c = done_live c.args.cycle c.loop-row.after c.in-Some.row c.args.unit.now.rows (sym c.in-Some.ensures)

pub loop-row-smaller : goal.loop-row-smaller
loop-row-smaller c = fewer c.args.cycle c.loop-row.after c.args.unit.now c.loop-row.invariant.0 c.in-Some.row (sym c.in-Some.ensures)

pub loop-row-preserved : goal.loop-row-preserved
loop-row-preserved c = (
  c.loop-row.invariant.0,
  onward c.args.cycle c.loop-row.after c.args.unit.now c.loop-row.invariant.0 c.in-Some.row (sym c.in-Some.ensures) (sym c.recovers.ensures ∙ c.if-recovers.false) ∙ c.loop-row.invariant.1,
)

pub returns-then-recovers : goal.returns-then-recovers
returns-then-recovers c =
    sym (found c.args.cycle c.loop-row.after c.args.unit.now c.loop-row.invariant.0 c.in-Some.row (sym c.in-Some.ensures) (sym c.recovers.ensures ∙ c.if-recovers.true))
    ∙ c.loop-row.invariant.1

pub returns : goal.returns
returns c = sym (over c.args.cycle c.loop-row.after c.args.unit.now c.loop-row.invariant.0 (sym c.in_default.ensures)) ∙ c.loop-row.invariant.1
