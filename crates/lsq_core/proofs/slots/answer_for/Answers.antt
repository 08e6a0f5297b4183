use Rattle.std.proofs.Common.{◌≡◌, ◌∙◌, ap, cond, Some, None, arith}
use Rattle.std.specs.Prelude.{nat_eq, ◌||◌}
use Rattle.std.proofs.lemmas.Bool.Decides.{nat_tests}
use Rattle.lsq_core.specs.Queue.{answer, or_else}
use Rattle.lsq_core.proofs.Walks.{forbidding_next, forwarded_next, answer_next}
use Rattle.lsq_core.proofs.slots.answer_for.Goals as goal
use Rattle.lsq_core.proofs.slots.answer_for.Goals.{then-slot-row, else-slot-row}

pub loop-at-preserved : goal.loop-at-preserved
loop-at-preserved c =
    let is : c.if-slot-row.answer ≡ cond (nat_eq c.slot_at-slot.result.row c.args.row) (answer c.loop-at.forbidding c.loop-at.forwarded) c.loop-at.answer =
    elim c.if-slot-row.branch [ then-slot-row w ↦ grind (arith, nat_tests) | else-slot-row w ↦ grind (arith, nat_tests) ] in (
      forbidding_next c.args.cycle c.args.block c.loop-at.at c.loop-at.forbidding c.or_this-forbidding.result c.args.slots.now.items c.slot_at-slot.result c.slot_at-slot.ensures c.loop-at.invariant.0 (c.or_this-forbidding.ensures ∙ ap (λ b. or_else c.loop-at.forbidding (cond b (Some c.slot_at-slot.result.row) None)) c.forbids.ensures),
      forwarded_next c.args.block c.loop-at.at c.loop-at.forwarded c.either-forwarded.result c.args.slots.now.items c.slot_at-slot.result c.slot_at-slot.ensures c.loop-at.invariant.1 (c.either-forwarded.ensures ∙ ap (λ b. b || c.loop-at.forwarded) c.forwards.ensures),
      answer_next c.args.cycle c.args.block c.args.row c.loop-at.at c.loop-at.forbidding c.loop-at.forwarded c.loop-at.answer c.if-slot-row.answer c.args.slots.now.items c.slot_at-slot.result c.slot_at-slot.ensures c.loop-at.invariant.0 c.loop-at.invariant.1 c.loop-at.invariant.2 is,
    )
