use Rattle.std.proofs.Common.{◌≡◌, length, refl, sym, ap, ◌∙◌, arith}
use Rattle.std.specs.Prelude.{option_map}
use Rattle.std.proofs.lemmas.Option.{slice_get_read}
use Rattle.ruu_core.specs.declared.slot.Slot.{Slot}
use Rattle.ruu_core.specs.Slots.{wanted}
use Rattle.ruu_core.proofs.Walks.{find_there, find_more, find_whole}
use Rattle.ruu_core.proofs.ring.least_among.Goals as goal

pub returns-then-passes_above : goal.returns-then-passes_above
returns-then-passes_above c =
    let here = slice_get_read c.args.slots.now (length c.args.slots.now) c.loop-slot.slot-index c.slot-item.result refl c.loop-slot-test.true c.slot-item.is in
    sym (ap (option_map (λ (s : Slot). s.station.row)) (find_there (wanted c.args.what c.args.after) c.args.slots.now c.loop-slot.slot-index c.slot-item.result here c.loop-slot.invariant (sym c.passes_above.ensures ∙ c.if-passes_above.true)))

pub loop-slot-preserved : goal.loop-slot-preserved
loop-slot-preserved c =
    let here = slice_get_read c.args.slots.now (length c.args.slots.now) c.loop-slot.slot-index c.slot-item.result refl c.loop-slot-test.true c.slot-item.is in
    find_more (wanted c.args.what c.args.after) c.args.slots.now c.loop-slot.slot-index c.slot-item.result here c.loop-slot.invariant (sym c.passes_above.ensures ∙ c.if-passes_above.false)

pub returns : goal.returns
returns c =
    let whole : c.loop-slot.slot-index ≡ length c.args.slots.now = omega arith in
    sym (ap (option_map (λ (s : Slot). s.station.row)) (find_whole (wanted c.args.what c.args.after) c.args.slots.now c.loop-slot.slot-index whole c.loop-slot.invariant))
