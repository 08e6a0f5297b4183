use Rattle.std.proofs.Common.{◌≡◌, ◌+◌, ◌∙◌, length, length-append, sym, ap, Some, None, arith}
use Rattle.ruu_core.proofs.Places.{least_from_older, least_from_newer, behind_within}
use Rattle.ruu_core.proofs.ring.least.Goals as goal

pub returns-in-Some : goal.returns-in-Some
returns-in-Some c =
    least_from_older c.args.what c.args.after c.place_behind-from.result c.as_slices.result.0.now c.split_at.result.1.now c.as_slices.result.1.now c.args.slots.now.items (Some c.in-Some.row) c.as_slices.ensures c.place_behind-from.ensures (omega arith) c.split_at.ensures.back c.in-Some.ensures

pub returns-in-None : goal.returns-in-None
returns-in-None c =
    c.least_among-in-None.ensures
    ∙ least_from_older c.args.what c.args.after c.place_behind-from.result c.as_slices.result.0.now c.split_at.result.1.now c.as_slices.result.1.now c.args.slots.now.items None c.as_slices.ensures c.place_behind-from.ensures (omega arith) c.split_at.ensures.back c.in-None.ensures

pub split_at-requires-else-from-older : goal.split_at-requires-else-from-older
split_at-requires-else-from-older c =
    let all : length c.as_slices.result.0.now + length c.as_slices.result.1.now ≡ length c.args.slots.now.items =
    sym (length-append c.as_slices.result.0.now c.as_slices.result.1.now) ∙ ap length c.as_slices.ensures in
    omega (arith, behind_within c.args.after c.args.slots.now.items, c.place_behind-from.ensures)

pub returns-else-from-older : goal.returns-else-from-older
returns-else-from-older c =
    least_from_newer c.args.what c.args.after c.place_behind-from.result c.as_slices.result.0.now c.split_at-else-from-older.result.1.now c.as_slices.result.1.now c.args.slots.now.items c.least_among-else-from-older.result c.as_slices.ensures c.place_behind-from.ensures c.if-from-older.false c.split_at-else-from-older.ensures.back c.least_among-else-from-older.ensures
