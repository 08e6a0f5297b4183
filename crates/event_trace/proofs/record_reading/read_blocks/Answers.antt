use Rattle.std.proofs.Common.{refl}
use Rattle.std.proofs.lemmas.Result.{err_from_is_err_and}
use Rattle.event_trace.specs.Grammar.{next_block}
use Rattle.event_trace.specs.Reading.{items_at, block_at}
use Rattle.event_trace.proofs.Loop.{goes_on, ends, is_done}
use Rattle.event_trace.proofs.record_reading.read_blocks.Goals as goal

pub returns-in_err-item : goal.returns-in_err-item
returns-in_err-item c =
    let p = err_from_is_err_and c.from_residual.result c.from_residual.ensures.1 in
    rw (p.1, p.2) (ends block_at next_block c.in_err-item.field-0.0 c.loop.items.items c.args.count c.loop.counter 0 c.loop.rest.now (items_at block_at next_block c.args.count 0 c.args.bytes.now) c.loop-test.true c.in_err-item.ensures c.loop.invariant)

pub loop-preserved : goal.loop-preserved
loop-preserved c =
    rw c.in_ok-push.ensures.items (goes_on block_at next_block c.loop.items.items c.args.count c.loop.counter 0 c.loop.rest.now c.in_ok-item.item c.in_ok-item.after.now 0 (items_at block_at next_block c.args.count 0 c.args.bytes.now) c.loop-test.true c.in_ok-item.ensures refl c.loop.invariant)

pub returns : goal.returns
returns c = is_done block_at next_block c.loop.items.items c.args.count c.loop.counter 0 c.loop.rest.now (items_at block_at next_block c.args.count 0 c.args.bytes.now) c.loop-test.false c.loop.invariant
