use Rattle.std.proofs.Common.{refl}
use Rattle.std.proofs.lemmas.Result.{err_from_is_err_and}
use Rattle.event_trace.specs.Grammar.{next_record}
use Rattle.event_trace.specs.Reading.{items_at, record_at}
use Rattle.event_trace.proofs.Loop.{goes_on, ends, is_done}
use Rattle.event_trace.proofs.reading.read_records.Goals as goal

pub returns-in_err-item : goal.returns-in_err-item
returns-in_err-item c =
    let p = err_from_is_err_and c.from_residual.result c.from_residual.ensures.1 in
    rw (p.1, p.2) (ends record_at next_record c.in_err-item.field-0.0 c.loop.items.items c.args.count c.loop.counter c.loop.least c.loop.rest.now (items_at record_at next_record c.args.count 0 c.args.bytes.now) c.loop-test.true c.in_err-item.ensures.value c.loop.invariant)

pub loop-preserved : goal.loop-preserved
loop-preserved c =
    rw c.in_ok-push.ensures.items (goes_on record_at next_record c.loop.items.items c.args.count c.loop.counter c.loop.least c.loop.rest.now c.in_ok-item.item c.in_ok-item.after.now _ (items_at record_at next_record c.args.count 0 c.args.bytes.now) c.loop-test.true c.in_ok-item.ensures.value refl c.loop.invariant)

pub returns : goal.returns
returns c = is_done record_at next_record c.loop.items.items c.args.count c.loop.counter c.loop.least c.loop.rest.now (items_at record_at next_record c.args.count 0 c.args.bytes.now) c.loop-test.false c.loop.invariant
