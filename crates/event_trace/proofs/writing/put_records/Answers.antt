use Rattle.event_trace.specs.Grammar.{record_bytes, IsRecord, next_record}
use Rattle.event_trace.proofs.Written.{in_turn_at, one_more}
use Rattle.event_trace.proofs.writing.put_records.Goals as goal

pub put_record-requires-clause-ins : goal.put_record-requires-clause-ins
put_record-requires-clause-ins c = (in_turn_at IsRecord next_record 0 c.args.calls.now c.loop-call.call-index c.call-item.result c.requires c.loop-call-test.true c.call-item.is).1.ins.0

pub put_record-requires-clause-in_blocks : goal.put_record-requires-clause-in_blocks
put_record-requires-clause-in_blocks c = (in_turn_at IsRecord next_record 0 c.args.calls.now c.loop-call.call-index c.call-item.result c.requires c.loop-call-test.true c.call-item.is).1.in_blocks

pub put_record-requires-clause-outs : goal.put_record-requires-clause-outs
put_record-requires-clause-outs c = (in_turn_at IsRecord next_record 0 c.args.calls.now c.loop-call.call-index c.call-item.result c.requires c.loop-call-test.true c.call-item.is).1.outs.0

pub put_record-requires-clause-out_blocks : goal.put_record-requires-clause-out_blocks
put_record-requires-clause-out_blocks c = (in_turn_at IsRecord next_record 0 c.args.calls.now c.loop-call.call-index c.call-item.result c.requires c.loop-call-test.true c.call-item.is).1.out_blocks

pub loop-call-preserved : goal.loop-call-preserved
loop-call-preserved c =
    one_more record_bytes c.args.calls.now c.loop-call.call-index c.call-item.result _ _ _ c.loop-call-test.true c.call-item.is c.loop-call.invariant c.in_ok-put_record.ensures
