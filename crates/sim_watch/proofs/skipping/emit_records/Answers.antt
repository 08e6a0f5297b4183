use Rattle.journal.specs.Laws.{wrote_none}
use Rattle.sim_watch.proofs.Skips.{record_next, record_cut}
use Rattle.sim_watch.proofs.skipping.emit_records.Goals as goal

pub loop-record-init : goal.loop-record-init
loop-record-init g c = wrote_none g.O.Outside.view c.args.outside.now

pub loop-record-preserved : goal.loop-record-preserved
loop-record-preserved g c =
    record_next g.O.Outside.view c.args.outside.now c.loop-record.outside c.emit.new.outside c.args.records.now c.loop-record.record-index c.record-item.result c.emitted_blocks.result.now c.loop-record-test.true c.record-item.is c.emitted_blocks.ensures c.loop-record.invariant c.in-Ok.ensures

pub returns-in-Err : goal.returns-in-Err
returns-in-Err g c =
    record_cut g.O.Outside.view c.args.outside.now c.loop-record.outside c.emit.new.outside c.args.records.now c.loop-record.record-index c.record-item.result c.emitted_blocks.result.now c.in-Err.fault c.loop-record-test.true c.record-item.is c.emitted_blocks.ensures c.loop-record.invariant c.in-Err.ensures
