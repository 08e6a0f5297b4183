use Rattle.event_trace.proofs.Written.{record_laid}
use Rattle.event_trace.proofs.writing.put_record.Goals as goal

pub returns : goal.returns
returns c =
    record_laid c.args.call.now _ _ _ _ _ _ _ _ _ _ c.as_slice.ensures c.as_slice-2.ensures c.as_slice-3.ensures c.as_slice-4.ensures c.in_ok-put_head.ensures c.in_ok-put_registers.ensures c.in_ok-put_blocks.ensures c.in_ok-put_registers-2.ensures c.in_ok-put_blocks-2.ensures
