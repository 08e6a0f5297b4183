use Rattle.event_trace.proofs.Written.{start_laid}
use Rattle.event_trace.proofs.writing.put_start.Goals as goal

pub returns : goal.returns
returns c =
    start_laid c.args.trace.now _ _ _ _ _ _ _ c.as_slice-records.ensures c.to_le_bytes.ensures c.in_ok-extend_from_slice.ensures.items c.in_ok-push.ensures.items c.in_ok-extend_from_slice-2.ensures.items c.in_ok-put_order.ensures
