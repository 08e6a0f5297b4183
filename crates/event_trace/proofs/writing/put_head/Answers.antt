use Rattle.event_trace.proofs.Written.{head_laid}
use Rattle.event_trace.proofs.writing.put_head.Goals as goal

pub returns : goal.returns
returns c =
    head_laid c.args.call.now _ _ _ _ _ _ _ _ c.to_le_bytes.ensures c.to_le_bytes-2.ensures c.to_le_bytes-3.ensures c.in_ok-extend_from_slice.ensures.items c.in_ok-extend_from_slice-2.ensures.items c.in_ok-put_counts.ensures c.in_ok-extend_from_slice-3.ensures.items
