use Rattle.checkpoint.proofs.Written.{head_laid}
use Rattle.checkpoint.proofs.writing.put_head.Goals as goal

pub returns : goal.returns
returns c =
    head_laid c.args.head.now c.args.count c.args.into.now.items _ _ _ _ _ _ c.to_le_bytes.ensures c.in_ok-extend_from_slice.ensures.items c.in_ok-push.ensures.items c.in_ok-extend_from_slice-2.ensures.items c.in_ok-put_head_words.ensures c.in_ok-put_order.ensures
