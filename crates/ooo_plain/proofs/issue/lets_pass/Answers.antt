use Rattle.ooo_plain.proofs.Issues.{passes_by}
use Rattle.ooo_plain.proofs.issue.lets_pass.Goals as goal

pub returns : goal.returns
returns c = λ set olds o r k i j.
    passes_by set c.args.next olds c.args.row.now c.args.load.now o r i j
    c.same_block.result c.is_done_before.result c.either-done.result c.is_written_before.result c.both-known.result c.is_live_store.result c.either.result
    c.same_block.ensures (c.is_done_before.ensures set olds o k i) c.either-done.ensures c.is_written_before.ensures c.both-known.ensures c.is_live_store.ensures c.either.ensures
