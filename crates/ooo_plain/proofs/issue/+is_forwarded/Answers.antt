use Rattle.ooo_plain.proofs.Lists.{First, first_of}
use Rattle.ooo_plain.proofs.Issues.{forwarded_next}
use Rattle.ooo_plain.proofs.issue.+is_forwarded.Goals as goal

pub returns-in-len1-up : goal.returns-in-len1-up
returns-in-len1-up t c = λ set olds r k j.
    let f = first_of set c.args.older.now c.other-item.result olds c.in-len1-up.len_at_least c.other-item.is k in
    forwarded_next set c.other-item.result c.args.row.now olds r f.row f.others f.is f.first j c.gives.result c.is_forwarded.result c.either.result
    c.gives.ensures (c.is_forwarded.ensures set f.others r f.rest j) c.either.ensures
