use Rattle.ooo_plain.proofs.Lists.{First, first_of}
use Rattle.ooo_plain.proofs.Squashes.{redirect_found, redirect_passed}
use Rattle.ooo_plain.proofs.recover.+redirected.Goals as goal

pub returns-then-recovers : goal.returns-then-recovers
returns-then-recovers t c = λ set olds k.
    let f = first_of set c.args.rows.now c.row-item.result olds c.in-len1-up.len_at_least c.row-item.is k in
    redirect_found set c.args.cycle c.row-item.result olds f.row f.others f.is f.first c.recovers.result c.recovers.ensures c.if-recovers.true

pub returns-else-recovers : goal.returns-else-recovers
returns-else-recovers t c = λ set olds k.
    let f = first_of set c.args.rows.now c.row-item.result olds c.in-len1-up.len_at_least c.row-item.is k in
    redirect_passed set c.args.cycle c.row-item.result olds f.row f.others f.is f.first c.recovers.result c.recovers.ensures c.if-recovers.false c.redirected.result (c.redirected.ensures set f.others f.rest)
