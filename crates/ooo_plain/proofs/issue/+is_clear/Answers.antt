use Rattle.ooo_plain.proofs.Lists.{First, first_of}
use Rattle.ooo_plain.proofs.Issues.{clear_next}
use Rattle.ooo_plain.proofs.issue.+is_clear.Goals as goal

pub returns-in-len1-up : goal.returns-in-len1-up
returns-in-len1-up t c = λ set olds r k j.
    let f = first_of set c.args.older.now c.row-item.result olds c.in-len1-up.len_at_least c.row-item.is k in
    clear_next set c.args.cycle olds r f.row f.others f.is c.lets_pass-passes.result c.is_clear.result c.both.result
    (c.lets_pass-passes.ensures set f.others f.row r f.rest f.first j) (c.is_clear.ensures set f.others r f.rest j) c.both.ensures
