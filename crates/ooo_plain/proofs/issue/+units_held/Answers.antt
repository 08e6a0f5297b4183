use Rattle.std.proofs.Common.{◌≡◌, ◌∙◌, sym}
use Rattle.ooo_table.specs.Issue.{holds}
use Rattle.ooo_plain.specs.Held.{pool_of}
use Rattle.ooo_plain.proofs.Lists.{First, first_of, count_next, count_same}
use Rattle.ooo_plain.proofs.issue.+units_held.Goals as goal

pub returns-then-holds-clause-count : goal.returns-then-holds-clause-count
returns-then-holds-clause-count t c = λ set olds k.
    let f = first_of set c.args.rows.now c.row-item.result olds c.in-len1-up.len_at_least c.row-item.is k in
    count_next (holds set (pool_of c.args.pool) c.args.cycle) olds f.row f.others f.is (sym (c.holds.ensures set f.row f.first) ∙ c.if-holds.true) c.units_held-more.result (c.units_held-more.ensures.count set f.others f.rest)

pub returns-else-holds-clause-count : goal.returns-else-holds-clause-count
returns-else-holds-clause-count t c = λ set olds k.
    let f = first_of set c.args.rows.now c.row-item.result olds c.in-len1-up.len_at_least c.row-item.is k in
    count_same (holds set (pool_of c.args.pool) c.args.cycle) olds f.row f.others f.is (sym (c.holds.ensures set f.row f.first) ∙ c.if-holds.false) c.units_held-more.result (c.units_held-more.ensures.count set f.others f.rest)
