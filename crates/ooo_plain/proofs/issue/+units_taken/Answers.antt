use Rattle.std.proofs.Common.{◌≡◌, ◌∙◌, sym}
use Rattle.ooo_table.specs.Issue.{takes}
use Rattle.ooo_plain.specs.Held.{pool_of}
use Rattle.ooo_plain.proofs.Lists.{First, first_of, count_next, count_same}
use Rattle.ooo_plain.proofs.issue.+units_taken.Goals as goal

pub returns-then-takes-clause-count : goal.returns-then-takes-clause-count
returns-then-takes-clause-count t c = λ set olds k.
    let f = first_of set c.args.rows.now c.row-item.result olds c.in-len1-up.len_at_least c.row-item.is k in
    count_next (takes set (pool_of c.args.pool) c.args.cycle) olds f.row f.others f.is (sym (c.takes.ensures set f.row f.first) ∙ c.if-takes.true) c.units_taken-more.result (c.units_taken-more.ensures.count set f.others f.rest)

pub returns-else-takes-clause-count : goal.returns-else-takes-clause-count
returns-else-takes-clause-count t c = λ set olds k.
    let f = first_of set c.args.rows.now c.row-item.result olds c.in-len1-up.len_at_least c.row-item.is k in
    count_same (takes set (pool_of c.args.pool) c.args.cycle) olds f.row f.others f.is (sym (c.takes.ensures set f.row f.first) ∙ c.if-takes.false) c.units_taken-more.result (c.units_taken-more.ensures.count set f.others f.rest)
