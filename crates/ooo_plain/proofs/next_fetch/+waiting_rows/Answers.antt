use Rattle.std.proofs.Common.{◌≡◌, ◌∙◌, sym, ap}
use Rattle.ooo_table.specs.Done.{waiting}
use Rattle.ooo_plain.specs.Kept.{is_waiting}
use Rattle.ooo_plain.proofs.Lists.{First, first_of, count_next, count_same}
use Rattle.ooo_plain.proofs.next_fetch.+waiting_rows.Goals as goal

pub returns-then-is_waiting-clause-count : goal.returns-then-is_waiting-clause-count
returns-then-is_waiting-clause-count t c = λ set olds k.
    let f = first_of set c.args.rows.now c.row-item.result olds c.in-len1-up.len_at_least c.row-item.is k in
    count_next waiting olds f.row f.others f.is (sym (c.is_waiting.ensures ∙ ap is_waiting f.first) ∙ c.if-is_waiting.true) c.waiting_rows-more.result (c.waiting_rows-more.ensures.count set f.others f.rest)

pub returns-else-is_waiting-clause-count : goal.returns-else-is_waiting-clause-count
returns-else-is_waiting-clause-count t c = λ set olds k.
    let f = first_of set c.args.rows.now c.row-item.result olds c.in-len1-up.len_at_least c.row-item.is k in
    count_same waiting olds f.row f.others f.is (sym (c.is_waiting.ensures ∙ ap is_waiting f.first) ∙ c.if-is_waiting.false) c.waiting_rows-more.result (c.waiting_rows-more.ensures.count set f.others f.rest)
