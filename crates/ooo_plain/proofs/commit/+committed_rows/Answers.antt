use Rattle.std.proofs.Common.{◌≡◌, ◌∙◌, sym, ap, true, false}
use Rattle.std.specs.Prelude.{is_some}
use Rattle.ooo_plain.proofs.Lists.{First, first_of, count_next, count_same}
use Rattle.ooo_plain.proofs.commit.+committed_rows.Goals as goal

pub returns-then-is_set-clause-count : goal.returns-then-is_set-clause-count
returns-then-is_set-clause-count t c = λ set olds k.
    let f = first_of set c.args.rows.now c.row-item.result olds c.in-len1-up.len_at_least c.row-item.is k in
    count_next (λ o. is_some o.committed) olds f.row f.others f.is (sym (c.is_set.ensures ∙ ap (λ x. is_some x.committed) f.first) ∙ c.if-is_set.true) c.committed_rows-more.result (c.committed_rows-more.ensures.count set f.others f.rest)

pub returns-else-is_set-clause-count : goal.returns-else-is_set-clause-count
returns-else-is_set-clause-count t c = λ set olds k.
    let f = first_of set c.args.rows.now c.row-item.result olds c.in-len1-up.len_at_least c.row-item.is k in
    count_same (λ o. is_some o.committed) olds f.row f.others f.is (sym (c.is_set.ensures ∙ ap (λ x. is_some x.committed) f.first) ∙ c.if-is_set.false) c.committed_rows-more.result (c.committed_rows-more.ensures.count set f.others f.rest)
