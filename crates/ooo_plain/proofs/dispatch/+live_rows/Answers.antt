use Rattle.std.proofs.Common.{◌≡◌, ◌∙◌, sym, ap, true, false}
use Rattle.std.specs.Prelude.{◌&&◌}
use Rattle.ooo_table.specs.Execution.{uses_memory}
use Rattle.ooo_table.specs.Path.{execution}
use Rattle.ooo_table.specs.Done.{live}
use Rattle.ooo_plain.specs.Kept.{is_live}
use Rattle.ooo_plain.proofs.Lists.{First, first_of, count_next, count_same}
use Rattle.ooo_plain.proofs.Dispatches.{access_test}
use Rattle.ooo_plain.proofs.dispatch.+live_rows.Goals as goal

pub returns-then-is_live-clause-count : goal.returns-then-is_live-clause-count
returns-then-is_live-clause-count t c = λ set olds k.
    let f = first_of set c.args.older.now c.row-item.result olds c.in-len1-up.len_at_least c.row-item.is k in
    count_next live olds f.row f.others f.is (sym (c.is_live.ensures ∙ ap is_live f.first) ∙ c.if-is_live.true) c.live_rows-more.result (c.live_rows-more.ensures.count set f.others f.rest)

pub returns-else-is_live-clause-count : goal.returns-else-is_live-clause-count
returns-else-is_live-clause-count t c = λ set olds k.
    let f = first_of set c.args.older.now c.row-item.result olds c.in-len1-up.len_at_least c.row-item.is k in
    count_same live olds f.row f.others f.is (sym (c.is_live.ensures ∙ ap is_live f.first) ∙ c.if-is_live.false) c.live_rows-more.result (c.live_rows-more.ensures.count set f.others f.rest)
