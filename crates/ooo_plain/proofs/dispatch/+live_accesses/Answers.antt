use Rattle.std.proofs.Common.{◌≡◌, ◌∙◌, sym, ap, true, false}
use Rattle.std.specs.Prelude.{◌&&◌}
use Rattle.ooo_table.specs.Execution.{uses_memory}
use Rattle.ooo_table.specs.Path.{execution}
use Rattle.ooo_table.specs.Done.{live}
use Rattle.ooo_plain.specs.Kept.{is_live}
use Rattle.ooo_plain.proofs.Lists.{First, first_of, count_next, count_same}
use Rattle.ooo_plain.proofs.Dispatches.{access_test}
use Rattle.ooo_plain.proofs.dispatch.+live_accesses.Goals as goal

pub returns-then-is_live_access-clause-count : goal.returns-then-is_live_access-clause-count
returns-then-is_live_access-clause-count t c = λ set olds k.
    let f = first_of set c.args.older.now c.row-item.result olds c.in-len1-up.len_at_least c.row-item.is k in
    count_next (λ o. live o && uses_memory (execution set o).memory) olds f.row f.others f.is (access_test set c.row-item.result f.row f.first c.is_live_access.result c.is_live_access.ensures true c.if-is_live_access.true) c.live_accesses-more.result (c.live_accesses-more.ensures.count set f.others f.rest)

pub returns-else-is_live_access-clause-count : goal.returns-else-is_live_access-clause-count
returns-else-is_live_access-clause-count t c = λ set olds k.
    let f = first_of set c.args.older.now c.row-item.result olds c.in-len1-up.len_at_least c.row-item.is k in
    count_same (λ o. live o && uses_memory (execution set o).memory) olds f.row f.others f.is (access_test set c.row-item.result f.row f.first c.is_live_access.result c.is_live_access.ensures false c.if-is_live_access.false) c.live_accesses-more.result (c.live_accesses-more.ensures.count set f.others f.rest)
