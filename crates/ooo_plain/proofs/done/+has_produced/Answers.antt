use Rattle.std.proofs.Common.{◌≡◌, ◌∙◌, sym, ap}
use Rattle.ooo_plain.proofs.Lists.{First, first_of}
use Rattle.ooo_plain.proofs.Producers.{test, found, passed}
use Rattle.ooo_plain.proofs.done.+has_produced.Goals as goal

pub returns-then-produces : goal.returns-then-produces
returns-then-produces t c = λ set olds r k e.
    let f = first_of set c.args.older.now c.row-item.result olds c.in-len1-up.len_at_least c.row-item.is k in
    found set c.args.cycle c.args.place c.row-item.result olds r f.row f.others f.is f.first c.args.reader e
    (sym (c.produces.ensures set f.row f.first) ∙ c.if-produces.true) _ c.is_finished_before.ensures

pub returns-else-produces : goal.returns-else-produces
returns-else-produces t c = λ set olds r k e.
    let f = first_of set c.args.older.now c.row-item.result olds c.in-len1-up.len_at_least c.row-item.is k in
    passed set c.args.cycle c.args.place olds r f.row f.others f.is c.args.reader e
    (sym (c.produces.ensures set f.row f.first) ∙ c.if-produces.false) _ (c.has_produced.ensures set f.others r f.rest e)
