use Rattle.std.proofs.Common.{sym, ap}
use Rattle.ooo_table.specs.References.{updates_of}
use Rattle.ooo_plain.proofs.Updated.{stands_as}
use Rattle.ooo_table.specs.Machine.{setting_of}
use Rattle.ooo_plain.proofs.Lists.{First, first_of}
use Rattle.ooo_plain.proofs.updates.+update_all.Goals as goal

pub returns-in-len1-up-clause-stands : goal.returns-in-len1-up-clause-stands
returns-in-len1-up-clause-stands t c = λ g olds h k s.
    let f = first_of (setting_of g) c.args.rows.now c.row-item.result olds c.in-len1-up.len_at_least c.row-item.is k in
    stands_as _ g.pred _ _ (sym (ap (λ l. updates_of (setting_of g) c.args.cycle l h) f.is))
    (c.update.ensures.stands g f.row f.others h f.first (c.update_all.ensures.stands g f.others h f.rest s))
