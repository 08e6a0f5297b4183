use Rattle.ooo_plain.proofs.Lists.{First, first_of}
use Rattle.ooo_plain.proofs.Untils.{stop_next}
use Rattle.ooo_plain.proofs.dispatch.+stops.Goals as goal

pub returns-in-len1-up : goal.returns-in-len1-up
returns-in-len1-up t c = λ set olds k.
    let f = first_of set c.args.rows.now c.row-item.result olds c.in-len1-up.len_at_least c.row-item.is k in
    stop_next set c.args.cycle olds f.row f.others f.is c.stops_at-here.result c.stops.result c.either.result
    (c.stops_at-here.ensures set f.others f.row f.rest f.first) (c.stops.ensures set f.others f.rest) c.either.ensures
