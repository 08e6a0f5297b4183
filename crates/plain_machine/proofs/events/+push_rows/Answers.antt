use Rattle.std.proofs.Common.{length, ap, ◌∙◌}
use Rattle.ooo_plain.proofs.Lists.{first_of}
use Rattle.plain_machine.specs.Events.{row_events}
use Rattle.plain_machine.proofs.Shown.{map_length, next_row}
use Rattle.plain_machine.proofs.events.+push_rows.Goals as goal

pub returns-in_ok-push_row : goal.returns-in_ok-push_row
returns-in_ok-push_row t c = λ set olds k.
    let f = first_of set c.args.rows.now c.row-item.result olds c.in-len1-up.len_at_least c.row-item.is k in
    next_row (row_events set c.args.kind c.args.written c.args.cycle) c.args.events.now.items c.push_rows.new.events.items c.push_row.new.events.items olds f.others f.row _ f.is
    (ap length f.rest ∙ map_length set f.others) (c.in_ok-push_rows.ensures set f.others f.rest) (c.in_ok-push_row.ensures set f.row f.first)
