use Rattle.std.proofs.Common.{◌++◌, sym, ap, ◌∙◌}
use Rattle.plain_machine.specs.Events.{row_events}
use Rattle.plain_machine.proofs.Shown.{on_ok}
use Rattle.plain_machine.proofs.events.push_row.Goals as goal

pub returns-in-Issues : goal.returns-in-Issues
returns-in-Issues c = λ set r i.
    on_ok c.push_issues.result (λ e. e ∙ ap (λ k. c.args.events.now.items ++ row_events set k c.args.written c.args.cycle c.args.number r) (sym c.in-Issues.is))
    (c.push_issues.ensures set r c.args.written i)
