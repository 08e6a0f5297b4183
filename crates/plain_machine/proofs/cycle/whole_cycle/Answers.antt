use Rattle.std.proofs.Common.{sym, ap}
use Rattle.ooo_table.specs.Cycle.{table}
use Rattle.ooo_table.specs.Ends.{or_stop, stops_in}
use Rattle.ooo_table.specs.Machine.{setting_of}
use Rattle.plain_machine.proofs.Joined.{ends_behind}
use Rattle.plain_machine.proofs.cycle.whole_cycle.Goals as goal

pub returns-in-Some-clause-ends : goal.returns-in-Some-clause-ends
returns-in-Some-clause-ends c = λ g e st.
    let t = table (setting_of g) c.args.cycle in
    let k = c.in-Some.ensures.stands g t.rows t.next_fetch t.references t.predictor_events st in (
      ap (λ o. or_stop (stops_in (setting_of g) c.args.cycle t) o) (sym k.last),
      record { ended_rows = k.stands.kept_rows; histories = k.stands.histories; predictions = k.stands.predictions },
    )

pub returns-in-None-clause-ends : goal.returns-in-None-clause-ends
returns-in-None-clause-ends c = λ g e st.
    let t = table (setting_of g) c.args.cycle in
    let k = c.in-None.ensures.stands g t.rows t.next_fetch t.references t.predictor_events st in
    ends_behind g c.args.cycle c.args.most c.behind_commits.new.plain c.behind_commits.result k.last (c.behind_commits.ensures.ends g e k.stands)
