use Rattle.std.proofs.Common.{◌≤◌, sym, ◌∙◌, subst}
use Rattle.ooo_table.specs.declared.config.OooConfig.{OooConfig}
use Rattle.ooo_table.specs.Cycle.{after_issue, after_dispatch}
use Rattle.ooo_table.specs.Machine.{setting_of}
use Rattle.plain_machine.proofs.Joined.{joined}
use Rattle.plain_machine.proofs.cycle.behind_commits.Goals as goal

pub returns-then-stopped-clause-ends : goal.returns-then-stopped-clause-ends
returns-then-stopped-clause-ends c = λ g e st.
    let j = joined g c.args.cycle c.args.plain.now c.recover.new.plain c.issue.new.plain c.dispatch.new.plain (subst (λ (x : OooConfig). 1 ≤ x.penalty) st.config_is c.requires.fits.allowed.penalty.least) st
    (λ rows next h e s. c.recover.ensures.stands g rows next h e s) (λ t e. c.issue.ensures.stands g t e) (λ rows next h e s. c.dispatch.ensures.stands g rows next h e s) in (
      sym (c.stops-stopped.ensures (setting_of g) (after_issue (setting_of g) c.args.cycle).rows (c.as_slice.ensures.value ∙ j.rows_issued)) ∙ c.if-stopped.true,
      record { ended_rows = j.within.kept_rows; histories = j.within.histories; predictions = j.within.predictions },
    )

pub returns-clause-ends : goal.returns-clause-ends
returns-clause-ends c = λ g e st.
    let j = joined g c.args.cycle c.args.plain.now c.recover.new.plain c.issue.new.plain c.dispatch.new.plain (subst (λ (x : OooConfig). 1 ≤ x.penalty) st.config_is c.requires.fits.allowed.penalty.least) st
    (λ rows next h e s. c.recover.ensures.stands g rows next h e s) (λ t e. c.issue.ensures.stands g t e) (λ rows next h e s. c.dispatch.ensures.stands g rows next h e s) in (
      sym (c.stops-stopped.ensures (setting_of g) (after_issue (setting_of g) c.args.cycle).rows (c.as_slice.ensures.value ∙ j.rows_issued)) ∙ c.if-stopped.false,
      c.in_ok-fetch.ensures.stands g (after_dispatch (setting_of g) c.args.cycle) e j.within,
    )
