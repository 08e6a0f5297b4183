use Rattle.std.proofs.Common.{◌≡◌, List, map, ap, subst}
use Rattle.core_parts.specs.declared.answers.Issued.{Issued}
use Rattle.core_parts.specs.declared.parts.Parts.{Parts}
use Rattle.core_statistics.specs.Counted.{with_issues}
use Rattle.watched_stages.specs.Watched.{Shows, issue_event}
use Rattle.watched_stages.proofs.Issues.{watched_issue}
use Rattle.watched_stages.proofs.issuing.issue.Goals as goal

pub returns-clause-issues : goal.returns-clause-issues
returns-clause-issues g c =
    watched_issue g.W.Watch.took g.W.Watch.cut c.args.cycle c.args.parts.now c.issue-issued.new.parts c.issue-issued.result.items c.args.stats.now c.count_issues.new.self c.args.watch.now c.show_issued.new.watch c.show_issued.result
    c.issue-issued.ensures.issues (ap (λ (p : Parts). p.arch) c.issue-issued.ensures.ran.parts)
    (subst (λ (items : List Issued). c.count_issues.new.self ≡ with_issues items c.args.stats.now) c.as_slice-rows.ensures.value c.count_issues.ensures)
    (subst (λ (items : List Issued). Shows g.W.Watch.took g.W.Watch.cut (map (issue_event c.args.cycle) items) c.args.watch.now c.show_issued.new.watch c.show_issued.result) c.as_slice-rows.ensures.value c.show_issued.ensures.took)
