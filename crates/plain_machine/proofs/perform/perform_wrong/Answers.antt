use Rattle.std.proofs.Common.{cond, Some, ap, ◌∙◌}
use Rattle.std.specs.Prelude.{is_some}
use Rattle.plain_machine.proofs.Performs.{performs_wrong, copy_on, copy_kept}
use Rattle.plain_machine.proofs.perform.perform_wrong.Goals as goal

pub returns-clause-row : goal.returns-clause-row
returns-clause-row c = λ g s et tx ef w es.
    performs_wrong g s c.args.trace.now c.args.arch.now c.in_ok-acting.acting c.step.new.self c.args.copy.now c.keep_if.new.copy c.in_ok-step.step c.args.f.now c.row_of-row.result
    c.in_ok-acting.ensures.state c.in_ok-step.ensures.step et tx ef w es
    (λ at now p e. c.row_of-row.ensures at now p (c.is_some.ensures ∙ (ap is_some c.ended.ensures ∙ e)))
    (c.keep_if.ensures ∙ ap (λ b. cond b (Some c.step.new.self) c.args.copy.now) c.has_effect.ensures)

pub returns-clause-copy : goal.returns-clause-copy
returns-clause-copy c =
    copy_kept c.args.arch.now c.step.new.self c.args.copy.now c.keep_if.new.copy c.has_effect.result c.keep_if.ensures c.requires.copy
    (copy_on c.args.trace.now c.args.arch.now c.in_ok-acting.acting c.step.new.self c.in_ok-step.step c.in_ok-acting.ensures.copy c.in_ok-step.ensures.step)
