use Rattle.std.proofs.Common.{ap, ◌∙◌}
use Rattle.std.specs.Prelude.{is_some}
use Rattle.plain_machine.proofs.Performs.{performs_right}
use Rattle.plain_machine.proofs.perform.perform_right.Goals as goal

pub returns-clause-row : goal.returns-clause-row
returns-clause-row c = λ g s et tx ef w es ep.
    performs_right g s c.args.trace.now c.args.arch.now c.step.new.self c.in_ok-step.step c.args.f.now c.row_of.result c.in_ok-step.ensures.step et tx ef w es ep
    (λ at now p e. c.row_of.ensures at now p (c.is_some.ensures ∙ (ap is_some c.ended.ensures ∙ e)))
