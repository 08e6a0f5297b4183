use Rattle.std.proofs.Common.{sym, subst}
use Rattle.sim_safe.specs.State.{state_of}
use Rattle.sim_safe.specs.Step.{step_of}
use Rattle.core_dispatch.specs.Verdict.{Admits}
use Rattle.core_dispatch.proofs.Admit.{right_admits}
use Rattle.core_dispatch.proofs.verdict.verdict_at.Goals as goal

pub returns-else-parts-clause-can : goal.returns-else-parts-clause-can
returns-else-parts-clause-can c =
    subst Admits (sym c.right_verdict.ensures) (right_admits c.args.dispatched c.args.called c.args.parts.now (step_of c.args.trace.now (state_of c.args.parts.now.arch)))
