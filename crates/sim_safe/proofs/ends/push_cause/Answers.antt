use Rattle.std.specs.Prelude.{◌≡◌, ◌++◌, codes, OnOk}
use Rattle.std.proofs.Common.{subst}
use Rattle.ss_base.specs.Text.{hex8}
use Rattle.sim_safe.proofs.ends.push_cause.Goals as goal

pub returns-in-FloatingPoint-clause-ok : goal.returns-in-FloatingPoint-clause-ok
returns-in-FloatingPoint-clause-ok c =
    rw c.in-FloatingPoint.is
    (subst (λ n. OnOk c.push_at.result (c.push_at.new.into.items ≡ c.args.into.now.items ++ (codes "floating-point " ++ hex8 n))) c.from-in-FloatingPoint.ensures c.push_at.ensures.ok)

pub returns-in-Misaligned-clause-ok : goal.returns-in-Misaligned-clause-ok
returns-in-Misaligned-clause-ok c = rw c.in-Misaligned.is c.push_at-in-Misaligned.ensures.ok

pub returns-in-TextWrite-clause-ok : goal.returns-in-TextWrite-clause-ok
returns-in-TextWrite-clause-ok c = rw c.in-TextWrite.is c.push_at-in-TextWrite.ensures.ok
