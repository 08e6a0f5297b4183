use Rattle.std.proofs.Common.{subst, arith}
use Rattle.checkpoint.specs.Reading.{Answers}
use Rattle.checkpoint.proofs.WholePoint.{is_found, is_only}
use Rattle.checkpoint.proofs.Places.{is_placed}
use Rattle.checkpoint.proofs.reading.read.Goals as goal

pub returns-clause-found : goal.returns-clause-found
returns-clause-found c = is_found c.args.bytes.now c.read_checked.result (λ i. omega (arith, c.type_inv.bytes i)) c.read_checked.ensures

pub returns-clause-only : goal.returns-clause-only
returns-clause-only c = λ p fits e. subst (λ f. Answers c.read_checked.result f) (is_only c.args.bytes.now p fits e) c.read_checked.ensures

pub returns-clause-place : goal.returns-clause-place
returns-clause-place c = is_placed c.args.bytes.now c.read_checked.result c.read_checked.ensures
