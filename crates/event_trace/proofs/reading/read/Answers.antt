use Rattle.std.proofs.Common.{subst, arith}
use Rattle.event_trace.specs.Reading.{Answers}
use Rattle.event_trace.proofs.WholeTrace.{is_found, is_only}
use Rattle.event_trace.proofs.Places.{is_placed}
use Rattle.event_trace.proofs.reading.read.Goals as goal

pub returns-clause-found : goal.returns-clause-found
returns-clause-found c = is_found c.args.bytes.now c.read_checked.result (λ i. omega (arith, c.type_inv.bytes i)) c.read_checked.ensures

pub returns-clause-only : goal.returns-clause-only
returns-clause-only c = λ t fits e. subst (λ f. Answers c.read_checked.result f) (is_only c.args.bytes.now t fits e) c.read_checked.ensures

pub returns-clause-place : goal.returns-clause-place
returns-clause-place c = is_placed c.args.bytes.now c.read_checked.result c.read_checked.ensures
