use Rattle.std.proofs.Common.{length, ap, subst, ◌∙◌, List, ℕ}
use Rattle.pisa_step.specs.Reader.{bytes_with}
use Rattle.paged_mem.specs.Memory.{byte_of, IsRangeReserved}
use Rattle.sim_safe.proofs.Starting.{laying_goes_on, laid_held}
use Rattle.sim_safe.proofs.start.put_parts.Goals as goal

pub loop-part-preserved : goal.loop-part-preserved
loop-part-preserved c =
    laying_goes_on c.args.mem.now c.loop-part.mem c.put.new.mem c.args.parts.now c.loop-part.part-index c.part-item.result c.loop-part-test.true c.part-item.is c.loop-part.invariant
    (c.in_ok-put.ensures.bytes ∙ ap (λ (bytes : List ℕ). bytes_with (byte_of c.loop-part.mem) c.part-item.result.addr bytes) c.as_slice.ensures)
    (subst (λ (bytes : List ℕ). IsRangeReserved c.put.new.mem c.part-item.result.addr (length bytes)) c.as_slice.ensures c.in_ok-put.ensures.held)
    c.in_ok-put.ensures.kept

pub returns-clause-held : goal.returns-clause-held
returns-clause-held c = laid_held c.args.mem.now c.loop-part.mem c.args.parts.now c.loop-part.part-index c.loop-part-test.false c.loop-part.invariant
