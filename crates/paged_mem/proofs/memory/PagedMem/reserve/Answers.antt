use Rattle.std.proofs.Common.{arith}
use Rattle.paged_mem.specs.Memory.{Meets}
use Rattle.paged_mem.proofs.Reserving.{OneMore, reserving_start, reserving_next}
use Rattle.paged_mem.proofs.memory.PagedMem.reserve.Goals as goal

pub loop-number-init : goal.loop-number-init
loop-number-init c = reserving_start _ _ _ _ (λ n meets. (c.pages_met-met.ensures.each n meets).0)

pub loop-number-preserved : goal.loop-number-preserved
loop-number-preserved c =
    let meets : Meets c.args.addr c.args.len c.loop-number.number = c.pages_met-met.ensures.only _ (omega arith) (omega arith) in
    let e = c.in_ok-reserve_page.ensures in
    let more : OneMore c.loop-number.self c.reserve_page.new.self c.loop-number.number = record { bytes = e.bytes; kept = e.kept; only = e.only } in
    reserving_next _ _ _ _ _ _ c.loop-number.invariant more meets e.ok

pub returns-clause-ok : goal.returns-clause-ok
returns-clause-ok c = λ n meets. c.loop-number.invariant.held n meets (omega (arith, (c.pages_met-met.ensures.each n meets).1))
