use Rattle.std.proofs.Common.{◌+◌, arith}
use Rattle.checkpoint.proofs.Memory.{taken_push, taken_all, none_left}
use Rattle.checkpoint.proofs.taking.pages_of.Goals as goal

pub loop-number-preserved : goal.loop-number-preserved
loop-number-preserved c =
    let found = c.in-Some.ensures.found in
    record {
      taken = rw c.in_ok-push.ensures.items (taken_push c.args.mem.now c.loop-number.pages.items c.loop-number.from c.in-Some.number c.in_ok-page.page c.loop-number.invariant.taken c.in_ok-page.ensures.number found.0 found.1 found.2 c.in-Some.ensures.least c.in_ok-page.ensures.whole c.in_ok-page.ensures.bytes);
      space = omega (arith, found.1);
    }

pub returns-clause-bytes : goal.returns-clause-bytes
returns-clause-bytes c =
    let h = c.in_default.not-Some in
    taken_all c.args.mem.now c.loop-number.pages.items c.loop-number.from c.loop-number.invariant.taken (none_left c.page_from.result _ h c.page_from.ensures.none)
