use Rattle.std.proofs.Common.{◌+◌, ℕ, List, ap}
use Rattle.std.proofs.lemmas.Result.{err_from_is_err_and}
use Rattle.checkpoint.specs.Reading.{pages_at}
use Rattle.checkpoint.proofs.Loop.{goes_on, ends, is_done}
use Rattle.checkpoint.proofs.reading.read_pages.Goals as goal

pub returns-in_err-page : goal.returns-in_err-page
returns-in_err-page c =
    let p = err_from_is_err_and c.from_residual.result c.from_residual.ensures.1 in
    rw (p.1, p.2) (ends c.in_err-page.field-0.0 c.loop.pages.items c.args.count c.loop.counter c.loop.least c.loop.rest.now (pages_at c.args.count 0 c.args.bytes.now) c.loop-test.true c.in_err-page.ensures.value c.loop.invariant)

pub loop-preserved : goal.loop-preserved
loop-preserved c =
    rw c.in_ok-push.ensures.items (goes_on c.loop.pages.items c.args.count c.loop.counter c.loop.least c.loop.rest.now c.in_ok-page.page c.in_ok-page.after.now (c.page.inside.number + 1) (pages_at c.args.count 0 c.args.bytes.now) c.loop-test.true c.in_ok-page.ensures.value (ap (λ (p : ℕ × List ℕ). p.0 + 1) c.page.view_is) c.loop.invariant)

pub returns : goal.returns
returns c = is_done c.loop.pages.items c.args.count c.loop.counter c.loop.least c.loop.rest.now (pages_at c.args.count 0 c.args.bytes.now) c.loop-test.false c.loop.invariant
