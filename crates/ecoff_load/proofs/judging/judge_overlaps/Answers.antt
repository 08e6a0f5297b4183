use Rattle.std.proofs.Common.{refl}
use Rattle.std.proofs.lemmas.Result.{err_from_is_err_and}
use Rattle.ecoff_load.proofs.Judged.{overlaps_go, overlaps_stop}
use Rattle.ecoff_load.proofs.judging.judge_overlaps.Goals as goal

pub returns-in_err-judge_overlap : goal.returns-in_err-judge_overlap
returns-in_err-judge_overlap c =
    let p = err_from_is_err_and c.from_residual.result c.from_residual.ensures.1 in
    rw (p.1, p.2) (overlaps_stop c.args.big c.args.bytes.now c.args.count c.loop.counter c.loop.at c.args.text c.read.result c.in_err-judge_overlap.field-0.0 c.loop-test.true c.read.ensures c.in_err-judge_overlap.ensures c.loop.invariant)

pub loop-preserved : goal.loop-preserved
loop-preserved c =
    overlaps_go c.args.big c.args.bytes.now c.args.count c.loop.counter c.loop.at _ c.args.text c.read.result c.loop-test.true c.read.ensures refl c.in_ok-judge_overlap.ensures.0 c.loop.invariant
