use Rattle.std.proofs.Common.{refl}
use Rattle.std.proofs.lemmas.Result.{err_from_is_err_and}
use Rattle.ecoff_load.proofs.Judged.{sections_go, sections_stop}
use Rattle.ecoff_load.proofs.judging.judge_sections.Goals as goal

pub returns-in_err-judge_section : goal.returns-in_err-judge_section
returns-in_err-judge_section c =
    let p = err_from_is_err_and c.from_residual.result c.from_residual.ensures.1 in
    rw (p.1, p.2) (sections_stop c.args.big c.args.bytes.now c.args.count c.loop.counter c.loop.at c.loop.text c.is_some.result c.read-section.result c.in_err-judge_section.field-0.0 c.loop-test.true c.read-section.ensures c.is_some.ensures c.in_err-judge_section.ensures c.loop.invariant)

pub loop-preserved : goal.loop-preserved
loop-preserved c =
    sections_go c.args.big c.args.bytes.now c.args.count c.loop.counter c.loop.at _ c.loop.text c.first_text-text.result c.is_some.result c.read-section.result c.loop-test.true c.read-section.ensures refl c.first_text-text.ensures c.is_some.ensures c.in_ok-judge_section.ensures.0 c.loop.invariant
