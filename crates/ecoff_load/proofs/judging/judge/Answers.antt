use Rattle.std.proofs.Common.{◌∙◌, sym}
use Rattle.std.proofs.lemmas.Result.{err_from_is_err_and}
use Rattle.ecoff_load.proofs.Judged.{headers_fail, section_fails, no_text, with_text, its_text}
use Rattle.ecoff_load.proofs.judging.judge.Goals as goal

pub returns-in_err-big : goal.returns-in_err-big
returns-in_err-big c =
    let p = err_from_is_err_and c.from_residual.result c.from_residual.ensures.1 in
    rw (p.1, p.2) (headers_fail c.args.bytes.now c.in_err-big.field-0.0 c.in_err-big.ensures)

pub returns-in_err-judge_sections : goal.returns-in_err-judge_sections
returns-in_err-judge_sections c =
    let p = err_from_is_err_and c.from_residual-in_err-judge_sections.result c.from_residual-in_err-judge_sections.ensures.1 in
    let h = c.in_ok-big.ensures in
    rw (p.1, p.2) (section_fails c.in_ok-big.big c.args.bytes.now c.in_ok-big.count c.in_err-judge_sections.field-0.0 h.0 h.1.0 h.1.1 c.in_err-judge_sections.ensures)

pub returns-in_err-judge_overlaps-in-Some : goal.returns-in_err-judge_overlaps-in-Some
returns-in_err-judge_overlaps-in-Some c =
    let p = err_from_is_err_and c.from_residual-in_err-judge_overlaps-in-Some.result c.from_residual-in_err-judge_overlaps-in-Some.ensures.1 in
    let h = c.in_ok-big.ensures in
    let s = c.in_ok-judge_sections.ensures in
    rw (p.1, p.2) (with_text c.in_ok-big.big c.args.bytes.now c.in_ok-big.count c.in-Some.text h.0 h.1.0 h.1.1 s.0 (sym c.in-Some.is ∙ s.1) ∙ c.in_err-judge_overlaps-in-Some.ensures)

pub returns-in-None : goal.returns-in-None
returns-in-None c =
    let h = c.in_ok-big.ensures in
    let s = c.in_ok-judge_sections.ensures in
    no_text c.in_ok-big.big c.args.bytes.now c.in_ok-big.count c.refused.result h.0 h.1.0 h.1.1 s.0 (sym c.in-None.is ∙ s.1) c.refused.ensures

pub returns-in_ok-judge_overlaps-in-Some : goal.returns-in_ok-judge_overlaps-in-Some
returns-in_ok-judge_overlaps-in-Some c =
    let h = c.in_ok-big.ensures in
    let s = c.in_ok-judge_sections.ensures in
    let text = sym c.in-Some.is ∙ s.1 in (
      with_text c.in_ok-big.big c.args.bytes.now c.in_ok-big.count c.in-Some.text h.0 h.1.0 h.1.1 s.0 text ∙ c.in_ok-judge_overlaps-in-Some.ensures.0,
      (h.1.0, h.1.1, h.1.2, its_text c.in_ok-big.big c.args.bytes.now c.in_ok-big.count c.in-Some.text h.1.1 text),
    )
