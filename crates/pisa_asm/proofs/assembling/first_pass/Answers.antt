use Rattle.std.proofs.Common.{refl, sym, subst, Err, arith}
use Rattle.ss_base.specs.declared.text_fault.AsmFault.{AsmFault}
use Rattle.text_lines.specs.Lines.{lines_of}
use Rattle.pisa_asm.specs.Passes.{first_pass, nothing_found}
use Rattle.pisa_asm.specs.Kept.{Finds}
use Rattle.pisa_asm.proofs.Turns.{goes_on, ends_wrong, is_done}
use Rattle.pisa_asm.proofs.assembling.first_pass.Goals as goal

pub lines-init : goal.lines-init
lines-init c = record { found = nothing_found; matches = c.new-findings.ensures; so_far = refl; counted = omega arith }

pub lines-preserved : goal.lines-preserved
lines-preserved c =
    goes_on c.lines.findings c.in-Ok.next c.lines.number c.lines.rest.now c.args.text.now c.next_line.result.0.now c.next_line.result.1.now c.lines.invariant c.next_line.ensures.lines c.next_line.ensures.shorter (λ found m. c.in-Ok.ensures found m)

pub returns-in-Err : goal.returns-in-Err
returns-in-Err c =
    subst (λ (f : AsmFault). Finds (Err f) (first_pass 1 nothing_found (lines_of c.args.text.now))) (sym c.at.ensures)
    (ends_wrong c.lines.findings c.in-Err.stop c.lines.number c.lines.rest.now c.args.text.now c.next_line.result.0.now c.next_line.result.1.now c.lines.invariant c.next_line.ensures.lines (λ found m. c.in-Err.ensures found m))

pub returns : goal.returns
returns c = is_done c.lines.findings c.lines.number c.lines.rest.now c.args.text.now c.lines.invariant (omega arith)
