use Rattle.std.proofs.Common.{◌∙◌, ℕ, Bool, List, Option, is_some, sym, ap, subst}
use Rattle.pisa_asm.specs.declared.sheet.Sheet.{Sheet}
use Rattle.pisa_asm.specs.Statements.{Words}
use Rattle.pisa_asm.specs.Sheets.{is_known}
use Rattle.pisa_asm.specs.Views.{stated_of}
use Rattle.pisa_asm.specs.Passes.{after_line, read, words_on}
use Rattle.pisa_asm.specs.Kept.{Matches}
use Rattle.pisa_asm.proofs.Turns.{is_some_mapped}
use Rattle.pisa_asm.proofs.assembling.Findings.after.Goals as goal

pub returns-in-Ok-noting : goal.returns-in-Ok-noting
returns-in-Ok-noting c = λ found m.
    let bytes = c.args.bytes.now in
    let label = ap (λ (w : Words). w.label) c.words_on-line.ensures in
    let twice = is_known found.labels (words_on bytes).label in (
      stated_of c.in-Ok.statement,
      ap (λ (s : Sheet). read s (is_some found.entry) twice bytes) m.sheet
          ∙ ap (λ (b : Bool). read c.args.self.sheet b twice bytes) (ap (λ (o : Option (List ℕ)). is_some o) m.entry ∙ is_some_mapped c.args.self.entry ∙ sym c.is_some.ensures)
          ∙ ap (λ (b : Bool). read c.args.self.sheet c.is_some.result b bytes) (ap (λ (l : Option (List ℕ)). is_known found.labels l) (sym label) ∙ sym (c.has-is_twice.ensures found.labels m.labels))
          ∙ c.in-Ok.ensures,
      subst (λ (l : Option (List ℕ)). Matches c.in-Ok-noting.findings (after_line found l (stated_of c.in-Ok.statement))) label (c.in-Ok-noting.ensures found m),
    )
