use Rattle.std.proofs.Common.{sym}
use Rattle.text_lines.specs.LineLaws.{more_lines, last_line}
use Rattle.text_lines.proofs.lines.next_line.Goals as goal

pub returns-in-Some-clause-lines : goal.returns-in-Some-clause-lines
returns-in-Some-clause-lines c = more_lines c.args.text.now (c.in-Some.parts.0.now, c.in-Some.parts.1.now) (sym c.in-Some.ensures.value)

pub returns-in-None-clause-lines : goal.returns-in-None-clause-lines
returns-in-None-clause-lines c = last_line c.args.text.now c.requires (sym c.in-None.ensures.value)
