use Rattle.std.proofs.Common.{sym}
use Rattle.text_lines.specs.Lines.{is_blank}
use Rattle.text_lines.specs.WordLaws.{place_some, place_none}
use Rattle.text_lines.proofs.words.word_length.Goals as goal

pub returns-in-Some-clause-value : goal.returns-in-Some-clause-value
returns-in-Some-clause-value c = place_some is_blank c.args.bytes.now c.in-Some.at (sym c.in-Some.ensures.value)

pub returns-in-None-clause-value : goal.returns-in-None-clause-value
returns-in-None-clause-value c = place_none is_blank c.args.bytes.now (sym c.in-None.ensures.value)
