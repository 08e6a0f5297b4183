use Rattle.std.proofs.Common.{sym}
use Rattle.text_lines.specs.WordLaws.{front_bytes, some_comment}
use Rattle.text_lines.proofs.words.before_comment.Goals as goal

pub returns-in-Some-clause-value : goal.returns-in-Some-clause-value
returns-in-Some-clause-value c = some_comment c.args.line.now (c.in-Some.front.now, c.in-Some.field-0-1.now) (sym c.in-Some.ensures.value)

pub returns-in-Some-clause-bytes : goal.returns-in-Some-clause-bytes
returns-in-Some-clause-bytes c = front_bytes c.args.line.now (c.in-Some.front.now, c.in-Some.field-0-1.now) (sym c.in-Some.ensures.value)
