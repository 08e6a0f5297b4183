use Rattle.std.proofs.Common.{◌<◌, length, rules}
use Rattle.text_lines.specs.WordLaws.{takes_word, takes_none}
use Rattle.text_lines.proofs.words.next_word.Goals as goal

pub returns-then-is_empty : goal.returns-then-is_empty
returns-then-is_empty c = takes_none c.args.line.now c.trim_start-rest.result.now c.trim_start-rest.ensures (search rules)

pub returns : goal.returns
returns c =
    let some : 0 < length c.trim_start-rest.result.now = search rules in
    takes_word c.args.line.now c.trim_start-rest.result.now c.split_at.result.0.now c.split_at.result.1.now c.word_length.result c.trim_start-rest.ensures some c.word_length.ensures.value c.split_at.ensures.front c.split_at.ensures.back
