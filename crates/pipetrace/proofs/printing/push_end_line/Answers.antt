use Rattle.std.specs.Prelude.{◌++◌, ℕ, List, codes, decimal}
use Rattle.pipetrace.specs.Text.{word_text}
use Rattle.pipetrace.proofs.Parts.{with_part, with_last}
use Rattle.pipetrace.proofs.printing.push_end_line.Goals as goal

pub returns-clause-ok : goal.returns-clause-ok
returns-clause-ok c =
    let old = c.args.into.now.items in
    let m1 = c.push_number.new.into.items in
    let m2 = c.push_bytes.new.into.items in
    let m3 = c.push_word.new.into.items in
    let x1 : List ℕ = codes ". " ++ decimal c.args.cycles in
    let x2 : List ℕ = x1 ++ codes " " in
    let x3 : List ℕ = x2 ++ word_text c.args.end.now in
    with_last c.push_bytes-2.result old m3 c.push_bytes-2.new.into.items x3 (codes "\n")
    (with_part old m2 m3 x2 (word_text c.args.end.now)
    (with_part old m1 m2 x1 (codes " ") c.in_ok-push_number.ensures.ok c.in_ok-push_bytes.ensures.ok)
    c.in_ok-push_word.ensures.ok)
    c.push_bytes-2.ensures.ok
