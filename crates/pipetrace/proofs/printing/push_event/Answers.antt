use Rattle.std.specs.Prelude.{◌++◌, codes}
use Rattle.pipetrace.specs.Text.{opening, mark_text}
use Rattle.pipetrace.proofs.Parts.{with_part, with_last}
use Rattle.pipetrace.proofs.printing.push_event.Goals as goal

pub returns-clause-ok : goal.returns-clause-ok
returns-clause-ok c =
    let old = c.args.into.now.items in
    let m1 = c.push_opening.new.into.items in
    let m2 = c.push_mark.new.into.items in
    let first = opening c.args.last c.args.e.now.cycle in
    let second = mark_text c.args.e.now.row c.args.e.now.mark in
    with_last c.push_bytes.result old m2 c.push_bytes.new.into.items (first ++ second) (codes "\n")
    (with_part old m1 m2 first second c.in_ok-push_opening.ensures.ok c.in_ok-push_mark.ensures.ok)
    c.push_bytes.ensures.ok
