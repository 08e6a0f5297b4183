use Rattle.std.specs.Prelude.{◌++◌, ℕ, List, codes, decimal}
use Rattle.ss_base.specs.Text.{hex8}
use Rattle.pipetrace.proofs.Parts.{with_part, with_last}
use Rattle.pipetrace.proofs.printing.push_fetch.Goals as goal

pub returns-clause-ok : goal.returns-clause-ok
returns-clause-ok c =
    let old = c.args.into.now.items in
    let m1 = c.push_number.new.into.items in
    let m2 = c.push_address.new.into.items in
    let m3 = c.push_address-2.new.into.items in
    let x1 : List ℕ = codes "+ " ++ decimal c.args.row in
    let x2 : List ℕ = codes " " ++ hex8 c.args.pc in
    let x3 : List ℕ = codes " " ++ hex8 c.args.next in
    let x4 : List ℕ = codes " " ++ decimal c.args.queued in
    with_last c.push_number-2.result old m3 c.push_number-2.new.into.items (x1 ++ x2 ++ x3) x4
    (with_part old m2 m3 (x1 ++ x2) x3
    (with_part old m1 m2 x1 x2 c.in_ok-push_number.ensures.ok c.in_ok-push_address.ensures.ok)
    c.in_ok-push_address-2.ensures.ok)
    c.push_number-2.ensures.ok
