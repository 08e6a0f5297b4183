use Rattle.std.specs.Prelude.{◌++◌, ℕ, List, codes, decimal}
use Rattle.ss_base.specs.Text.{hex8}
use Rattle.sim_safe.specs.Ends.{cause_text}
use Rattle.sim_safe.proofs.Parts.{with_part, with_last}
use Rattle.sim_safe.proofs.ends.push_stopped.Goals as goal

pub returns-clause-ok : goal.returns-clause-ok
returns-clause-ok c =
    let old = c.args.into.now.items in
    let x1 : List ℕ = codes "stopped " ++ hex8 c.args.pc in
    let x2 : List ℕ = x1 ++ codes " " in
    let x3 : List ℕ = x2 ++ decimal c.args.icnt in
    let m1 = c.push_at.new.into.items in
    let m2 = c.push_bytes.new.into.items in
    let m3 = c.push_decimal.new.into.items in
    let m4 = c.push_bytes-2.new.into.items in
    with_last c.push_cause.result old m4 c.push_cause.new.into.items (x3 ++ codes " ") (cause_text c.args.cause)
    (with_part old m3 m4 x3 (codes " ")
    (with_part old m2 m3 x2 (decimal c.args.icnt)
    (with_part old m1 m2 x1 (codes " ") c.in_ok-push_at.ensures.ok c.in_ok-push_bytes.ensures.ok)
    c.in_ok-push_decimal.ensures.ok)
    c.in_ok-push_bytes-2.ensures.ok)
    c.push_cause.ensures.ok
