use Rattle.std.specs.Prelude.{◌++◌, ℕ, List, codes}
use Rattle.ss_base.specs.Text.{hex8, hex_bytes}
use Rattle.sim_safe.proofs.Parts.{with_part, with_last}
use Rattle.sim_safe.proofs.commit.push_write.Goals as goal

pub returns-clause-ok : goal.returns-clause-ok
returns-clause-ok c =
    let old = c.args.into.now.items in
    let at : List ℕ = codes " [" ++ hex8 c.args.addr in
    let m1 = c.push_at.new.into.items in
    let m2 = c.push_bytes.new.into.items in
    with_last c.push_hex_bytes.result old m2 c.push_hex_bytes.new.into.items (at ++ codes "]=") (hex_bytes c.args.bytes.now)
    (with_part old m1 m2 at (codes "]=") c.in_ok-push_at.ensures.ok c.in_ok-push_bytes.ensures.ok)
    c.push_hex_bytes.ensures.ok
